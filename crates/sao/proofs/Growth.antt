-- R256 to R258: what growth keeps (specs/Growth.antt).
-- Assumes nothing.
use Rattle.rules.specs.declared.Rules.{Rules}
use Rattle.place.proofs.Growth.{growth_keeps}
use Rattle.group.proofs.Growth.{answers_stay}
use Rattle.view.proofs.Placed.{growth_kept}
use Rattle.since.proofs.Kept as First
use Rattle.whole.proofs.Kept as Whole
use Rattle.rewriting.proofs.Growth.{rewriting_stays}
use Rattle.sao.specs.Growth.{Growth}

pub growth : (ρ : Rules) → Growth ρ
growth ρ = record { placing = growth_keeps ρ; groups = answers_stay ρ; records = growth_kept ρ; whole = Whole.growth_kept ρ; first = First.growth_kept ρ; rewriting = rewriting_stays ρ }
