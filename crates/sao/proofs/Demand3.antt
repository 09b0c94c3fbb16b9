-- D3, the third demand, as an instance of damage to any set of groups (specs/Demand3.antt).
-- Assumes nothing.
use Rattle.rules.specs.declared.Rules.{Rules}
use Rattle.group.specs.Damage.{OneGroup}
use Rattle.group.proofs.Damage.{damage_stays}
use Rattle.view.proofs.Placed.{damage_kept}
use Rattle.since.proofs.Kept as First
use Rattle.whole.proofs.Kept as Whole
use Rattle.sao.specs.Demand3.{AnyDamage, Demand3}

pub any_damage : (ρ : Rules) → AnyDamage ρ
any_damage ρ t u among d = record { confined = damage_stays ρ t u among d; records = damage_kept ρ t u among d; whole = Whole.damage_kept ρ t u among d; first = First.damage_kept ρ t u among d }

pub demand_3 : (ρ : Rules) → Demand3 ρ
demand_3 ρ t u k g d = any_damage ρ t u (OneGroup k g) d
