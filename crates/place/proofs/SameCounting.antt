-- R12: under rules that count alike the lines of each group stand at the same places, and records carry the same.
-- Assumes nothing.
use mathlib.Core.Path.{◌≡◌, ap, ap₂}
use mathlib.Core.List.{List}
use Prim.Native.Nat.{ℕ, suc, ◌+◌}
use lib.ListN.{drop}
use Rattle.rules.specs.declared.Rules.{Rules}
use Rattle.base.specs.Part.{part}
use Rattle.line.specs.Lines.{reach}
use Rattle.count.proofs.SameCounting.{lines_before_same}
use Rattle.place.specs.Parts.{start, group_part}
use Rattle.place.specs.Placing.{locate, carried_at}
use Rattle.place.proofs.Spans.{carried_same}

module _ (σ ρ : Rules) (alike : σ.counting ≡ ρ.counting) (s : List ℕ) (at : ℕ) (ns : List ℕ) where
  pub start_counted : (g : ℕ) → start σ s at ns g ≡ start ρ s at ns g
  unfolding start
  start_counted g = ap (λ k. at + reach (drop at s) k) (lines_before_same σ ρ alike ns g)

  pub part_counted : (g : ℕ) → group_part σ s at ns g ≡ group_part ρ s at ns g
  unfolding group_part
  part_counted g = ap₂ (λ a b. part a b s) (start_counted g) (start_counted (suc g))

pub carried_counted : (σ ρ : Rules) → σ.counting ≡ ρ.counting → (s : List ℕ) (at : ℕ) → locate σ s at ≡ locate ρ s at → carried_at σ s at ≡ carried_at ρ s at
carried_counted σ ρ alike s at e = carried_same σ s ρ s at e (λ n ns u. start_counted σ ρ alike s at ns)
