-- A record that is placed with 0 is read by what it carries as its groups are by its place.
-- Assumes nothing.
use mathlib.Core.Path.{◌≡◌, refl, sym}
use mathlib.Core.List.{List}
use Prim.Native.Nat.{ℕ, ◌≤◌}
use native.Mathlib.Omega.{arith}
use Rattle.rules.specs.declared.Rules.{Rules}
use Rattle.count.specs.Tally.{cells_in}
use Rattle.place.specs.declared.Placing.TheVariants.{Placed}
use Rattle.place.specs.Placing.{placing_of, counts_at, carried_at}
use Rattle.place.proofs.Parted.{named_lines}
use Rattle.place.proofs.Zero.{IsPlaced, is_placed_lem}
use Rattle.group.proofs.Texts.{read_located}
use Rattle.whole.specs.Turn.{group_read, all_in_turn}
use Rattle.whole.specs.Whole.{whole_read, group_by, all_by, whole_by}
use Rattle.whole.proofs.Turns.{turn_same}

module _ (ρ : Rules) (s : List ℕ) (at next : ℕ) (placed : placing_of ρ s at ≡ Placed next) where
  abbrev ns : List ℕ
  ns = counts_at ρ s at

  here : IsPlaced ρ s at next
  here = is_placed_lem ρ s at next placed

  pub group_by_lem : (g : ℕ) → 1 ≤ g → g ≤ 60 → group_by ρ s (carried_at ρ s at) g ≡ group_read ρ s at g
  group_by_lem g low high = rw (named_lines ρ s at next placed g low high) (sym (read_located ρ s at g (cells_in ρ ns g) next ns here.located_at))

  pub all_by_lem : all_by ρ s (carried_at ρ s at) ≡ all_in_turn ρ s at
  all_by_lem = turn_same (group_by ρ s (carried_at ρ s at)) (group_read ρ s at) 1 60 (λ g low high. group_by_lem g low (omega arith))

  pub whole_by_lem : (room : ℕ) → whole_by ρ s (carried_at ρ s at) room ≡ whole_read ρ s at room
  unfolding whole_read
  whole_by_lem room = rw (placed, all_by_lem) refl
