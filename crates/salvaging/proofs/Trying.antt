-- A try of a place, as the code goes: what placing answered, and then the three groups by the lines that the record names.
-- Assumes nothing.
use mathlib.Core.Path.{◌≡◌, refl}
use mathlib.Core.Bool.{false, ◌&&◌}
use mathlib.Core.List.{List}
use Prim.Native.Nat.{ℕ}
use native.Mathlib.Omega.{arith}
use Rattle.rules.specs.declared.Rules.{Rules}
use Rattle.place.specs.declared.Placing.{Placing}
use Rattle.place.specs.declared.Placing.TheVariants as P
use Rattle.place.specs.Placing.{Carried, placing_of, carried_at}
use Rattle.whole.proofs.Placed.{group_by_lem}
use Rattle.whole.specs.Turn.{group_read}
use Rattle.salvaging.specs.Stretch.{is_zero, is_read, are_read, is_sound}

module _ (ρ : Rules) (s : List ℕ) (at : ℕ) where
  pub sound_unplaced : {p : Placing} → placing_of ρ s at ≡ p → ((next : ℕ) → p ≡ P.Placed next → ⊥) → false ≡ is_sound ρ s at
  unfolding is_sound
  sound_unplaced {p} e other = rw e (by p other)
    where
      by : (p : Placing) → ((next : ℕ) → p ≡ P.Placed next → ⊥)
          → false ≡ (is_zero p && (is_read (group_read ρ s at 1) && (is_read (group_read ρ s at 3) && is_read (group_read ρ s at 4))))
      by (P.Placed next) other = absurd (other next refl)
      by (P.BrokenRule g next) other = refl
      by (P.Refused why) other = refl

  pub sound_placed : {next : ℕ} {r : Carried} → placing_of ρ s at ≡ P.Placed next → r ≡ carried_at ρ s at → are_read ρ s r ≡ is_sound ρ s at
  unfolding is_sound
  sound_placed {next} placed e =
      rw (
        e,
        placed,
        group_by_lem ρ s at next placed 1 (omega arith) (omega arith),
        group_by_lem ρ s at next placed 3 (omega arith) (omega arith),
        group_by_lem ρ s at next placed 4 (omega arith) (omega arith),
      ) refl
