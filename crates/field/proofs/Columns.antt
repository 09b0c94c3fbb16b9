-- R23: an index entry by its columns.
-- Assumes nothing.
use mathlib.Core.Path.{◌≡◌, refl}
use mathlib.Core.List.{List, [], ◌∷◌}
use Prim.Native.Nat.{ℕ}
use native.Mathlib.Omega.{arith}
use lib.ListN.{length, get_or}
use Rattle.number.specs.declared.Scan.TheVariants.{Blanks}
use Rattle.number.specs.Scan.{class_of, step_of}
use Rattle.field.specs.Entry.{count_in, entry_of}

-- three columns, one behind the other
pub entry_columns : (s : List ℕ) → length s ≡ 3 → entry_of s ≡ count_in (step_of (class_of (get_or s 2 0)) (step_of (class_of (get_or s 1 0)) (step_of (class_of (get_or s 0 0)) Blanks)))
unfolding entry_of
entry_columns [] h = absurd (omega arith)
entry_columns (a ∷ []) h = absurd (omega arith)
entry_columns (a ∷ (b ∷ [])) h = absurd (omega arith)
entry_columns (a ∷ (b ∷ (c ∷ []))) h = refl
entry_columns (a ∷ (b ∷ (c ∷ (d ∷ s)))) h = absurd (omega arith)
