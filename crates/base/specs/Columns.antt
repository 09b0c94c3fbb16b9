-- Columns that are filled from the last to the first.
use Rattle.std.specs.Prelude.{List, [], ◌∷◌, ◌++◌, ℕ, zero, suc}

-- k columns: `last` gives the byte in the last one, and `back` what the columns before it hold
abbrev pub columns : {S : Type 0} → (S → ℕ) → (S → S) → ℕ → S → List ℕ
columns last back zero s = []
columns last back (suc k) s = columns last back k (back s) ++ (last s ∷ [])

-- what stands before the last k columns
abbrev pub backs : {S : Type 0} → (S → S) → ℕ → S → S
backs back zero s = s
backs back (suc k) s = backs back k (back s)
