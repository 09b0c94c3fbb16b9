-- A list taken apart at its last element: an induction.
-- Assumes nothing.
use mathlib.Core.List.{List, [], ◌∷◌, ◌++◌, append_assoc, append-nil}

module _ {A : Type 0} (P : List A → Type 0) (more : (xs : List A) (x : A) → P xs → P (xs ++ (x ∷ []))) where
  behind_some : (xs ys : List A) → P xs → P (xs ++ ys)
  behind_some xs [] p = rw (append-nil xs) p
  behind_some xs (y ∷ ys) p = rw (append_assoc xs (y ∷ []) ys) at (behind_some (xs ++ (y ∷ [])) ys (more xs y p))

  pub from_last : (xs : List A) → P [] → P xs
  from_last xs p = behind_some [] xs p
