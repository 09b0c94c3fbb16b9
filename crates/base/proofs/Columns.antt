-- Columns from the last to the first: as a loop stores them, in two stretches, and as they come back from a part that was lent.
-- Assumes nothing.
use mathlib.Core.Path.{◌≡◌, refl, ap, ◌∙◌}
use mathlib.Core.List.{List, [], ◌∷◌, ◌++◌, append_assoc, append-nil}
use Prim.Native.Nat.{ℕ, zero, suc, ◌+◌, ◌-◌, ◌<◌, ◌≤◌}
use native.Mathlib.Omega.{arith}
use lib.ListN.{length, take, drop, set, length-set, drop_of_length-le, length-append}
use lib.Seq.{drop-cons, get_or-set_same, drop-set-lt}
use Rattle.base.specs.Columns.{columns, backs}
use Rattle.base.specs.Part.{part, over}
use Rattle.base.proofs.Part.{part_length, over_lent}

before_last : (k : ℕ) → suc k - 1 ≡ k
before_last k = omega arith

module _ {S : Type 0} (last : S → ℕ) (back : S → S) where
  pub columns_length : (w : ℕ) (s : S) → length (columns last back w s) ≡ w
  columns_length zero s = refl
  columns_length (suc k) s = length-append (columns last back k (back s)) (last s ∷ []) ∙ ap (λ n. n + 1) (columns_length k (back s)) ∙ omega arith

  -- a loop that stores the last column and goes back: where it begins, a turn, where it ends
  pub columns_whole : (s : S) (out : List ℕ) → columns last back (length out) s ++ drop (length out) out ≡ columns last back (length out) s
  columns_whole s out = rw (drop_of_length-le out {i = length out} (omega arith)) (append-nil (columns last back (length out) s))

  pub columns_turn : (i : ℕ) (s : S) (out : List ℕ) → 0 < i → i ≤ length out → columns last back (i - 1) (back s) ++ drop (i - 1) (set out (i - 1) (last s)) ≡ columns last back i s ++ drop i out
  columns_turn zero s out h p = absurd (omega arith)
  columns_turn (suc k) s out h p =
      let q : k < length (set out k (last s)) = simp length-set p in
      rw (
        before_last k,
        drop-cons (set out k (last s)) k 0 q,
        get_or-set_same out k (last s) 0 p,
        drop-set-lt (suc k) out k (last s) (omega arith),
        append_assoc
            (columns last back k (back s)) (last s ∷ []) (drop (suc k) out),
      )

  pub columns_done : (i : ℕ) (s : S) (out : List ℕ) → i ≤ 0 → columns last back i s ++ drop i out ≡ out
  columns_done zero s out h = refl
  columns_done (suc i) s out h = absurd (omega arith)

  -- one column more in front
  pub columns_front : (j : ℕ) (s : S) → columns last back (suc j) s ≡ last (backs back j s) ∷ columns last back j s
  columns_front zero s = refl
  columns_front (suc j) s = ap (λ l. l ++ (last s ∷ [])) (columns_front j (back s))

  pub backs_more : (j : ℕ) (s : S) → backs back (suc j) s ≡ back (backs back j s)
  backs_more zero s = refl
  backs_more (suc j) s = backs_more j (back s)

  -- what stands before the columns, as the loop goes back
  pub backs_turn : (i : ℕ) (s : S) → 0 < i → backs back (i - 1) (back s) ≡ backs back i s
  backs_turn zero s h = absurd (omega arith)
  backs_turn (suc k) s h = rw (before_last k)

  pub backs_done : (i : ℕ) (s : S) → i ≤ 0 → backs back i s ≡ s
  backs_done zero s h = refl
  backs_done (suc i) s h = absurd (omega arith)

  -- columns that a callee put into the part that it was lent
  pub columns_lent : (xs ys : List ℕ) (at w : ℕ) (s : S) → at + w ≤ length xs → ys ≡ columns last back (length (part at (at + w) xs)) s
      → take at xs ++ (ys ++ drop (at + w - at) (drop at xs)) ≡ over at (columns last back w s) xs
  columns_lent xs ys at w s h e =
      let d : at + w - at ≡ w = omega arith in
      let f : ys ≡ columns last back w s = e ∙ ap (λ n. columns last back n s) (part_length xs at w h) in
      rw (f, d) (over_lent xs (columns last back w s) at w (columns_length w s))
