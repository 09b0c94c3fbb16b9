-- Two words are the same exactly if they are equal, byte by byte.
-- Assumes nothing.
use mathlib.Core.Path.{◌≡◌, refl, sym}
use mathlib.Core.Bool.{Bool, true, false, ◌&&◌, true≢false}
use mathlib.Core.List.{List, [], ◌∷◌}
use Prim.Native.Nat.{ℕ}
use lib.Dec.{eqb}
use borrow.Author.Tests.{eq-eqb, eqb-true}
use Rattle.words.specs.Words.{same_bytes}

pub same_is : (a b : List ℕ) → same_bytes a b ≡ true → a ≡ b
unfolding same_bytes
same_is [] [] e = refl
same_is [] (y ∷ ys) e = absurd (true≢false (sym e))
same_is (x ∷ xs) [] e = absurd (true≢false (sym e))
same_is (x ∷ xs) (y ∷ ys) e = by (eqb x y) refl e (same_is xs ys)
  where
    by : (t : Bool) → eqb x y ≡ t → t && same_bytes xs ys ≡ true → (same_bytes xs ys ≡ true → xs ≡ ys) → x ∷ xs ≡ y ∷ ys
    by true u e rest = rw (eqb-true x y u, rest e)
    by false u e rest = absurd (true≢false (sym e))

pub is_same : (a : List ℕ) → same_bytes a a ≡ true
unfolding same_bytes
is_same [] = refl
is_same (x ∷ xs) = rw (eq-eqb x x refl) (is_same xs)
