-- Sums of the first entries of a list, and of ones.
-- Assumes nothing.
use mathlib.Core.Path.{◌≡◌, refl, sym, ◌∙◌, ap}
use mathlib.Core.List.{List, [], ◌∷◌, ◌++◌, map}
use Prim.Native.Nat.{ℕ, zero, suc, ◌+◌, ◌<◌, ◌≤◌}
use native.Mathlib.Omega.{arith}
use native.Mathlib.Nat.{add_assoc, zero-add}
use lib.ListN.{length, take, get_or}
use Rattle.base.specs.Sum.{sum}

pub sum_append : (a b : List ℕ) → sum (a ++ b) ≡ sum a + sum b
unfolding sum
sum_append [] b = sym (zero-add (sum b))
sum_append (x ∷ a) b = ap (λ n. x + n) (sum_append a b) ∙ sym (add_assoc x (sum a) (sum b))

-- one entry more
pub sum_take_more : (ns : List ℕ) (g : ℕ) → g < length ns → sum (take (suc g) ns) ≡ sum (take g ns) + get_or ns g 0
unfolding sum
sum_take_more [] g h = absurd (omega arith)
sum_take_more (n ∷ ns) zero h = omega (arith, sum_none ns)
  where
    sum_none : (ns : List ℕ) → sum (take 0 ns) ≡ 0
    sum_none [] = refl
    sum_none (n ∷ ns) = refl
sum_take_more (n ∷ ns) (suc g) h = omega (arith, sum_take_more ns g (omega arith))

-- fewer entries sum to no more
pub sum_take_mono : (ns : List ℕ) (g h : ℕ) → g ≤ h → sum (take g ns) ≤ sum (take h ns)
unfolding sum
sum_take_mono [] zero zero l = omega arith
sum_take_mono [] zero (suc h) l = omega arith
sum_take_mono [] (suc g) zero l = absurd (omega arith)
sum_take_mono [] (suc g) (suc h) l = omega arith
sum_take_mono (n ∷ ns) zero h l = omega arith
sum_take_mono (n ∷ ns) (suc g) zero l = absurd (omega arith)
sum_take_mono (n ∷ ns) (suc g) (suc h) l = omega (arith, sum_take_mono ns g h (omega arith))

-- a one for each element
pub sum_ones : {A : Type 0} (xs : List A) → sum (map (λ (x : A). 1) xs) ≡ length xs
unfolding sum
sum_ones [] = refl
sum_ones (x ∷ xs) = omega (arith, sum_ones xs)

-- a sum of lower numbers
pub sum_map_le : {A : Type 0} (f h : A → ℕ) → ((a : A) → f a ≤ h a) → (bs : List A) → sum (map f bs) ≤ sum (map h bs)
unfolding sum
sum_map_le f h l [] = omega arith
sum_map_le f h l (a ∷ bs) = omega (arith, l a, sum_map_le f h l bs)
