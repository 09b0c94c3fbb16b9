-- A test at each element: what passes at every one passes at each, so that one computed test proves a table's rule; of two lists together,
-- by another test, in parts, as a loop meets the elements, and at columns.
-- Assumes nothing.
use mathlib.Core.Path.{◌≡◌, sym, ◌∙◌, subst}
use mathlib.Core.Bool.{Bool, true, false}
use mathlib.Core.List.{List, [], ◌∷◌, ◌++◌}
use mathlib.Core.Logic.{⊎_elim}
use Prim.Native.Nat.{ℕ, zero, suc, ◌+◌, ◌-◌, ◌<◌, ◌≤◌}
use native.Mathlib.Nat.{add-zero, add-suc, suc-add, le_of_suc-le-suc, not-suc-le-zero}
use native.Mathlib.Omega.{arith}
use types.Run.{OneOf}
use lib.Dec.{T, eqb, leb, leb→le, eqb→eq, eqb_refl}
use lib.ListN.{length, get_or, take, drop, drop_of_length-le}
use lib.Seq.{drop-cons}
use native.Mathlib.Numerals.{add-one}
use Rattle.base.specs.Every.{every, has, up_from}
use Rattle.base.proofs.Choice.{and_left, and_right, and_both, or_elim, or_left, or_right}
use Rattle.base.specs.Columns.{columns}

-- what passes at every element, and at the default, passes at each index
pub every_get_d : {A : Type 0} (f : A → Bool) (d : A) (xs : List A) → T (every f xs) → T (f d) → (k : ℕ) → T (f (get_or xs k d))
every_get_d f d [] t td k = td
every_get_d f d (x ∷ xs) t td zero = and_left (f x) (every f xs) t
every_get_d f d (x ∷ xs) t td (suc k) = every_get_d f d xs (and_right (f x) (every f xs) t) td k

-- one element more, as a loop meets it: it passes, it fails, there is none
pub every_passed : {A : Type 0} (f : A → Bool) (d : A) (xs : List A) (i : ℕ) → i < length xs → f (get_or xs i d) ≡ true → every f (drop (i + 1) xs) ≡ every f (drop i xs)
every_passed f d xs i h e = rw (add-one i, drop-cons xs i d h, e)

pub every_failed : {A : Type 0} (f : A → Bool) (d : A) (xs : List A) (i : ℕ) → i < length xs → f (get_or xs i d) ≡ false → every f (drop i xs) ≡ false
every_failed f d xs i h e = rw (drop-cons xs i d h, e)

pub every_done : {A : Type 0} (f : A → Bool) (xs : List A) (i : ℕ) → length xs ≤ i → every f (drop i xs) ≡ true
every_done f xs i h = rw (drop_of_length-le xs h)

-- what passes at every number of a list passes at each number that the list has
pub every_has : (f : ℕ → Bool) (ks : List ℕ) → T (every f ks) → (x : ℕ) → T (has ks x) → T (f x)
every_has f [] t x h = absurd h
every_has f (k ∷ ks) t x h =
    ⊎_elim
    (λ e. subst (λ (n : ℕ). T (f n)) (eqb→eq k x e) (and_left (f k) (every f ks) t))
    (λ r. every_has f ks (and_right (f k) (every f ks) t) x r)
    (or_elim (eqb k x) (has ks x) h)

-- and back: what passes at each number that a list has passes at every one
pub has_every : (f : ℕ → Bool) (ks : List ℕ) → ((x : ℕ) → T (has ks x) → T (f x)) → T (every f ks)
has_every f [] h = tt
has_every f (k ∷ ks) h =
    and_both (f k) (every f ks) (h k (or_left (eqb k k) (has ks k) (eqb_refl k)))
    (has_every f ks (λ x t. h x (or_right (eqb k x) (has ks x) t)))

every_from : (f : ℕ → Bool) (lo n : ℕ) → T (every f (up_from lo n)) → (k : ℕ) → k < n → T (f (lo + k))
unfolding up_from
every_from f lo zero t k h = absurd (not-suc-le-zero h)
every_from f lo (suc n) t zero h = rw add-zero (and_left (f lo) (every f (up_from (suc lo) n)) t)
every_from f lo (suc n) t (suc k) h =
    subst (λ (m : ℕ). T (f m)) (suc-add lo k ∙ sym (add-suc lo k))
    (every_from f (suc lo) n (and_right (f lo) (every f (up_from (suc lo) n)) t) k (le_of_suc-le-suc h))

-- what passes at each of the n numbers from lo on passes at each number between
pub every_between : (f : ℕ → Bool) (lo n : ℕ) → T (every f (up_from lo n)) → (x : ℕ) → lo ≤ x → x < lo + n → T (f x)
every_between f lo n t x a b =
    let e : lo + (x - lo) ≡ x = omega arith in
    subst (λ (m : ℕ). T (f m)) e (every_from f lo n t (x - lo) (omega arith))

module _ {A : Type 0} (f : A → Bool) where
  pub every_append : (xs ys : List A) → T (every f xs) → T (every f ys) → T (every f (xs ++ ys))
  every_append [] ys s t = t
  every_append (x ∷ xs) ys s t =
      and_both (f x) (every f (xs ++ ys)) (and_left (f x) (every f xs) s) (every_append xs ys (and_right (f x) (every f xs) s) t)

  -- what passes a test that implies another passes the other
  pub every_imply : (g : A → Bool) (xs : List A) → ((x : A) → T (f x) → T (g x)) → T (every f xs) → T (every g xs)
  every_imply g [] h t = tt
  every_imply g (x ∷ xs) h t =
      and_both (g x) (every g xs) (h x (and_left (f x) (every f xs) t)) (every_imply g xs h (and_right (f x) (every f xs) t))

  pub every_at : (d : A) (xs : List A) → T (every f xs) → (k : ℕ) → k < length xs → T (f (get_or xs k d))
  every_at d [] t k h = absurd (not-suc-le-zero h)
  every_at d (x ∷ xs) t zero h = and_left (f x) (every f xs) t
  every_at d (x ∷ xs) t (suc k) h = every_at d xs (and_right (f x) (every f xs) t) k (le_of_suc-le-suc h)

  -- and back: what passes at each index passes at every element
  pub at_every : (d : A) (xs : List A) → ((k : ℕ) → k < length xs → T (f (get_or xs k d))) → T (every f xs)
  at_every d [] h = tt
  at_every d (x ∷ xs) h = and_both (f x) (every f xs) (h 0 (omega arith)) (at_every d xs (λ k l. h (suc k) (omega arith)))

-- at the first k and at the others
pub every_take : {A : Type 0} (f : A → Bool) (k : ℕ) (xs : List A) → T (every f xs) → T (every f (take k xs))
every_take f zero [] t = tt
every_take f zero (x ∷ xs) t = tt
every_take f (suc k) [] t = tt
every_take f (suc k) (x ∷ xs) t = and_both (f x) (every f (take k xs)) (and_left (f x) (every f xs) t) (every_take f k xs (and_right (f x) (every f xs) t))

pub every_drop : {A : Type 0} (f : A → Bool) (k : ℕ) (xs : List A) → T (every f xs) → T (every f (drop k xs))
every_drop f zero [] t = tt
every_drop f zero (x ∷ xs) t = t
every_drop f (suc k) [] t = tt
every_drop f (suc k) (x ∷ xs) t = every_drop f k xs (and_right (f x) (every f xs) t)

-- what passes at each byte that `last` gives passes at each column
pub columns_every : {S : Type 0} (last : S → ℕ) (back : S → S) (f : ℕ → Bool) → ((s : S) → T (f (last s))) → (w : ℕ) (s : S) → T (every f (columns last back w s))
columns_every last back f h zero s = tt
columns_every last back f h (suc k) s =
    every_append f (columns last back k (back s)) (last s ∷ []) (columns_every last back f h k (back s)) (and_both (f (last s)) true (h s) tt)

-- the first variant of an enum is none of the others, which are told by their numbers
pub not_first : (ks : List ℕ) → T (every (leb 1) ks) → OneOf ks 0 → ⊥
not_first [] t h = h
not_first (k ∷ []) t h = omega (arith, leb→le 1 k (and_left (leb 1 k) true t), h)
not_first (k ∷ (j ∷ ks)) t h =
    ⊎_elim
    (λ (e : 0 ≡ k). omega (arith, leb→le 1 k (and_left (leb 1 k) (every (leb 1) (j ∷ ks)) t)))
    (λ r. not_first (j ∷ ks) (and_right (leb 1 k) (every (leb 1) (j ∷ ks)) t) r)
    h
