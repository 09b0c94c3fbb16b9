-- A beginning of a beginning, a rest of a beginning, a part of a part; a list is its parts of equal length.
-- Assumes nothing.
use mathlib.Core.Path.{◌≡◌, refl, sym, ◌∙◌, ap}
use mathlib.Core.List.{List, [], ◌∷◌}
use Prim.Native.Nat.{ℕ, zero, suc, ◌+◌, ◌-◌, ◌*◌, ◌<◌, ◌≤◌, min}
use native.Mathlib.Nat.{sub-zero, zero-mul, suc-mul}
use native.Mathlib.Omega.{arith}
use lib.ListN.{length, take, drop, length-drop, take-append-drop}
use lib.Seq.{drop-drop}
use Rattle.base.specs.Part.{part}

module _ {A : Type 0} where
  pub drop_none : (x : List A) → drop 0 x ≡ x
  drop_none [] = refl
  drop_none (y ∷ x) = refl

  pub take_none : (x : List A) → take 0 x ≡ []
  take_none [] = refl
  take_none (y ∷ x) = refl

  take_nil : (n : ℕ) → take {A = A} n [] ≡ []
  take_nil zero = refl
  take_nil (suc n) = refl

  pub drop_take : (d n : ℕ) (x : List A) → drop d (take n x) ≡ take (n - d) (drop d x)
  drop_take zero n x = drop_none (take n x) ∙ rw (sub-zero n, drop_none x)
  drop_take (suc d) zero [] = sym (take_nil (0 - suc d))
  drop_take (suc d) (suc n) [] = sym (take_nil (suc n - suc d))
  drop_take (suc d) zero (y ∷ x) = let e : 0 - suc d ≡ 0 = omega arith in rw e (sym (take_none (drop d x)))
  drop_take (suc d) (suc n) (y ∷ x) = let e : suc n - suc d ≡ n - d = omega arith in rw e (drop_take d n x)

  pub take_both : (m n : ℕ) (x : List A) → take m (take n x) ≡ take (min m n) x
  take_both m n [] = ap (take m) (take_nil n) ∙ take_nil m ∙ sym (take_nil (min m n))
  take_both zero n (y ∷ x) = take_none (take n (y ∷ x)) ∙ (let e : min 0 n ≡ 0 = omega arith in rw e)
  take_both (suc m) zero (y ∷ x) = let e : min (suc m) 0 ≡ 0 = omega arith in rw e
  take_both (suc m) (suc n) (y ∷ x) =
      let e : min (suc m) (suc n) ≡ suc (min m n) = omega arith in
      rw e (ap (λ l. y ∷ l) (take_both m n x))

  pub part_zero : (n : ℕ) (x : List A) → part 0 n x ≡ take n x
  part_zero n x = rw (sub-zero n, drop_none x)

  -- a beginning of a part
  pub part_begin : (at end n : ℕ) (s : List A) → n ≤ end - at → part 0 n (part at end s) ≡ take n (drop at s)
  part_begin at end n s h =
      let m : min (n - 0) (end - at) ≡ n = omega arith in
      ap (take (n - 0)) (drop_none (part at end s)) ∙ take_both (n - 0) (end - at) (drop at s) ∙ rw m

  -- a part of a part
  pub part_part : (a e b d : ℕ) (s : List A) → a + d ≤ e → part b d (part a e s) ≡ part (a + b) (a + d) s
  part_part a e b d s h =
      let m : min (d - b) (e - a - b) ≡ a + d - (a + b) = omega arith in
      ap (take (d - b)) (drop_take b (e - a) (drop a s)) ∙ take_both (d - b) (e - a - b) (drop b (drop a s)) ∙ rw (m, drop-drop b a s)

-- lists that are the same in each of their parts of c elements, one behind the other
pub parts_same : {A : Type 0} (c n : ℕ) (xs ys : List A) → length xs ≡ n * c → length ys ≡ n * c → ((i : ℕ) → i < n → part (i * c) (i * c + c) xs ≡ part (i * c) (i * c + c) ys) → xs ≡ ys
parts_same {A} c zero xs ys a b h = nothing xs (a ∙ zero-mul c) ∙ sym (nothing ys (b ∙ zero-mul c))
  where
    nothing : (zs : List A) → length zs ≡ 0 → zs ≡ []
    nothing [] e = refl
    nothing (z ∷ zs) e = absurd (omega arith)
parts_same {A} c (suc n) xs ys a b h =
    sym (take-append-drop c xs)
    ∙ rw (first, parts_same c n (drop c xs) (drop c ys) (rest xs a) (rest ys b) later)
    (take-append-drop c ys)
  where
    begin : (zs : List A) → part (0 * c) (0 * c + c) zs ≡ take c zs
    begin zs =
        let e : 0 * c + c - 0 * c ≡ c = omega arith in
        rw (e, zero-mul c, drop_none zs)

    first : take c xs ≡ take c ys
    first = sym (begin xs) ∙ h 0 (omega arith) ∙ begin ys

    rest : (zs : List A) → length zs ≡ suc n * c → length (drop c zs) ≡ n * c
    rest zs e = length-drop c zs ∙ omega (arith, suc-mul n c)

    shift : (i : ℕ) (zs : List A) → part (i * c) (i * c + c) (drop c zs) ≡ part (suc i * c) (suc i * c + c) zs
    shift i zs =
        let e : i * c + c - i * c ≡ suc i * c + c - suc i * c = omega arith in
        let d : c + i * c ≡ suc i * c = omega (arith, suc-mul i c) in
        rw (e, drop-drop (i * c) c zs, d)

    later : (i : ℕ) → i < n → part (i * c) (i * c + c) (drop c xs) ≡ part (i * c) (i * c + c) (drop c ys)
    later i l = shift i xs ∙ h (suc i) (omega arith) ∙ sym (shift i ys)
