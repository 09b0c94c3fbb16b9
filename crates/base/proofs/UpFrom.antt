-- Lists over the numbers from one on, and from one up to and with another; lists for each of them, one behind the other.
-- Assumes nothing.
use mathlib.Core.Path.{◌≡◌, refl, sym, ◌∙◌, ap, ap₂, subst}
use mathlib.Core.List.{List, [], ◌∷◌, ◌++◌, map, flat_map}
use Prim.Native.Nat.{ℕ, zero, suc, ◌+◌, ◌-◌, ◌*◌, ◌<◌, ◌≤◌}
use native.Mathlib.Nat.{add-zero, zero-add, add-suc, suc-add, zero-mul, suc-mul}
use native.Mathlib.Numerals.{add-one}
use native.Mathlib.Omega.{arith}
use lib.ListN.{length, get_or, take, drop}
use lib.Seq.{drop-drop}
use Rattle.base.specs.Every.{up_from}
use Rattle.base.specs.Part.{part}
use Rattle.base.specs.Pieces.{Own}
use Rattle.base.specs.Sum.{sum}
use Rattle.base.proofs.Part.{part_append}
use Rattle.base.proofs.Taken.{take_none, drop_none}

pub length_up : (a n : ℕ) → length (up_from a n) ≡ n
unfolding up_from
length_up a zero = refl
length_up a (suc n) = ap suc (length_up (suc a) n)

pub get_d_up : (a n i d : ℕ) → i < n → get_or (up_from a n) i d ≡ a + i
unfolding up_from
get_d_up a zero i d h = absurd (omega arith)
get_d_up a (suc n) zero d h = sym (add-zero a)
get_d_up a (suc n) (suc i) d h = get_d_up (suc a) n i d (omega arith) ∙ suc-add a i ∙ sym (add-suc a i)

pub get_d_map_up : {B : Type 0} (f : ℕ → B) (a n i : ℕ) (d : B) → i < n → get_or (map f (up_from a n)) i d ≡ f (a + i)
unfolding up_from
get_d_map_up f a zero i d h = absurd (omega arith)
get_d_map_up f a (suc n) zero d h = rw (add-zero a)
get_d_map_up f a (suc n) (suc i) d h = rw (add-suc a i, ← suc-add a i) (get_d_map_up f (suc a) n i d (omega arith))

-- from g up to and with last, as a loop takes them
pub up_more : (g last : ℕ) → g ≤ last → up_from g (suc last - g) ≡ g ∷ up_from (g + 1) (suc last - (g + 1))
unfolding up_from
up_more g last h =
    let e : suc last - g ≡ suc (suc last - (g + 1)) = omega arith in
    rw (e, add-one g)

pub up_done : (g last : ℕ) → last < g → up_from g (suc last - g) ≡ []
unfolding up_from
up_done g last h = let e : suc last - g ≡ 0 = omega arith in rw e

-- ---- sums over them

pub sum_up_same : (c a k : ℕ) → sum (map (λ (e : ℕ). c) (up_from a k)) ≡ k * c
unfolding up_from sum
sum_up_same c a zero = sym (zero-mul c)
sum_up_same c a (suc k) = ap (λ n. c + n) (sum_up_same c (suc a) k) ∙ omega (arith, suc-mul k c)

pub sum_up_more : (f : ℕ → ℕ) (a k : ℕ) → sum (map f (up_from a (suc k))) ≡ sum (map f (up_from a k)) + f (a + k)
unfolding up_from sum
sum_up_more f a zero = rw (add-zero a) (omega arith)
sum_up_more f a (suc k) =
    let e : suc a + k ≡ a + suc k = omega arith in
    omega (arith, sum_up_more f (suc a) k, ap f e)

-- ---- pieces for each of them: piece number a + i has its cells behind those of the i before it

pub own_up : {C : Type 0} (size : ℕ → ℕ) (P : ℕ → List C → Type 0) (a n : ℕ) (cs : List C) → Own size P (up_from a n) cs → (i : ℕ) → i < n
    → P (a + i) (take (size (a + i)) (drop (sum (map size (up_from a i))) cs))
unfolding up_from sum Own
own_up size P a zero cs o i h = absurd (omega arith)
own_up size P a (suc n) cs o zero h = rw (add-zero a, drop_none cs) o.0
own_up size P a (suc n) cs o (suc i) h =
    let e : suc a + i ≡ a + suc i = omega arith in
    subst (λ x. P (a + suc i) (take (size (a + suc i)) x)) (drop-drop (sum (map size (up_from (suc a) i))) (size a) cs)
    (subst (λ g. P g (take (size g) (drop (sum (map size (up_from (suc a) i))) (drop (size a) cs)))) e (own_up size P (suc a) n (drop (size a) cs) o.1 i (omega arith)))

-- and back
pub up_own : {C : Type 0} (size : ℕ → ℕ) (P : ℕ → List C → Type 0) (a n : ℕ) (cs : List C)
    → ((i : ℕ) → i < n → P (a + i) (take (size (a + i)) (drop (sum (map size (up_from a i))) cs))) → Own size P (up_from a n) cs
unfolding up_from sum Own
up_own size P a zero cs h = tt
up_own size P a (suc n) cs h =
    (subst (λ x. P a (take (size a) x)) (drop_none cs) (subst (λ g. P g (take (size g) (drop 0 cs))) (add-zero a) (h 0 (omega arith))), up_own size P (suc a) n (drop (size a) cs) rest)
  where
    rest : (i : ℕ) → i < n → P (suc a + i) (take (size (suc a + i)) (drop (sum (map size (up_from (suc a) i))) (drop (size a) cs)))
    rest i l =
        let e : a + suc i ≡ suc a + i = omega arith in
        subst (λ g. P g (take (size g) (drop (sum (map size (up_from (suc a) i))) (drop (size a) cs)))) e
        (subst (λ x. P (a + suc i) (take (size (a + suc i)) x)) (sym (drop-drop (sum (map size (up_from (suc a) i))) (size a) cs)) (h (suc i) (omega arith)))

-- ---- so many and then others; lists for each of them, one behind the other

pub up_append : (a m n : ℕ) → up_from a (m + n) ≡ up_from a m ++ up_from (a + m) n
unfolding up_from
up_append a zero n = rw (add-zero a, zero-add n)
up_append a (suc m) n =
    let e : suc m + n ≡ suc (m + n) = omega arith in
    let f : suc a + m ≡ a + suc m = omega arith in
    rw e (ap (λ l. a ∷ l) (up_append (suc a) m n ∙ ap (λ b. up_from (suc a) m ++ up_from b n) f))

-- functions that agree on them
pub map_up_same : {B : Type 0} (f h : ℕ → B) (a n : ℕ) → ((g : ℕ) → a ≤ g → g < a + n → f g ≡ h g) → map f (up_from a n) ≡ map h (up_from a n)
unfolding up_from
map_up_same f h a zero e = refl
map_up_same f h a (suc n) e = ap₂ ◌∷◌ (e a (omega arith) (omega arith)) (map_up_same f h (suc a) n (λ g l m. e g (omega arith) (omega arith)))

pub flat_same : {A : Type 0} (f h : ℕ → List A) (a n : ℕ) → ((g : ℕ) → a ≤ g → g < a + n → f g ≡ h g) → flat_map f (up_from a n) ≡ flat_map h (up_from a n)
unfolding up_from flat_map
flat_same f h a zero e = refl
flat_same f h a (suc n) e = ap₂ ◌++◌ (e a (omega arith) (omega arith)) (flat_same f h (suc a) n (λ g l m. e g (omega arith) (omega arith)))

-- parts that follow one another
module _ {A : Type 0} (place : ℕ → ℕ) (s : List A) (up : (g : ℕ) → place g ≤ place (suc g)) where
  places_up : (a n : ℕ) → place a ≤ place (a + n)
  places_up a zero = rw (add-zero a) (omega arith)
  places_up a (suc n) = rw (add-suc a n) (omega (arith, places_up a n, up (a + n)))

  pub parts_flat : (a n : ℕ) → flat_map (λ g. part (place g) (place (suc g)) s) (up_from a n) ≡ part (place a) (place (a + n)) s
  unfolding up_from flat_map
  parts_flat a zero =
      let z : place a - place a ≡ 0 = omega arith in
      rw (add-zero a, z) (sym (take_none (drop (place a) s)))
  parts_flat a (suc n) =
      let e : suc a + n ≡ a + suc n = omega arith in
      ap (λ l. part (place a) (place (suc a)) s ++ l) (parts_flat (suc a) n)
      ∙ part_append s (place a) (place (suc a)) (place (suc a + n)) (up a) (places_up (suc a) n)
      ∙ ap (λ k. part (place a) (place k) s) e
