-- Choices by a Bool and tests: what holds of both ways holds of the choice; what a choice gave tells which way it went; tests of which both
-- hold, or one; tests that pass together are the same.
-- Assumes nothing.
use mathlib.Core.Path.{◌≡◌, refl, sym}
use mathlib.Core.Bool.{Bool, true, false, cond, ◌&&◌, ◌||◌, false≢true}
use mathlib.Core.Logic.{◌⊎◌, inl, inr}
use lib.Dec.{T}

pub cond_elim : {A : Type 0} (P : A → Type 0) (t : Bool) {a b : A} → (t ≡ true → P a) → (t ≡ false → P b) → P (cond t a b)
cond_elim P true f g = f refl
cond_elim P false f g = g refl

pub and_left : (a b : Bool) → T (a && b) → T a
and_left true b t = tt
and_left false b t = t

pub and_right : (a b : Bool) → T (a && b) → T b
and_right true b t = t
and_right false b t = absurd t

pub and_both : (a b : Bool) → T a → T b → T (a && b)
and_both true b s t = t
and_both false b s t = s

pub or_elim : (a b : Bool) → T (a || b) → T a ⊎ T b
or_elim true b t = inl tt
or_elim false b t = inr t

pub or_left : (a b : Bool) → T a → T (a || b)
or_left true b t = tt
or_left false b t = absurd t

pub or_right : (a b : Bool) → T b → T (a || b)
or_right true b t = tt
or_right false b t = t

-- a test as a fact, and as an equation
pub true_T : (a : Bool) → a ≡ true → T a
true_T true e = tt
true_T false e = absurd (false≢true e)

pub T_true : (a : Bool) → T a → a ≡ true
T_true true t = refl
T_true false t = absurd t

pub not_T_false : (a : Bool) → (T a → ⊥) → a ≡ false
not_T_false true n = absurd (n tt)
not_T_false false n = refl

pub cond_taken : {A : Type 0} (t : Bool) (a b v : A) → (b ≡ v → ⊥) → cond t a b ≡ v → t ≡ true
cond_taken true a b v n e = refl
cond_taken false a b v n e = absurd (n e)

pub cond_kept : {A : Type 0} (t : Bool) (a b v : A) → (b ≡ v → ⊥) → cond t a b ≡ v → a ≡ v
cond_kept true a b v n e = e
cond_kept false a b v n e = absurd (n e)

pub test_same : (a b : Bool) → (a ≡ true → b ≡ true) → (b ≡ true → a ≡ true) → a ≡ b
test_same true b f g = sym (f refl)
test_same false true f g = g refl
test_same false false f g = refl

pub and_false : (a : Bool) → (a && false) ≡ false
and_false true = refl
and_false false = refl

-- what a test of two parts says of each
pub and_first : (a b : Bool) → (a && b) ≡ true → a ≡ true
and_first true b e = refl
and_first false b e = e

pub and_second : (a b : Bool) → (a && b) ≡ true → b ≡ true
and_second true b e = e
and_second false true e = refl
and_second false false e = e

pub same_test : (a b : Bool) → (T a → T b) → (T b → T a) → a ≡ b
same_test a b f g = test_same a b (λ e. T_true b (f (true_T a e))) (λ e. T_true a (g (true_T b e)))
