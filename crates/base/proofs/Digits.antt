-- Decimal digits: appended digits, the number's bounds by powers of ten, what is left without its last digits; as many digits that make the
-- same number are the same.
-- Assumes nothing.
use mathlib.Core.Path.{◌≡◌, refl, sym, ap, ◌∙◌}
use mathlib.Core.List.{List, [], ◌∷◌, ◌++◌}
use Prim.Native.Nat.{ℕ, ◌+◌, ◌*◌, ◌/◌, ◌^◌, ◌<◌, ◌≤◌}
use native.Mathlib.Nat.{pow-suc, one-le-pow, div-one, div-div-eq-div-mul, pow-le-pow_right, lt-div-mul-add}
use native.Mathlib.Omega.{arith}
use lib.Arith.{digits_div}
use lib.Dec.{lit<}
use lib.ListN.{length}
use Rattle.base.specs.Digits.{AllDigits, number_from, number_of, Lean, digit_text}

pub ten_pow : (k : ℕ) → 0 < 10 ^ k
ten_pow k = one-le-pow k 10 (lit< tt)

-- ---- one list of digits behind another

pub digits_append : (ds es : List ℕ) → AllDigits ds → AllDigits es → AllDigits (ds ++ es)
digits_append [] es a b = b
digits_append (d ∷ ds) es a b = (a.0, digits_append ds es a.1 b)

pub number_append : (m : ℕ) (ds es : List ℕ) → number_from m (ds ++ es) ≡ number_from (number_from m ds) es
number_append m [] es = refl
number_append m (d ∷ ds) es = number_append (m * 10 + d) ds es

pub text_append : (ds es : List ℕ) → digit_text (ds ++ es) ≡ digit_text ds ++ digit_text es
text_append [] es = refl
text_append (d ∷ ds) es = ap (λ l. (48 + d) ∷ l) (text_append ds es)

-- ---- bounds

-- without the digits ds, what stood before them is left
pub number_div : (m : ℕ) (ds : List ℕ) → AllDigits ds → number_from m ds / 10 ^ length ds ≡ m
number_div m [] a = div-one m
number_div m (d ∷ ds) a =
    rw (pow-suc 10 (length ds))
    (sym (div-div-eq-div-mul (number_from (m * 10 + d) ds) (10 ^ length ds) 10) ∙ ap (λ n. n / 10) (number_div (m * 10 + d) ds a.1) ∙ digits_div m a.0)

-- k digits make a number below 10 ^ k
pub number_below : (ds : List ℕ) → AllDigits ds → number_of ds < 10 ^ length ds
number_below ds a = quotient_zero (number_of ds) (10 ^ length ds) (ten_pow (length ds)) (number_div 0 ds a)
  where
    quotient_zero : (n p : ℕ) → 0 < p → n / p ≡ 0 → n < p
    quotient_zero n p h e = let l = rw e at (lt-div-mul-add {a = n} {b = p} h) in omega arith

pub number_within : (ds : List ℕ) (k : ℕ) → AllDigits ds → length ds ≤ k → number_of ds < 10 ^ k
number_within ds k a h = let p = number_below ds a in let q = pow-le-pow_right {n = 10} (lit< tt) {i = length ds} {j = k} h in omega arith

-- ---- no needless zeros

-- a digit more, behind a number that is not zero
pub lean_more : (ds : List ℕ) (e : ℕ) → Lean ds → 0 < number_of ds → Lean (ds ++ (e ∷ []))
lean_more [] e l h = absurd l
lean_more (d ∷ []) e l h = omega arith
lean_more (d ∷ c ∷ ds) e l h = l

pub lean_some : (ds : List ℕ) → Lean ds → 0 < length ds
lean_some [] l = absurd l
lean_some (d ∷ ds) l = omega arith

same_behind : (m n : ℕ) (ds es : List ℕ) → AllDigits ds → AllDigits es → length ds ≡ length es → number_from m ds ≡ number_from n es → (m ≡ n) × (ds ≡ es)
same_behind m n [] [] a b l v = (v, refl)
same_behind m n [] (e ∷ es) a b l v = absurd (omega arith)
same_behind m n (d ∷ ds) [] a b l v = absurd (omega arith)
same_behind m n (d ∷ ds) (e ∷ es) a b l v =
    let r = same_behind (m * 10 + d) (n * 10 + e) ds es a.1 b.1 (omega arith) v in
    let f : d ≡ e = omega (arith, r.0, a.0, b.0) in
    (omega (arith, r.0, f), ap (λ c. c ∷ ds) f ∙ ap (λ c. e ∷ c) r.1)

pub same_digits : (ds es : List ℕ) → AllDigits ds → AllDigits es → length ds ≡ length es → number_of ds ≡ number_of es → ds ≡ es
same_digits ds es a b l v = (same_behind 0 0 ds es a b l v).1
