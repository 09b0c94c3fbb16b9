-- The numeral of n is digits without needless zeros whose value is n, and it is the only such text; so it reads back as n.
-- Assumes nothing.
use mathlib.Core.Path.{◌≡◌, refl, sym, ◌∙◌, ap}
use mathlib.Core.Bool.{Bool, true, false, cond}
use mathlib.Core.List.{List, [], ◌∷◌, ◌++◌, map}
use mathlib.Core.Logic.{⊎_elim}
use Prim.Native.Nat.{ℕ, zero, suc, ◌+◌, ◌*◌, ◌-◌, ◌/◌, ◌%◌, ◌<◌, ◌≤◌}
use native.Mathlib.Omega.{arith}
use native.Mathlib.Nat.{div-lt_self, div-add-mod', mod-lt, zero-add}
use lib.Arith.{digits_div, digits_mod}
use lib.Dec.{ltb, lit<}
use lib.ListN.{length, get_or}
use borrow.Author.Tests.{lt-ltb, le-ltb, ltb-false}
use Rattle.base.specs.Digits.{AllDigits, number_from, number_of, Lean, digit_text}
use Rattle.base.proofs.Digits.{digits_append, number_append, text_append, lean_more}
use Rattle.base.proofs.FromLast.{from_last}
use Rattle.base.proofs.Order.{le_or_lt}
use Rattle.decimal.specs.Numerals.{IsNumeral, digits_in, digits_of, numeral, text_number, last_byte}

-- ---- digit by digit

less_tenth : (n : ℕ) → 10 ≤ n → n / 10 < n
less_tenth n h = div-lt_self (omega arith) (lit< tt)

some_tenth : (n : ℕ) → 10 ≤ n → 0 < n / 10
some_tenth n h = omega (arith, div-add-mod' n 10, mod-lt n {m = 10} (lit< tt))

-- what holds of numbers below ten, and of n if of a tenth of it, holds of each number
pub by_digits : (P : ℕ → Type 0) → ((n : ℕ) → n < 10 → P n) → ((n : ℕ) → 10 ≤ n → P (n / 10) → P n) → (n : ℕ) → P n
by_digits P small more n = go (suc n) n (omega arith)
  where
    go : (k n : ℕ) → n < k → P n
    go zero n h = absurd (omega arith)
    go (suc k) n h = ⊎_elim (λ (l : 10 ≤ n). more n l (go k (n / 10) (omega (arith, less_tenth n l)))) (λ (l : n < 10). small n l) (le_or_lt 10 n)

digits_fuel : (k m n : ℕ) → n < k → n < m → digits_in k n ≡ digits_in m n
unfolding digits_in
digits_fuel zero m n h g = absurd (omega arith)
digits_fuel (suc k) zero n h g = absurd (omega arith)
digits_fuel (suc k) (suc m) n h g =
    one (ltb n 10) refl (λ l. digits_fuel k m (n / 10) (omega (arith, less_tenth n l)) (omega (arith, less_tenth n l)))
  where
    one : (c : Bool) → ltb n 10 ≡ c → (10 ≤ n → digits_in k (n / 10) ≡ digits_in m (n / 10))
        → cond c (n ∷ []) (digits_in k (n / 10) ++ (n % 10 ∷ [])) ≡ cond c (n ∷ []) (digits_in m (n / 10) ++ (n % 10 ∷ []))
    one true e r = refl
    one false e r = ap (λ l. l ++ (n % 10 ∷ [])) (r (ltb-false n 10 e))

-- the two equations of the digits of n
pub digits_small : (n : ℕ) → n < 10 → digits_of n ≡ n ∷ []
unfolding digits_of digits_in
digits_small n h = rw (lt-ltb n 10 h)

pub digits_more : (n : ℕ) → 10 ≤ n → digits_of n ≡ digits_of (n / 10) ++ (n % 10 ∷ [])
unfolding digits_of digits_in
digits_more n h = rw (le-ltb n 10 h) (ap (λ l. l ++ (n % 10 ∷ [])) (digits_fuel n (suc (n / 10)) (n / 10) (less_tenth n h) (omega arith)))

pub numeral_small : (n : ℕ) → n < 10 → numeral n ≡ (48 + n) ∷ []
unfolding numeral
numeral_small n h = ap digit_text (digits_small n h)

pub numeral_more : (n : ℕ) → 10 ≤ n → numeral n ≡ numeral (n / 10) ++ (last_byte n ∷ [])
unfolding numeral
numeral_more n h = ap digit_text (digits_more n h) ∙ text_append (digits_of (n / 10)) (n % 10 ∷ [])

-- ---- it is a numeral of n

pub digits_each : (n : ℕ) → AllDigits (digits_of n)
digits_each =
    by_digits (λ n. AllDigits (digits_of n))
    (λ n h. rw (digits_small n h) (h, tt))
    (λ n h r. rw (digits_more n h) (digits_append (digits_of (n / 10)) (n % 10 ∷ []) r (mod-lt n {m = 10} (lit< tt), tt)))

pub digits_value : (n : ℕ) → number_of (digits_of n) ≡ n
digits_value =
    by_digits (λ n. number_of (digits_of n) ≡ n)
    (λ n h. rw (digits_small n h) (zero-add n))
    (λ n h r. rw (digits_more n h) (number_append 0 (digits_of (n / 10)) (n % 10 ∷ []) ∙ ap (λ m. m * 10 + n % 10) r ∙ div-add-mod' n 10))

pub digits_lean : (n : ℕ) → Lean (digits_of n)
digits_lean =
    by_digits (λ n. Lean (digits_of n))
    (λ n h. rw (digits_small n h) tt)
    (λ n h r. rw (digits_more n h) (lean_more (digits_of (n / 10)) (n % 10) r (rw (digits_value (n / 10)) (some_tenth n h))))

pub numeral_is : (n : ℕ) → IsNumeral (numeral n) n
unfolding numeral
numeral_is n = record { digits = digits_of n; each = digits_each n; lean = digits_lean n; text = refl; value = digits_value n }

-- ---- and the only one

each_left : (ds es : List ℕ) → AllDigits (ds ++ es) → AllDigits ds
each_left [] es a = tt
each_left (d ∷ ds) es a = (a.0, each_left ds es a.1)

each_right : (ds es : List ℕ) → AllDigits (ds ++ es) → AllDigits es
each_right [] es a = a
each_right (d ∷ ds) es a = each_right ds es a.1

number_grows : (m : ℕ) (ds : List ℕ) → m ≤ number_from m ds
number_grows m [] = omega arith
number_grows m (d ∷ ds) = omega (arith, number_grows (m * 10 + d) ds)

-- digits before the last one
record Before (ds : List ℕ) : Type 0 where
  lean : Lean ds
  some : 0 < number_of ds

before_last : (d : ℕ) (ds : List ℕ) (e : ℕ) → Lean ((d ∷ ds) ++ (e ∷ [])) → Before (d ∷ ds)
before_last d [] e l = record { lean = tt; some = omega arith }
before_last d (c ∷ ds) e l = record { lean = l; some = omega (arith, number_grows (0 * 10 + d) (c ∷ ds)) }

pub digits_one : (ds : List ℕ) → AllDigits ds → Lean ds → ds ≡ digits_of (number_of ds)
digits_one ds = from_last (λ ds. AllDigits ds → Lean ds → ds ≡ digits_of (number_of ds)) more ds (λ a l. absurd l)
  where
    more : (es : List ℕ) (e : ℕ) → (AllDigits es → Lean es → es ≡ digits_of (number_of es)) → AllDigits (es ++ (e ∷ [])) → Lean (es ++ (e ∷ [])) → es ++ (e ∷ []) ≡ digits_of (number_of (es ++ (e ∷ [])))
    more [] e r a l = sym (ap digits_of (zero-add e) ∙ digits_small e a.0)
    more (d ∷ ds) e r a l =
        let b = before_last d ds e l in
        let m = number_of (d ∷ ds) in
        let h : e < 10 = (each_right (d ∷ ds) (e ∷ []) a).0 in
        let v : number_of ((d ∷ ds) ++ (e ∷ [])) ≡ m * 10 + e = number_append 0 (d ∷ ds) (e ∷ []) in
        let f : (d ∷ ds) ≡ digits_of m = r (each_left (d ∷ ds) (e ∷ []) a) b.lean in
        sym (ap digits_of v ∙ digits_more (m * 10 + e) (omega (arith, b.some)) ∙ rw (digits_div m h, digits_mod m h, ← f))

pub is_numeral : (s : List ℕ) (n : ℕ) → IsNumeral s n → s ≡ numeral n
unfolding numeral
is_numeral s n h = h.text ∙ ap digit_text (digits_one h.digits h.each h.lean ∙ ap digits_of h.value)

-- ---- read back

value_text : (ds : List ℕ) → map (λ b. b - 48) (digit_text ds) ≡ ds
value_text [] = refl
value_text (d ∷ ds) =
    let e : 48 + d - 48 ≡ d = omega arith in
    rw (e, value_text ds)

pub numeral_value : (n : ℕ) → text_number (numeral n) ≡ n
unfolding numeral
numeral_value n = ap number_of (value_text (digits_of n)) ∙ digits_value n

pub numeral_same : (m n : ℕ) → numeral m ≡ numeral n → m ≡ n
numeral_same m n e = sym (numeral_value m) ∙ ap text_number e ∙ numeral_value n

-- ---- each byte is a digit's

pub text_bytes : (ds : List ℕ) (i : ℕ) → AllDigits ds → i < length (digit_text ds) → (48 ≤ get_or (digit_text ds) i 0) × (get_or (digit_text ds) i 0 ≤ 57)
text_bytes [] i a h = absurd (omega arith)
text_bytes (d ∷ ds) zero a h = (omega arith, omega (arith, a.0))
text_bytes (d ∷ ds) (suc i) a h = text_bytes ds i a.1 (omega arith)

pub numeral_bytes : (n i : ℕ) → i < length (numeral n) → (48 ≤ get_or (numeral n) i 0) × (get_or (numeral n) i 0 ≤ 57)
unfolding numeral
numeral_bytes n i h = text_bytes (digits_of n) i (digits_each n) h
