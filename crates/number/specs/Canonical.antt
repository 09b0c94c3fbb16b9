-- R103 to R108: the canonical text of I, F and E fields of every width. `lean` says that a digit is there and no zero that could be left out,
-- `zero` that only a number below zero has a minus (R107), `plus` that an exponent of zero has none (R108).
use Rattle.std.specs.Prelude.{◌≡◌, Bool, true, false, cond, List, ◌∷◌, ◌++◌, ℕ, ◌<◌, eqb, ℤ, length, replicate}
use Rattle.base.specs.Sign.{of_sign}
use Rattle.base.specs.Digits.{AllDigits, number_of, digit_text, Lean}
use Rattle.number.specs.Grammar.{minus_of, Lead, lead_text, sign_byte}
use Rattle.number.specs.Grammar.Lead.{nought, minus_nought, minus}

-- R103: the text of z in w columns of an I field, at their right end
pub record CanonicalI (w : ℕ) (s : List ℕ) (z : ℤ) : Type 0 where
  pub width : length s ≡ w
  pub blanks : ℕ
  pub sign : Bool
  pub digits : List ℕ
  pub each : AllDigits digits
  pub lean : Lean digits
  pub zero : sign ≡ true → 0 < number_of digits
  pub text : s ≡ replicate blanks 32 ++ (minus_of sign ++ digit_text digits)
  pub value : z ≡ of_sign sign (number_of digits)

-- R104: the text of z thousandths in w columns of an F field, at their right end
pub record CanonicalF (w : ℕ) (s : List ℕ) (z : ℤ) : Type 0 where
  pub width : length s ≡ w
  pub blanks : ℕ
  pub sign : Bool
  pub units : List ℕ
  pub thousandths : List ℕ
  pub each : AllDigits units
  pub lean : Lean units
  pub every : AllDigits thousandths
  pub three : length thousandths ≡ 3
  pub zero : sign ≡ true → 0 < number_of (units ++ thousandths)
  pub text : s ≡ replicate blanks 32 ++ (minus_of sign ++ (digit_text units ++ (46 ∷ digit_text thousandths)))
  pub value : z ≡ of_sign sign (number_of (units ++ thousandths))

-- R105, R106: what is due before the point in c columns: `0`; of a negative number a minus in the only column, minus and `0` in more
abbrev pub due_lead : ℕ → Bool → Lead
due_lead c false = nought
due_lead c true = cond (eqb c 1) minus minus_nought

-- R105 to R108: the text of m and e in an E field of c columns, a point, d digits and an exponent of x digits
pub record CanonicalE (c d x : ℕ) (s : List ℕ) (m e : ℤ) : Type 0 where
  pub blanks : ℕ
  pub sign : Bool
  pub columns : length (replicate blanks 32 ++ lead_text (due_lead c sign)) ≡ c
  pub digits : List ℕ
  pub each : AllDigits digits
  pub many : length digits ≡ d
  pub zero : sign ≡ true → 0 < number_of digits
  pub down : Bool
  pub exponent : List ℕ
  pub every : AllDigits exponent
  pub places : length exponent ≡ x
  pub plus : down ≡ true → 0 < number_of exponent
  pub text : s ≡ (replicate blanks 32 ++ lead_text (due_lead c sign)) ++ (46 ∷ (digit_text digits ++ (69 ∷ sign_byte down ∷ digit_text exponent)))
  pub first : m ≡ of_sign sign (number_of digits)
  pub second : e ≡ of_sign down (number_of exponent)
