-- R344, a decimal numeral: digits without needless zeros, `0` for zero. IsNumeral says so of a text; numeral computes it.
use Rattle.std.specs.Prelude.{◌≡◌, cond, List, [], ◌∷◌, ◌++◌, map, ℕ, zero, suc, ◌+◌, ◌-◌, ◌/◌, ◌%◌, ltb}
use Rattle.base.specs.Digits.{AllDigits, number_of, Lean, digit_text}

-- the text s is a decimal numeral of n
pub record IsNumeral (s : List ℕ) (n : ℕ) : Type 0 where
  pub digits : List ℕ
  pub each : AllDigits digits
  pub lean : Lean digits
  pub text : s ≡ digit_text digits
  pub value : number_of digits ≡ n

-- the digits of n, of which there are at most k: those of a tenth of it, and then its last one
unfoldable pub digits_in : ℕ → ℕ → List ℕ
digits_in zero n = []
digits_in (suc k) n = cond (ltb n 10) (n ∷ []) (digits_in k (n / 10) ++ (n % 10 ∷ []))

-- n has no more than n + 1 digits
unfoldable pub digits_of : ℕ → List ℕ
digits_of n = digits_in (suc n) n

unfoldable pub numeral : ℕ → List ℕ
numeral n = digit_text (digits_of n)

-- the number that a text of digits is read as: 48 is the code of `0`
abbrev pub text_number : List ℕ → ℕ
text_number s = number_of (map (λ b. b - 48) s)

-- the last digit's byte, and the number without that digit
abbrev pub last_byte : ℕ → ℕ
last_byte n = 48 + n % 10

abbrev pub tenth : ℕ → ℕ
tenth n = n / 10
