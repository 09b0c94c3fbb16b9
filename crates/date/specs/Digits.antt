-- R141, digit fields: a run of digits with its first position (counted from 1), its length, its least and its greatest value.
-- R142: each of its bytes is a digit, so a number that needs fewer digits has zeros before it.
use Rattle.std.specs.Prelude.{◌≡◌, Bool, cond, ◌&&◌, List, ◌++◌, map, ℕ, ◌+◌, ◌-◌, ◌≤◌, leb, length, Option, Some, None}
use Rattle.base.specs.Digits.{AllDigits, number_of, digit_text}
use Rattle.base.specs.Every.{every}
use Rattle.base.specs.Part.{part}
use Rattle.date.specs.declared.DigitField.{DigitField}

-- ---- as a statement on the text

-- R143: the text has `before`, then as many digits as the field is long, then `behind`; the first digit stands at the field's first position, and
-- the number that the digits make is v, from the least to the greatest
pub record ReadsNumber (f : DigitField) (s : List ℕ) (v : ℕ) : Type 0 where
  pub before : List ℕ
  pub digits : List ℕ
  pub behind : List ℕ
  pub text : s ≡ before ++ (digit_text digits ++ behind)
  pub each : AllDigits digits
  pub many : length digits ≡ f.length
  pub position : length before + 1 ≡ f.first
  pub value : v ≡ number_of digits
  pub enough : f.least ≤ v
  pub not_more : v ≤ f.greatest

-- ---- as an answer, which is a number exactly if the statement holds of it (proofs/Grammar.antt)

abbrev pub is_digit : ℕ → Bool
is_digit b = leb 48 b && leb b 57

-- the digits that bytes show
abbrev pub digits_shown : List ℕ → List ℕ
digits_shown bs = map (λ b. b - 48) bs

-- from the least to the greatest value
abbrev pub within : ℕ → ℕ → ℕ → Bool
within least greatest v = leb least v && leb v greatest

-- what bytes read as: the number of their digits
abbrev pub read_digits : ℕ → ℕ → List ℕ → Option ℕ
read_digits least greatest bs =
    cond (every is_digit bs && within least greatest (number_of (digits_shown bs))) (Some (number_of (digits_shown bs))) None

-- the text has the positions of the field, which count from 1
abbrev pub has_positions : DigitField → List ℕ → Bool
has_positions f s = leb 1 f.first && leb (f.first - 1 + f.length) (length s)

-- the bytes at its positions
abbrev pub bytes_at : DigitField → List ℕ → List ℕ
bytes_at f s = part (f.first - 1) (f.first - 1 + f.length) s

-- what a field reads as in a text
unfoldable pub field_digits : DigitField → List ℕ → Option ℕ
field_digits f s = cond (has_positions f s) (read_digits f.least f.greatest (bytes_at f s)) None
