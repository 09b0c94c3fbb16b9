-- R23, index entries: I3 fields that have no minus, so ` -0` is none.
use Rattle.std.specs.Prelude.{◌≡◌, true, false, cond, List, ◌++◌, Option, Some, None, ℕ, ◌<◌, eqb, length, replicate}
use Rattle.base.specs.Digits.{AllDigits, number_of, digit_text, Lean}
use Rattle.number.specs.declared.Scan.{Scan}
use Rattle.number.specs.declared.Scan.TheVariants.{Blanks, Signed, Digits, Broken}
use Rattle.number.specs.Scan.{scan_of}
use Rattle.number.specs.Write.{text_of}

-- blanks and one or more digits in three columns, and the count that the digits make
pub record IsEntry (s : List ℕ) (n : ℕ) : Type 0 where
  pub width : length s ≡ 3
  pub blanks : ℕ
  pub digits : List ℕ
  pub each : AllDigits digits
  pub some : 0 < length digits
  pub text : s ≡ replicate blanks 32 ++ digit_text digits
  pub value : n ≡ number_of digits

-- some three columns are an entry of this count
pub record HasEntry (n : ℕ) : Type 0 where
  pub columns : List ℕ
  pub entry : IsEntry columns n

-- R103: without needless zeros
pub record CanonicalEntry (s : List ℕ) (n : ℕ) : Type 0 where
  pub width : length s ≡ 3
  pub blanks : ℕ
  pub digits : List ℕ
  pub each : AllDigits digits
  pub lean : Lean digits
  pub text : s ≡ replicate blanks 32 ++ digit_text digits
  pub value : n ≡ number_of digits

-- digits without a minus are a count
abbrev pub count_in : Scan → Option ℕ
count_in Blanks = None
count_in Signed = None
count_in (Digits true n) = None
count_in (Digits false n) = Some n
count_in Broken = None

unfoldable pub entry_of : List ℕ → Option ℕ
entry_of s = cond (eqb (length s) 3) (count_in (scan_of Blanks s)) None

abbrev pub index_entry_text : ℕ → List ℕ
index_entry_text n = text_of false 3 (Digits false n)
