-- R140: the seven digit fields of the date; R147, R148: who is blamed.
use Rattle.std.specs.Prelude.{Bool, true, false, cond, List, [], ◌∷◌, ℕ, suc, ◌-◌, Option, Some, None, Result, Ok, Err}
use Rattle.date.specs.declared.DigitField.{DigitField}
use Rattle.date.specs.declared.Date.{Date}
use Rattle.date.specs.Digits.{field_digits}
use Rattle.date.specs.Calendar.{is_leap, name_day}

-- R141: positions from .. to, and values from .. to
abbrev pub positions : ℕ → ℕ → ℕ → ℕ → DigitField
positions from to least greatest = record { first = from; length = suc to - from; least = least; greatest = greatest }

abbrev pub year : DigitField
year = positions 3 6 0 9999

abbrev pub day_in_year : DigitField
day_in_year = positions 7 9 1 366

abbrev pub month : DigitField
month = positions 10 11 1 12

abbrev pub day : DigitField
day = positions 12 13 1 31

abbrev pub hour : DigitField
hour = positions 14 15 0 23

abbrev pub minute : DigitField
minute = positions 16 17 0 59

abbrev pub second : DigitField
second = positions 18 19 0 59

abbrev pub fields : List DigitField
fields = year ∷ day_in_year ∷ month ∷ day ∷ hour ∷ minute ∷ second ∷ []

-- R143: a field that fails alone, and the number that it reads as otherwise
abbrev pub fails : Option ℕ → Bool
fails (Some v) = false
fails None = true

abbrev pub number : Option ℕ → ℕ
number (Some v) = v
number None = 0

-- R146: day of the year, month and day agree, in the date's year
abbrev pub names_one_day : Date → Bool
names_one_day d = name_day (is_leap d.year) d.day_of_year d.month d.day

-- the numbers of the seven fields
abbrev pub date_of : List ℕ → Date
date_of s =
    record {
      year = number (field_digits year s);
      day_of_year = number (field_digits day_in_year s);
      month = number (field_digits month s);
      day = number (field_digits day s);
      hour = number (field_digits hour s);
      minute = number (field_digits minute s);
      second = number (field_digits second s);
    }

-- R147: of several, each with a position, the first that fails alone is blamed at its position; if none of them does, it is as given
module _ {A : Type 0} (position : A → ℕ) (failing : A → Bool) where
  unfoldable pub first_blamed : List A → Result Date ℕ → Result Date ℕ
  first_blamed [] given = given
  first_blamed (x ∷ xs) given = cond (failing x) (Err (position x)) (first_blamed xs given)

-- R148: where no field fails alone, the date is right if the three agree, and else 7 is blamed
abbrev pub judged : Date → Result Date ℕ
judged d = cond (names_one_day d) (Ok d) (Err 7)

-- a field of letters: where it begins, and whether it fails alone
abbrev pub begins_at : DigitField → ℕ
begins_at f = f.first

abbrev pub fails_in : List ℕ → DigitField → Bool
fails_in s f = fails (field_digits f s)

-- the date that the letters of group 3 tell, or the position blamed
unfoldable pub dated_of : List ℕ → Result Date ℕ
dated_of s = first_blamed begins_at (fails_in s) fields (judged (date_of s))
