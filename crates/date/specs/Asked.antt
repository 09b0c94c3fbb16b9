-- R331: a date that a caller asks for, as seven numbers, is held to the rules of a date in group 3.
use Rattle.std.specs.Prelude.{Bool, not, List, [], ◌∷◌, ℕ, Result}
use Rattle.date.specs.declared.DigitField.{DigitField}
use Rattle.date.specs.declared.Date.{Date}
use Rattle.date.specs.Digits.{within}
use Rattle.date.specs.Date.{year, day_in_year, month, day, hour, minute, second, first_blamed, judged}

-- a number, and the field that it would stand in
pub record FieldNumber : Type 0 where
  pub field : DigitField
  pub value : ℕ

abbrev pub value_in : DigitField → ℕ → FieldNumber
value_in f v = record { field = f; value = v }

-- in the order of R140
abbrev pub numbers : Date → List FieldNumber
numbers d =
    value_in year d.year
    ∷ value_in day_in_year d.day_of_year
    ∷ value_in month d.month
    ∷ value_in day d.day
    ∷ value_in hour d.hour
    ∷ value_in minute d.minute
    ∷ value_in second d.second
    ∷ []

-- R143: it fails alone if it is outside the range of its field, and R147 blames it where the field begins
abbrev pub outside : FieldNumber → Bool
outside n = not (within n.field.least n.field.greatest n.value)

abbrev pub position : FieldNumber → ℕ
position n = n.field.first

-- the date itself, or the position blamed (R147, R148)
unfoldable pub dated_by : Date → Result Date ℕ
dated_by d = first_blamed position outside (numbers d) (judged d)
