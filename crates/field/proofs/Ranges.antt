-- R71, R73, R79, R80: the ranges of the ten forms are those of the ten kinds.
-- Assumes nothing.
use mathlib.Core.Path.{◌≡◌, refl}
use mathlib.Core.Bool.{Bool, true, false, ◌&&◌}
use Rattle.form.specs.Table
use Rattle.field.specs.Write.{is_letter, fits_of}
use Rattle.field.specs.Law.{Ranges}

and_true : (b : Bool) → (b && true) ≡ b
and_true true = refl
and_true false = refl

pub ranges : Ranges
unfolding fits_of Table.row_of Table.listed_as
ranges =
    record {
      i3 = λ z. refl;
      i2 = λ z. refl;
      i1 = λ z. refl;
      f7 = λ z. refl;
      f8 = λ z. refl;
      e11 = λ m e. refl;
      e8 = λ m e. refl;
      e20 = λ m e. refl;
      a1 = λ z. and_true (is_letter z);
      a120 = λ cs. refl;
    }
