-- Which cells have a field (R213), and the text that is written for them (R100).
use Rattle.std.specs.Prelude.{Bool, false, ◌&&◌, List, map, ℕ, eqb, ℤ, pos, negsuc, length, get_or}
use Rattle.base.specs.Ascii.{printable}
use Rattle.base.specs.Every.{every}
use Rattle.base.specs.Sign.{holds, size_of}
use Rattle.form.specs.declared.Form.{Form}
use Rattle.form.specs.Table.{row_of}
use Rattle.number.specs.Write.{text_i, text_f, text_e}
use Rattle.field.specs.declared.Kind.{Kind}
use Rattle.field.specs.declared.Kind.TheVariants.{Whole, Fixed, Power, OneLetter, AllLetters}
use Rattle.field.specs.Kind.{kind_of}

abbrev pub cell_at : List ℤ → ℕ → ℤ
cell_at cs i = get_or cs i (pos 0)

-- R80: what a letter's cell may be
abbrev pub is_letter : ℤ → Bool
is_letter (pos n) = printable n
is_letter (negsuc n) = false

abbrev pub range_of : Kind → List ℤ → Bool
range_of (Whole w low high) cs = holds low high (cell_at cs 0)
range_of (Fixed w low high) cs = holds low high (cell_at cs 0)
range_of (Power c d x p q) cs = holds p p (cell_at cs 0) && holds q q (cell_at cs 1)
range_of OneLetter cs = every is_letter cs
range_of (AllLetters w) cs = every is_letter cs

-- as many cells as the form has, in its range
unfoldable pub fits_of : Form → List ℤ → Bool
fits_of f cs = eqb (length cs) (row_of f).cells && range_of (kind_of f) cs

abbrev pub text_as : Kind → List ℤ → List ℕ
text_as (Whole w low high) cs = text_i w (cell_at cs 0)
text_as (Fixed w low high) cs = text_f w (cell_at cs 0)
text_as (Power c d x p q) cs = text_e c d x (cell_at cs 0) (cell_at cs 1)
text_as OneLetter cs = map size_of cs
text_as (AllLetters w) cs = map size_of cs

unfoldable pub field_text : Form → List ℤ → List ℕ
field_text f cs = text_as (kind_of f) cs
