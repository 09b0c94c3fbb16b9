-- R70 to R86 as they are computed: what a field of a form reads as.
use Rattle.std.specs.Prelude.{◌≡◌, Bool, true, false, cond, List, [], ◌∷◌, map, ℕ, T, eqb, ℤ, pos, length, get_or}
use Rattle.base.specs.Ascii.{printable}
use Rattle.base.specs.Every.{every}
use Rattle.form.specs.declared.Form.{Form}
use Rattle.form.specs.Table.{row_of}
use Rattle.number.specs.declared.Number.{Number}
use Rattle.number.specs.declared.Number.TheVariants.{One, Two, Misformed as NoNumber}
use Rattle.number.specs.Read.{read_i, read_f, read_e}
use Rattle.field.specs.declared.Kind.{Kind}
use Rattle.field.specs.declared.Kind.TheVariants.{Whole, Fixed, Power, OneLetter, AllLetters}
use Rattle.field.specs.declared.Value.{Value}
use Rattle.field.specs.declared.Value.TheVariants.{Cell, Pair, Letters, Misformed}
use Rattle.field.specs.Kind.{kind_of}

abbrev pub value_of : Number → Value
value_of (One z) = Cell z
value_of (Two a b) = Pair a b
value_of NoNumber = Misformed

abbrev pub read_as : Kind → List ℕ → Value
read_as (Whole w low high) s = value_of (read_i s)
read_as (Fixed w low high) s = value_of (read_f s)
read_as (Power c d x p q) s = value_of (read_e c d x s)
read_as OneLetter s = cond (every printable s) (Cell (pos (get_or s 0 0))) Misformed
read_as (AllLetters w) s = cond (every printable s) Letters Misformed

-- R86: a field is a part of a text whose length is the form's width
unfoldable pub field_of : Form → List ℕ → Value
field_of f s = cond (eqb (length s) (row_of f).width) (read_as (kind_of f) s) Misformed

-- the cells of a value of the text s: one, two, or the bytes themselves
abbrev pub value_cells : List ℕ → Value → List ℤ
value_cells s (Cell z) = z ∷ []
value_cells s (Pair a b) = a ∷ b ∷ []
value_cells s Letters = map pos s
value_cells s Misformed = []

abbrev pub formed : Value → Bool
formed (Cell z) = true
formed (Pair a b) = true
formed Letters = true
formed Misformed = false

-- the field s reads as these cells
pub record ReadsAs (f : Form) (s : List ℕ) (cs : List ℤ) : Type 0 where
  pub good : T (formed (field_of f s))
  pub cells : value_cells s (field_of f s) ≡ cs
