-- R70 to R86: which bytes are a field of each form, and its cells.
use Rattle.std.specs.Prelude.{◌≡◌, List, [], ◌∷◌, map, ℕ, ◌≤◌, ℤ, pos, length}
use Rattle.form.specs.declared.Form.{Form}
use Rattle.form.specs.Table.{row_of}
use Rattle.number.specs.Grammar.{IsI, IsF, IsE}
use Rattle.field.specs.declared.Kind.{Kind}
use Rattle.field.specs.declared.Kind.TheVariants.{Whole, Fixed, Power, OneLetter, AllLetters}
use Rattle.field.specs.Kind.{kind_of}

-- R80: no byte is below 32 or above 126
abbrev pub Letters : List ℕ → Type 0
Letters [] = Unit {0}
Letters (b ∷ bs) = ((32 ≤ b) × (b ≤ 126)) × Letters bs

-- R80: letters, each of them a cell; so a blank is one too (R82)
pub record IsA (s : List ℕ) (cs : List ℤ) : Type 0 where
  pub letters : Letters s
  pub cells : cs ≡ map pos s

-- one cell, or two, of which a statement holds
pub record One (P : ℤ → Type 0) (cs : List ℤ) : Type 0 where
  pub cell : ℤ
  pub cells : cs ≡ cell ∷ []
  pub holds : P cell

pub record Two (P : ℤ → ℤ → Type 0) (cs : List ℤ) : Type 0 where
  pub first : ℤ
  pub second : ℤ
  pub cells : cs ≡ first ∷ second ∷ []
  pub holds : P first second

abbrev pub ShapeOf : Kind → List ℕ → List ℤ → Type 0
ShapeOf (Whole w low high) s cs = One (IsI s) cs
ShapeOf (Fixed w low high) s cs = One (IsF s) cs
ShapeOf (Power c d x p q) s cs = Two (IsE c d x s) cs
ShapeOf OneLetter s cs = IsA s cs
ShapeOf (AllLetters w) s cs = IsA s cs

-- s is a field of the form, with these cells; of another length it is none (R86)
pub record IsField (f : Form) (s : List ℕ) (cs : List ℤ) : Type 0 where
  pub width : length s ≡ (row_of f).width
  pub shape : ShapeOf (kind_of f) s cs

-- s is a field of the form, whatever its cells are
pub record SomeField (f : Form) (s : List ℕ) : Type 0 where
  pub cells : List ℤ
  pub is : IsField f s cells
