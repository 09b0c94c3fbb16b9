-- R103 to R109: the canonical text of a form's cells (number's Canonical for I, F and E); a letter is its code.
use Rattle.std.specs.Prelude.{◌≡◌, List, ℕ, ℤ, length}
use Rattle.form.specs.declared.Form.{Form}
use Rattle.form.specs.Table.{row_of}
use Rattle.number.specs.Canonical.{CanonicalI, CanonicalF, CanonicalE}
use Rattle.field.specs.declared.Kind.{Kind}
use Rattle.field.specs.declared.Kind.TheVariants.{Whole, Fixed, Power, OneLetter, AllLetters}
use Rattle.field.specs.Kind.{kind_of}
use Rattle.field.specs.Grammar.{One, Two, IsA}

abbrev pub CanonicalAs : Kind → List ℕ → List ℤ → Type 0
CanonicalAs (Whole w low high) s cs = One (CanonicalI w s) cs
CanonicalAs (Fixed w low high) s cs = One (CanonicalF w s) cs
CanonicalAs (Power c d x p q) s cs = Two (CanonicalE c d x s) cs
CanonicalAs OneLetter s cs = IsA s cs
CanonicalAs (AllLetters w) s cs = IsA s cs

pub record IsCanonical (f : Form) (s : List ℕ) (cs : List ℤ) : Type 0 where
  pub width : length s ≡ (row_of f).width
  pub shape : CanonicalAs (kind_of f) s cs
