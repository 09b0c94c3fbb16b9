-- What callers know of every form: the laws of its field, in one record.
use Rattle.std.specs.Prelude.{◌≡◌, not, ◌&&◌, List, [], ◌∷◌, ℕ, T, eqb, ℤ, length}
use Rattle.base.specs.Ascii.{printable}
use Rattle.base.specs.Every.{every}
use Rattle.base.specs.Sign.{holds}
use Rattle.form.specs.declared.Form.{Form}
use Rattle.form.specs.declared.Form.TheVariants.{F7, A120, A1, F8, I2, I3, I1, E11, E20, E8}
use Rattle.form.specs.Table.{row_of}
use Rattle.field.specs.Read.{ReadsAs}
use Rattle.field.specs.Write.{is_letter, fits_of, field_text}
use Rattle.field.specs.Grammar.{IsField}
use Rattle.field.specs.Canonical.{IsCanonical}

pub record Lawful (f : Form) : Type 0 where
  -- R70 to R86, both ways
  pub reads_is : (s : List ℕ) (cs : List ℤ) → ReadsAs f s cs → IsField f s cs
  pub is_reads : (s : List ℕ) (cs : List ℤ) → IsField f s cs → ReadsAs f s cs
  -- R303: what reads fits; R46: what fits has as many cells as the form
  pub fitting : (s : List ℕ) (cs : List ℤ) → ReadsAs f s cs → T (fits_of f cs)
  pub sized : (cs : List ℤ) → T (fits_of f cs) → length cs ≡ (row_of f).cells
  -- the text of what fits: it reads back, it has the form's width, each byte is 32 to 126, and none is a line feed
  pub back : (cs : List ℤ) → T (fits_of f cs) → ReadsAs f (field_text f cs) cs
  pub wide : (cs : List ℤ) → T (fits_of f cs) → length (field_text f cs) ≡ (row_of f).width
  pub plain : (cs : List ℤ) → T (fits_of f cs) → T (every printable (field_text f cs))
  pub unbroken : (cs : List ℤ) → T (fits_of f cs) → T (every (λ b. not (eqb b 10)) (field_text f cs))
  -- R100: it is canonical, and no other text is; a canonical text reads as its cells
  pub canonical : (cs : List ℤ) → T (fits_of f cs) → IsCanonical f (field_text f cs) cs
  pub one : (s : List ℕ) (cs : List ℤ) → IsCanonical f s cs → s ≡ field_text f cs
  pub again : (s : List ℕ) (cs : List ℤ) → IsCanonical f s cs → ReadsAs f s cs

-- the ranges, form by form: from minus the first number to the second
pub record Ranges : Type 0 where
  -- R71
  pub i3 : (z : ℤ) → fits_of I3 (z ∷ []) ≡ holds 99 999 z
  pub i2 : (z : ℤ) → fits_of I2 (z ∷ []) ≡ holds 9 99 z
  pub i1 : (z : ℤ) → fits_of I1 (z ∷ []) ≡ holds 0 9 z
  -- R73
  pub f7 : (z : ℤ) → fits_of F7 (z ∷ []) ≡ holds 99999 999999 z
  pub f8 : (z : ℤ) → fits_of F8 (z ∷ []) ≡ holds 999999 9999999 z
  -- R79: as far as the digits and the exponent's digits go, either way
  pub e11 : (m e : ℤ) → fits_of E11 (m ∷ e ∷ []) ≡ (holds 999999 999999 m && holds 9 9 e)
  pub e8 : (m e : ℤ) → fits_of E8 (m ∷ e ∷ []) ≡ (holds 999 999 m && holds 9 9 e)
  pub e20 : (m e : ℤ) → fits_of E20 (m ∷ e ∷ []) ≡ (holds 999999999999 999999999999 m && holds 99 99 e)
  -- R80
  pub a1 : (z : ℤ) → fits_of A1 (z ∷ []) ≡ is_letter z
  pub a120 : (cs : List ℤ) → fits_of A120 cs ≡ (eqb (length cs) 120 && every is_letter cs)
