-- R45, R46, R61: where an element of a group stands in the group's lines, and which cells it fills. Lines, elements, and the fields of a
-- line count from 0 here. With p elements to a line, each of w columns and c cells, element i is found in line i / p behind (i mod p) * w
-- columns, and its cells are the c from i * c on (proofs/Values.antt).
use Rattle.std.specs.Prelude.{◌≡◌, List, ℕ, ◌+◌, ◌*◌, ◌<◌, ◌≤◌, ℤ, length, take, drop, get_or}
use Rattle.rules.specs.declared.Rules.{Rules}
use Rattle.base.specs.Part.{part}
use Rattle.form.specs.declared.Form.{Form}
use Rattle.form.specs.Table.{row_of}
use Rattle.form.specs.Count.{elements_of, cells_of}
use Rattle.field.specs.Grammar.{IsField}
use Rattle.line.specs.Lines.{lines, behind}
use Rattle.line.specs.Contents.{HasContent}
use Rattle.reading.specs.Blanks.{MayBeShort, filled_to}
use Rattle.reading.specs.Plan.{Line, line_at}
use Rattle.reading.specs.Read.{columns_of}

-- R2, R6: the line with j lines before it, its line feed with it
abbrev pub line_of : List ℕ → ℕ → List ℕ
line_of x j = lines 1 (behind j x)

module _ (ρ : Rules) where
  -- R60: the elements that stand in it
  abbrev pub planned : Form → ℕ → ℕ → Line
  planned f count j = line_at (row_of f).per_line (elements_of ρ f count) j

  -- R61, R65: the field with k fields before it, in line j of content s: its columns of the content filled with blanks
  abbrev pub field_in : Form → ℕ → ℕ → List ℕ → ℕ → List ℕ
  field_in f count j s k = take (row_of f).width (drop (k * (row_of f).width) (filled_to (columns_of f (planned f count j)) s))

-- R62 to R64: the content has the columns of its fields, unless lines of the group may be short; it has no more than 120 bytes, and blanks
-- alone behind the fields: what isRight tests (proofs/Blanks.antt)
pub record RightContent (g : ℕ) (columns : ℕ) (s : List ℕ) : Type 0 where
  pub least : (MayBeShort g → ⊥) → columns ≤ length s
  pub most : length s ≤ 120
  pub blanks : (i : ℕ) → columns ≤ i → i < length s → get_or s i 0 ≡ 32

-- a group of this form, number and count, whose lines are x
module _ (ρ : Rules) (f : Form) (g : ℕ) (count : ℕ) (x : List ℕ) where
  -- R66: line j is right, so not 8: it is the content s and a line end (R9), and s is right for its fields
  pub record RightLine (j : ℕ) (s : List ℕ) : Type 0 where
    pub content : HasContent ρ (line_of x j) s
    pub right : RightContent g (columns_of f (planned ρ f count j)) s

  -- R45, R46: element i stands in line j behind k fields; its field has (field's Grammar) the cells from i times the form's cells on
  pub record Stands (cs : List ℤ) (i j k : ℕ) : Type 0 where
    pub content : List ℕ
    pub line : RightLine j content
    pub reads : IsField f (field_in ρ f count j content k) (part (i * (row_of f).cells) (i * (row_of f).cells + (row_of f).cells) cs)

  -- the cells of the group: of each element, and no others
  pub record Values (cs : List ℤ) : Type 0 where
    pub size : length cs ≡ cells_of ρ f count
    pub each : (j k : ℕ) → k < (row_of f).per_line → j * (row_of f).per_line + k < elements_of ρ f count → Stands cs (j * (row_of f).per_line + k) j k
