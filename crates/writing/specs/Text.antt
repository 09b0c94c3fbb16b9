-- R100: the canonical text of counts and cells. R20: the two lines of the index, and behind them those of group 1, of group 2, up to 60.
use Rattle.std.specs.Prelude.{true, List, [], ◌∷◌, ◌++◌, map, ℕ, ◌+◌, ◌*◌, ℤ, take, drop, Option, Some, None}
use Rattle.rules.specs.declared.Rules.{Rules}
use Rattle.base.specs.Every.{up_from}
use Rattle.base.specs.Pieces.{emit}
use Rattle.base.specs.Sum.{sum}
use Rattle.form.specs.declared.Form.{Form}
use Rattle.form.specs.Table.{row_of, form_of}
use Rattle.form.specs.Count.{elements_of, rounded_up}
use Rattle.field.specs.Write.{field_text}
use Rattle.field.specs.Entry.{index_entry_text}
use Rattle.line.specs.Alike.{line_end_by}
use Rattle.count.specs.Tally.{count_of, cells_in}
use Rattle.reading.specs.Plan.{Line, many_plan, elements_in}

-- R101: every line ends so
abbrev pub line_end : List ℕ
line_end = line_end_by true

-- ---- the index

unfoldable pub entries_text : List ℕ → List ℕ
entries_text [] = []
entries_text (n ∷ ns) = index_entry_text n ++ entries_text ns

-- R21, R22: two lines of 40 counts
unfoldable pub index_text : List ℕ → List ℕ
index_text ns = (entries_text (take 40 ns) ++ line_end) ++ (entries_text (drop 40 ns) ++ line_end)

-- ---- a group

-- the cells of a line, and its fields, one behind the other
abbrev pub line_cells : Form → Line → ℕ
line_cells f l = l.many * (row_of f).cells

unfoldable pub fields_text : Form → Line → List ℤ → List ℕ
fields_text f l cs = emit (λ (e : ℕ). (row_of f).cells) (λ (e : ℕ) c. field_text f c) (elements_in l) cs

-- R102: the line ends directly behind its last field
unfoldable pub line_text : Form → Line → List ℤ → List ℕ
line_text f l cs = fields_text f l cs ++ line_end

-- a line of k elements: where it stands in its group makes no difference to its text (`line_any` in proofs/Putting)
abbrev pub line_of_many : ℕ → Line
line_of_many k = record { number = 1; first = 1; many = k }

-- the lines of so many elements, one behind the other
unfoldable pub many_text : Form → ℕ → List ℤ → List ℕ
many_text f n cs = emit (line_cells f) (line_text f) (many_plan f n) cs

module _ (ρ : Rules) where
  -- those of a group of this form and count
  unfoldable pub lines_text : Form → ℕ → List ℤ → List ℕ
  lines_text f count cs = many_text f (elements_of ρ f count) cs

  abbrev pub group_text_by : Option Form → ℕ → List ℤ → List ℕ
  group_text_by (Some f) count cs = lines_text f count cs
  group_text_by None count cs = []

  unfoldable pub group_text : List ℕ → ℕ → List ℤ → List ℕ
  group_text ns g cs = group_text_by (form_of g) (count_of ns g) cs

  -- ---- a record

  -- R47: the groups' lines, each from its own cells
  unfoldable pub groups_text : List ℕ → List ℤ → List ℕ
  groups_text ns cs = emit (cells_in ρ ns) (group_text ns) (up_from 1 60) cs

  unfoldable pub record_text : List ℕ → List ℤ → List ℕ
  record_text ns cs = index_text ns ++ groups_text ns cs

-- ---- R110: how long it is, by the counts alone

abbrev pub many_bytes : Form → ℕ → ℕ
many_bytes f n = n * (row_of f).width + rounded_up n (row_of f).per_line * 2

module _ (ρ : Rules) where
  abbrev pub bytes_of : Form → ℕ → ℕ
  bytes_of f count = many_bytes f (elements_of ρ f count)

  abbrev pub bytes_by : Option Form → ℕ → ℕ
  bytes_by (Some f) count = bytes_of f count
  bytes_by None count = 0

  unfoldable pub bytes_in : List ℕ → ℕ → ℕ
  bytes_in ns g = bytes_by (form_of g) (count_of ns g)

  -- two index lines of 122 bytes, and the groups' lines
  unfoldable pub record_bytes : List ℕ → ℕ
  record_bytes ns = 244 + sum (map (bytes_in ns) (up_from 1 60))
