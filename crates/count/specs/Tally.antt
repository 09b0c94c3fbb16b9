-- R22: of the index's 80 numbers, the one at g is group g's count. What the counts say of lines (R28) and cells (R47).
use Rattle.std.specs.Prelude.{◌≡◌, ℕ, suc, ℤ, get_or, take, Option, Some, None}
use mathlib.Core.List.{List, ◌∷◌, map, flat_map}
use Rattle.rules.specs.declared.Rules.{Rules}
use Rattle.base.specs.Every.{up_from}
use Rattle.base.specs.Part.{part}
use Rattle.base.specs.Sum.{sum}
use Rattle.form.specs.Table.{form_of}
use Rattle.form.specs.Count.{lines_of, cells_of}
use Rattle.form.specs.declared.Form.{Form}

-- R22, R243: number g of the counts, from 1; 0 where there is no such number
abbrev pub count_of : List ℕ → ℕ → ℕ
count_of ns g = get_or (0 ∷ ns) g 0

module _ (ρ : Rules) where
  -- R43, R46: the lines and the cells of a count of n in a group's form; what is no group has neither
  abbrev pub lines_by : Option Form → ℕ → ℕ
  lines_by (Some f) n = lines_of ρ f n
  lines_by None n = 0

  abbrev pub cells_by : Option Form → ℕ → ℕ
  cells_by (Some f) n = cells_of ρ f n
  cells_by None n = 0

  unfoldable pub lines_in : List ℕ → ℕ → ℕ
  lines_in ns g = lines_by (form_of g) (count_of ns g)

  unfoldable pub cells_in : List ℕ → ℕ → ℕ
  cells_in ns g = cells_by (form_of g) (count_of ns g)

  -- R20: the two lines of the index, and behind them those of each group by its number: entry 0 is the index, entry g is group g
  unfoldable pub line_tally : List ℕ → List ℕ
  line_tally ns = 2 ∷ map (lines_in ns) (up_from 1 60)

  unfoldable pub cell_tally : List ℕ → List ℕ
  cell_tally ns = 0 ∷ map (cells_in ns) (up_from 1 60)

  -- R27, R47: the lines and the cells before those of group g; before 61: of the whole record
  unfoldable pub lines_before : List ℕ → ℕ → ℕ
  lines_before ns g = sum (take g (line_tally ns))

  unfoldable pub cells_before : List ℕ → ℕ → ℕ
  cells_before ns g = sum (take g (cell_tally ns))

  -- R28, R47: all lines and all cells of a record
  abbrev pub record_lines : List ℕ → ℕ
  record_lines ns = sum (line_tally ns)

  abbrev pub record_cells : List ℕ → ℕ
  record_cells ns = sum (cell_tally ns)

  -- R47: of the cells of all groups, those of group g
  abbrev pub group_cells : List ℕ → List ℤ → ℕ → List ℤ
  group_cells ns cs g = part (cells_before ns g) (cells_before ns (suc g)) cs

  pub record Before (ns : List ℕ) (g lines cells : ℕ) : Type 0 where
    pub lines_are : lines ≡ lines_before ns g
    pub cells_are : cells ≡ cells_before ns g

-- R47: the cells of each group, group 1's first
abbrev pub joined : (ℕ → List ℤ) → List ℤ
joined cells = flat_map cells (up_from 1 60)
