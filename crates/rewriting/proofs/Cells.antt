-- R111: a record has no more cells than bytes of canonical text: a field gives no more cells than it has columns. So a table that is as long as
-- the output always serves.
-- Assumes nothing.
use Rattle.std.specs.Prelude.{Option, Some, None}
use mathlib.Core.List.{List}
use Prim.Native.Nat.{ℕ, ◌≤◌}
use native.Mathlib.Nat.{mul-le-mul_left}
use native.Mathlib.Omega.{arith}
use lib.Dec.{T, leb, leb→le}
use Rattle.rules.specs.declared.Rules.{Rules}
use Rattle.base.specs.Every.{every, up_from}
use Rattle.base.specs.Sum
use Rattle.base.specs.Sum.{sum}
use Rattle.base.proofs.Sum.{sum_map_le}
use Rattle.form.specs.declared.Form.{Form}
use Rattle.form.specs.Table
use Rattle.form.specs.Table.{row_of, forms, form_of}
use Rattle.form.specs.Count
use Rattle.form.specs.Count.{elements_of}
use Rattle.form.proofs.Table.{each_form}
use Rattle.count.specs.Tally
use Rattle.count.specs.Tally.{count_of, cells_by, cells_in, record_cells}
use Rattle.writing.specs.Text
use Rattle.writing.specs.Text.{bytes_by, bytes_in, record_bytes}

-- by one test over the ten rows
all_narrow : T (every (λ f. leb (row_of f).cells (row_of f).width) forms)
unfolding Table.row_of Table.listed_as
all_narrow = tt

field_cells : (f : Form) → (row_of f).cells ≤ (row_of f).width
field_cells f = leb→le (row_of f).cells (row_of f).width (each_form (λ g. leb (row_of g).cells (row_of g).width) all_narrow f)

group_cells_lem : (ρ : Rules) (ns : List ℕ) (g : ℕ) → cells_in ρ ns g ≤ bytes_in ρ ns g
unfolding Tally.cells_in Text.bytes_in Count.cells_of
group_cells_lem ρ ns g = by (form_of g)
  where
    by : (h : Option Form) → cells_by ρ h (count_of ns g) ≤ bytes_by ρ h (count_of ns g)
    by (Some f) = omega (arith, mul-le-mul_left (elements_of ρ f (count_of ns g)) (field_cells f))
    by None = omega arith

pub record_cells_lem : (ρ : Rules) (ns : List ℕ) → record_cells ρ ns ≤ record_bytes ρ ns
unfolding Tally.cell_tally Text.record_bytes Sum.sum
record_cells_lem ρ ns = omega (arith, sum_map_le (cells_in ρ ns) (bytes_in ρ ns) (group_cells_lem ρ ns) (up_from 1 60))
