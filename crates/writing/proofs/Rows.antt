-- Each form's element has cells, and each form's line elements.
-- Assumes nothing.
use Rattle.std.proofs.Common.{◌*◌, ◌≤◌}
use lib.Dec.{leb, leb→le}
use Rattle.form.specs.declared.Form.{Form}
use Rattle.form.specs.Table
use Rattle.form.specs.Table.{row_of}
use Rattle.form.proofs.Table.{each_form}

pub some_cells : (f : Form) → 1 ≤ (row_of f).cells
unfolding Table.row_of Table.listed_as
some_cells f = leb→le 1 (row_of f).cells (each_form (λ f. leb 1 (row_of f).cells) tt f)

pub some_elements : (f : Form) → 1 ≤ (row_of f).per_line
unfolding Table.row_of Table.listed_as
some_elements f = leb→le 1 (row_of f).per_line (each_form (λ f. leb 1 (row_of f).per_line) tt f)

-- the cells of a full line
pub line_some : (f : Form) → 1 ≤ (row_of f).per_line * (row_of f).cells
unfolding Table.row_of Table.listed_as
line_some f = leb→le 1 ((row_of f).per_line * (row_of f).cells) (each_form (λ f. leb 1 ((row_of f).per_line * (row_of f).cells)) tt f)

pub line_few : (f : Form) → (row_of f).per_line * (row_of f).cells ≤ 120
unfolding Table.row_of Table.listed_as
line_few f = leb→le ((row_of f).per_line * (row_of f).cells) 120 (each_form (λ f. leb ((row_of f).per_line * (row_of f).cells) 120) tt f)
