-- What it says that cells fit a form: their number, and their kind's range.
-- Assumes nothing.
use mathlib.Core.Path.{◌≡◌, sym, ◌∙◌}
use mathlib.Core.List.{List}
use lib.Dec.{T, eqb, eqb→eq}
use lib.IntN.{ℤ}
use lib.ListN.{length}
use Rattle.base.proofs.Choice.{and_left, and_right, and_both, true_T}
use borrow.Author.Tests.{eq-eqb}
use Rattle.form.specs.declared.Form.{Form}
use Rattle.form.specs.Table.{row_of}
use Rattle.field.specs.Kind.{kind_of, kind_cells}
use Rattle.field.specs.Write.{fits_of, range_of}
use Rattle.field.proofs.Forms.{kind_cells_lem}

pub fits_sized : (f : Form) (cs : List ℤ) → T (fits_of f cs) → length cs ≡ (row_of f).cells
unfolding fits_of
fits_sized f cs t = eqb→eq (length cs) (row_of f).cells (and_left (eqb (length cs) (row_of f).cells) (range_of (kind_of f) cs) t)

pub fits_range : (f : Form) (cs : List ℤ) → T (fits_of f cs) → T (range_of (kind_of f) cs)
unfolding fits_of
fits_range f cs t = and_right (eqb (length cs) (row_of f).cells) (range_of (kind_of f) cs) t

pub range_fits : (f : Form) (cs : List ℤ) → length cs ≡ (row_of f).cells → T (range_of (kind_of f) cs) → T (fits_of f cs)
unfolding fits_of
range_fits f cs e t =
    and_both (eqb (length cs) (row_of f).cells) (range_of (kind_of f) cs) (true_T (eqb (length cs) (row_of f).cells) (eq-eqb (length cs) (row_of f).cells e)) t

-- as many cells as the kind has
pub fits_counted : (f : Form) (cs : List ℤ) → T (fits_of f cs) → length cs ≡ kind_cells (kind_of f)
fits_counted f cs t = fits_sized f cs t ∙ sym (kind_cells_lem f)
