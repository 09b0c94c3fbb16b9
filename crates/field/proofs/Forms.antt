-- The ten forms: each kind's width and cells are the form's row, the ends of its range are powers of ten less one, and the machine holds them.
-- Assumes nothing.
use mathlib.Core.Path.{◌≡◌, refl}
use native.Mathlib.Omega.{arith}
use lib.Dec.{eqb, eqb→eq}
use Rattle.form.specs.declared.Form.{Form}
use Rattle.form.specs.declared.Form.TheVariants.{F7, A120, A1, F8, I2, I3, I1, E11, E20, E8}
use Rattle.form.specs.Table
use Rattle.form.specs.Table.{row_of}
use Rattle.form.proofs.Table.{each_form}
use Rattle.field.specs.Kind.{kind_of, width_of, kind_cells, Tens, Small}

-- one computed test over the ten forms for each of the first two
pub kind_width : (f : Form) → width_of (kind_of f) ≡ (row_of f).width
unfolding Table.row_of Table.listed_as
kind_width f = eqb→eq (width_of (kind_of f)) (row_of f).width (each_form (λ f. eqb (width_of (kind_of f)) (row_of f).width) tt f)

pub kind_cells_lem : (f : Form) → kind_cells (kind_of f) ≡ (row_of f).cells
unfolding Table.row_of Table.listed_as
kind_cells_lem f = eqb→eq (kind_cells (kind_of f)) (row_of f).cells (each_form (λ f. eqb (kind_cells (kind_of f)) (row_of f).cells) tt f)

pub kind_tens : (f : Form) → Tens (kind_of f)
kind_tens F7 = (omega arith, refl, refl)
kind_tens A120 = tt
kind_tens A1 = tt
kind_tens F8 = (omega arith, refl, refl)
kind_tens I2 = (omega arith, refl, refl)
kind_tens I3 = (omega arith, refl, refl)
kind_tens I1 = (omega arith, refl, refl)
kind_tens E11 = (omega arith, refl, refl)
kind_tens E20 = (omega arith, refl, refl)
kind_tens E8 = (omega arith, refl, refl)

-- the machine's cell holds the ends of each form's range, as `Small` has it
pub kind_small : (f : Form) → Small (kind_of f)
kind_small F7 = (omega arith, omega arith)
kind_small A120 = omega arith
kind_small A1 = tt
kind_small F8 = (omega arith, omega arith)
kind_small I2 = omega arith
kind_small I3 = omega arith
kind_small I1 = omega arith
kind_small E11 = (omega arith, omega arith, omega arith, omega arith, omega arith)
kind_small E20 = (omega arith, omega arith, omega arith, omega arith, omega arith)
kind_small E8 = (omega arith, omega arith, omega arith, omega arith, omega arith)
