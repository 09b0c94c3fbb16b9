-- What a form's field holds: I, F, E or A, with its columns and how far its cells go (R71, R73, R74, R79).
use Rattle.std.specs.Prelude.{◌≡◌, ℕ, suc, ◌+◌, ◌-◌, ◌^◌, ◌≤◌}
use Rattle.form.specs.declared.Form.{Form}
use Rattle.form.specs.declared.Form.TheVariants.{F7, A120, A1, F8, I2, I3, I1, E11, E20, E8}
use Rattle.field.specs.declared.Kind.{Kind}
use Rattle.field.specs.declared.Kind.TheVariants.{Whole, Fixed, Power, OneLetter, AllLetters}

-- I and F: the width, and how far the cell goes below zero and above it (R71, R73). E: the columns before the point, the digits behind it,
-- the exponent's digits (R74), and how far the two cells go from zero (R79)
abbrev pub kind_of : Form → Kind
kind_of I1 = Whole 1 0 9
kind_of I2 = Whole 2 9 99
kind_of I3 = Whole 3 99 999
kind_of F7 = Fixed 7 99999 999999
kind_of F8 = Fixed 8 999999 9999999
kind_of E11 = Power 1 6 1 999999 9
kind_of E8 = Power 1 3 1 999 9
kind_of E20 = Power 3 12 2 999999999999 99
kind_of A1 = OneLetter
kind_of A120 = AllLetters 120

-- the width and the number of cells, which are the form's row (`kind_width`, `kind_cells_lem` in proofs/Forms.antt)
abbrev pub width_of : Kind → ℕ
width_of (Whole w low high) = w
width_of (Fixed w low high) = w
width_of (Power c d x p q) = c + d + x + 3
width_of OneLetter = 1
width_of (AllLetters w) = w

abbrev pub kind_cells : Kind → ℕ
kind_cells (Whole w low high) = 1
kind_cells (Fixed w low high) = 1
kind_cells (Power c d x p q) = 2
kind_cells OneLetter = 1
kind_cells (AllLetters w) = w

-- the ends of the ranges are powers of ten less one, once over the width: a column of I goes to the minus; of F one goes to the point, one to
-- the minus; E's digits and exponent have their signs apart
abbrev pub Tens : Kind → Type 0
Tens (Whole w low high) = (1 ≤ w) × (suc low ≡ 10 ^ (w - 1)) × (suc high ≡ 10 ^ w)
Tens (Fixed w low high) = (6 ≤ w) × (suc low ≡ 10 ^ (w - 2)) × (suc high ≡ 10 ^ (w - 1))
Tens (Power c d x p q) = (1 ≤ c) × (suc p ≡ 10 ^ d) × (suc q ≡ 10 ^ x)
Tens OneLetter = Unit {0}
Tens (AllLetters w) = Unit {0}

-- widths that an i64 and the machine's sums hold
abbrev pub Small : Kind → Type 0
Small (Whole w low high) = w ≤ 10
Small (Fixed w low high) = (6 ≤ w) × (w ≤ 10)
Small (Power c d x p q) = (1 ≤ c) × (c ≤ 12) × (d ≤ 12) × (1 ≤ x) × (x ≤ 12)
Small OneLetter = Unit {0}
Small (AllLetters w) = w ≤ 120
