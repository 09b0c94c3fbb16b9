-- What a reader may hold a group's lines to: k lines are enough for its elements and k - 1 are not.
-- Assumes nothing.
use mathlib.Core.Path.{◌≡◌}
use mathlib.Core.Logic.{◌↔◌}
use Prim.Native.Nat.{ℕ, ◌≤◌}
use native.Mathlib.Nat.{zero-mul, mul-le-mul, mul-le-mul_right, mul_assoc}
use native.Mathlib.Omega.{arith}
use Rattle.rules.specs.declared.Rules.{Rules}
use Rattle.form.specs.declared.Form.{Form}
use Rattle.form.specs.Table.{row_of}
use Rattle.form.specs.Count.{elements_of, lines_of, cells_of, Takes}
use Rattle.form.proofs.Rows.{row_fits}
use Rattle.form.proofs.Segments.{elements_none, elements_few}
use Rattle.form.proofs.Rounding.{lines_are, lines_least}

-- both directions: so many lines, and no other number, are what the elements need
pub lines_needed : (ρ : Rules) (f : Form) (n k : ℕ) → lines_of ρ f n ≡ k ↔ Takes (elements_of ρ f n) (row_of f).per_line k
unfolding lines_of
lines_needed ρ f n k = lines_are (elements_of ρ f n) (row_of f).per_line (row_fits f).some k

-- a count of n has at most n lines
pub lines_within : (ρ : Rules) (f : Form) (n : ℕ) → lines_of ρ f n ≤ n
unfolding lines_of
lines_within ρ f n = lines_least (elements_of ρ f n) (row_of f).per_line (row_fits f).some n (elements_few ρ f n)

-- a count of 0 has neither lines nor cells
pub lines_none : (ρ : Rules) (f : Form) → lines_of ρ f 0 ≡ 0
lines_none ρ f = omega (arith, lines_within ρ f 0)

pub cells_none : (ρ : Rules) (f : Form) → cells_of ρ f 0 ≡ 0
unfolding cells_of
cells_none ρ f = rw (elements_none ρ f) (zero-mul (row_of f).cells)

-- bounds for callers that add them up
pub lines_few : (ρ : Rules) (f : Form) (n : ℕ) → n ≤ 65535 → lines_of ρ f n ≤ 65535
lines_few ρ f n h = omega (arith, lines_within ρ f n)

pub cells_few : (ρ : Rules) (f : Form) (n : ℕ) → n ≤ 65535 → cells_of ρ f n ≤ 7864200
unfolding cells_of
cells_few ρ f n h =
    omega (
      arith,
      mul-le-mul_right (row_of f).cells (elements_few ρ f n),
      mul_assoc n (row_of f).per_line (row_of f).cells,
      mul-le-mul h (row_fits f).few_cells,
    )
