-- `reading::misfit` meets its contract.
-- Assumes nothing.
use native.Mathlib.Omega.{arith}
use Rattle.reading.proofs.Trying.{line_range}
use Rattle.reading.proofs.misfit.Goals as goal

pub slice_bounds-right_content-end : goal.slice_bounds-right_content-end
slice_bounds-right_content-end c = omega (arith, line_range c.args.rules c.args.lines.now c.args.at c.requires.inside, c.behind_line-end.ensures)
