-- `group::told_by` meets its contract by the test.
-- Assumes nothing.
use mathlib.Core.Path.{sym}
use mir.Syntax.{w64}
use mir.Facts.{to_z-of_z}
use Rattle.group.proofs.Reported.{told_none}
use Rattle.group.proofs.told_by.Goals as goal

pub returns-then-is_no_reading : goal.returns-then-is_no_reading
returns-then-is_no_reading c =
    let means = rw (to_z-of_z {w = w64} c.ranges.cell) at c.is_no_reading.ensures in
    sym (told_none _ _ means c.if-is_no_reading.true)
