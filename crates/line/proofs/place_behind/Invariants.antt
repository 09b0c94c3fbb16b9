-- `line::place_behind` meets its contract. The invariant: from here on, the place behind the lines that are left is the one asked for.
-- Assumes nothing.
use Rattle.std.proofs.Common.{◌≡◌, ◌<◌}
use Rattle.line.specs.Places.{behind_at}
use Rattle.line.proofs.place_behind.Given as goal

abbrev pub invariant-loop-i : goal.invariant-loop-i
invariant-loop-i l = (0 < l.left) × (behind_at l.text l.i l.left ≡ behind_at l.text l.at l.lines)
