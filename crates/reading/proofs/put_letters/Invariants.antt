-- `reading::put_letters` meets its contract. The invariant: the first i letters stand in the table.
-- Assumes nothing.
use mathlib.Core.Path.{◌≡◌}
use mathlib.Core.List.{map}
use Prim.Native.Nat.{◌≤◌}
use lib.IntN.{pos}
use lib.ListN.{length, take}
use Rattle.base.specs.Part.{over}
use Rattle.reading.specs.Blanks.{filled_to}
use Rattle.reading.proofs.put_letters.Given as goal

abbrev pub invariant-loop-i : goal.invariant-loop-i
invariant-loop-i l = (l.i ≤ l.width) × (length l.table ≡ length l.initial.table) × (l.table ≡ over l.at (take l.i (map pos (filled_to l.width l.bytes))) l.initial.table)
