-- The letters of the first i cells stand there.
use Rattle.std.proofs.Common.{◌≡◌, map, take}
use Rattle.base.specs.Part.{over}
use Rattle.base.specs.Sign.{size_of}
use Rattle.field.proofs.put_letters.Given as goal

abbrev pub invariant-loop-i : goal.invariant-loop-i
invariant-loop-i l = l.out ≡ over l.at (take l.i (map size_of l.cells)) l.initial.out
