-- `decimal::put_text` meets its contract. The invariant: the first i bytes of the text stand there.
use Rattle.std.proofs.Common.{◌≡◌, take}
use Rattle.base.specs.Part.{over}
use Rattle.decimal.proofs.put_text.Given as goal

abbrev pub invariant-loop-i : goal.invariant-loop-i
invariant-loop-i l = l.out ≡ over l.at (take l.i l.text) l.initial.out
