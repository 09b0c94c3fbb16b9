-- `number::put` meets its contract. The invariant: the columns still to be filled, with what stands in those behind them, are what was
-- asked for, and what is left after them is what was to be left.
use mathlib.Core.Path.{◌≡◌}
use mathlib.Core.List.{◌++◌}
use lib.ListN.{length, drop}
use Rattle.number.specs.Write.{text_of, rest_of}
use Rattle.number.proofs.put.Given as goal

abbrev pub invariant-loop-i : goal.invariant-loop-i
invariant-loop-i l = (length l.out ≡ length l.initial.out)
    × (text_of l.filled l.i l.st ++ drop l.i l.out ≡ text_of l.filled (length l.initial.out) l.initial.st)
    × (rest_of l.filled l.i l.st ≡ rest_of l.filled (length l.initial.out) l.initial.st)
