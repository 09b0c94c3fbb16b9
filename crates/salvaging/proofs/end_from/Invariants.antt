-- `salvaging::end_from` meets its contract. The invariant: of the places behind the first, none that was passed will do.
-- Assumes nothing.
use Prim.Native.Nat.{◌-◌}
use lib.ListN.{length}
use Rattle.salvaging.proofs.Seeking.{Seeking}
use Rattle.salvaging.proofs.end_from.Given as goal

abbrev pub invariant-loop-at : goal.invariant-loop-at
invariant-loop-at l = Seeking l.rules l.text l.from l.at

abbrev pub decreases-loop-at : goal.decreases-loop-at
decreases-loop-at l = length l.text - l.at
