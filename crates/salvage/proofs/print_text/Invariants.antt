-- The invariant: the pieces that were printed, and those from the place on, are the whole; and the outputs have grown by what is due of those.
use Rattle.std.proofs.Common.{length, ◌-◌}
use Rattle.salvage.proofs.Writing.{Writing}
use Rattle.salvage.proofs.print_text.Given as goal

abbrev pub invariant-loop-at : goal.invariant-loop-at
invariant-loop-at g l =
    Writing l.rules l.text l.at (g.W.Write.contents l.initial.out) (g.W.Write.contents l.out) (g.E.Write.contents l.initial.standard_error)
    (g.E.Write.contents l.standard_error)

abbrev pub decreases-loop-at : goal.decreases-loop-at
decreases-loop-at g l = length l.text - l.at
