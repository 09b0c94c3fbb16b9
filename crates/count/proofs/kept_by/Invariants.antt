-- `count::kept_by` meets its contract. The invariant: the counts from g on, after what was seen, agree exactly if all do.
-- Assumes nothing.
use Rattle.count.proofs.Sets.{Seen}
use Rattle.count.proofs.kept_by.Given as goal

abbrev pub invariant-loop-g : goal.invariant-loop-g
invariant-loop-g l = Seen l.counts l.set l.seen l.g
