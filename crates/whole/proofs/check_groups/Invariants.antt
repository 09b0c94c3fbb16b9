-- `whole::check_groups` meets its contract. The invariant: before a group, the groups from it on decide as all do.
-- Assumes nothing.
use Rattle.place.specs.Placing.{carried}
use Rattle.whole.proofs.Passes.{Checking}
use Rattle.whole.proofs.check_groups.Given as goal

abbrev pub invariant-loop-number : goal.invariant-loop-number
invariant-loop-number l = Checking l.rules l.fn.placed.text.now (carried l.fn.placed.counts.now l.fn.placed.starts.now l.fn.placed.ends.now) l.number
