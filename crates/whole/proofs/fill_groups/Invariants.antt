-- `whole::fill_groups` meets its contract. The invariant: before each group, the cells of the groups from it on are all that is still to be put.
-- Assumes nothing.
use Rattle.place.specs.Placing.{carried}
use Rattle.whole.proofs.Passes.{Filling}
use Rattle.whole.proofs.fill_groups.Given as goal

abbrev pub invariant-loop-next : goal.invariant-loop-next
invariant-loop-next l = Filling l.rules l.fn.placed.text.now (carried l.fn.placed.counts.now l.fn.placed.starts.now l.fn.placed.ends.now) l.initial.table l.table l.next l.cell
