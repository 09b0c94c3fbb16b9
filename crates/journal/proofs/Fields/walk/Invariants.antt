-- The walk from here on, with the marks so far, is the walk asked for.
use Rattle.std.proofs.Common.{◌-◌, length}
use Rattle.journal.proofs.Walking.{Walking}
use Rattle.journal.proofs.Fields.walk.Given as goal

abbrev pub invariant-loop-entry : goal.invariant-loop-entry
invariant-loop-entry l = Walking l.self.starts.now l.self.bytes.now l.state

abbrev pub decreases-loop-entry : goal.decreases-loop-entry
decreases-loop-entry l = length l.self.bytes.now - l.state.place
