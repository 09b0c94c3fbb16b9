-- The replay from here on, with the cells and marks so far, is the replay asked for.
use Rattle.std.proofs.Common.{◌-◌, length}
use Rattle.journal.proofs.Playing.{PlaysOn}
use Rattle.journal.proofs.Fields.play.Given as goal

abbrev pub invariant-loop-entry : goal.invariant-loop-entry
invariant-loop-entry l = PlaysOn l.self.starts.now l.self.bytes.now l.initial.cells l.state l.cells

abbrev pub decreases-loop-entry : goal.decreases-loop-entry
decreases-loop-entry l = length l.self.bytes.now - l.state.place
