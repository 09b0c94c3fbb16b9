-- `place::read_entries` meets its contract. The invariant: the first k entries are stored, and all give what these and the others give.
-- Assumes nothing.
use Rattle.place.proofs.Entries.{Storing}
use Rattle.place.proofs.read_entries.Given as goal

abbrev pub invariant-loop-k : goal.invariant-loop-k
invariant-loop-k l = Storing l.entry-items l.k l.counts
