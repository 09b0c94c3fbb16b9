-- `writing::put_entries` meets its contract. The invariant: the entries from this one on, put behind the others, make all of them.
use Rattle.writing.proofs.Putting.{Entries}
use Rattle.writing.proofs.put_entries.Given as goal

abbrev pub invariant-loop-i : goal.invariant-loop-i
invariant-loop-i l = Entries l.counts l.initial.out l.at l.i l.out
