-- `writing::put_entries` meets its contract. The invariant: the entries from this one on, put behind the others, make all of them.
use Rattle.writing.proofs.Putting.{entries_next}
use Rattle.writing.proofs.put_entries.Goals as goal

pub loop-i-preserved : goal.loop-i-preserved
loop-i-preserved c = entries_next c.args.counts.now c.args.out.now c.args.at c.loop-i.invariant c.loop-i-test.true _ c.put_entry.ensures
