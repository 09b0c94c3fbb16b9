-- A half has fewer fields.
use Rattle.journal.proofs.Fields.+restore_at.Given as goal

abbrev pub decreases-restore_at : goal.decreases-restore_at
decreases-restore_at l = l.n
