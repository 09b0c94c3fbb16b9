-- The groups up to here begin where their entries say, and the cells so far are those before the next.
use Rattle.std.proofs.Common.{◌≡◌, ◌*◌, ◌≤◌, length}
use Rattle.count.specs.Tally.{cells_before}
use Rattle.journal.proofs.Spots.{FilledTo}
use Rattle.journal.proofs.starts_of.Given as goal

abbrev pub invariant-loop-number : goal.invariant-loop-number
invariant-loop-number l = (length l.starts ≡ 62) × (l.sum ≤ 7864200 * l.number) × (l.sum ≡ cells_before l.rules l.counts l.number) × FilledTo l.rules l.counts l.starts l.number
