-- `place::with_lines` meets its contract: one group's lines after the other's. The invariant: the first k groups have their places.
-- Assumes nothing.
use Rattle.place.proofs.Spans.{Shared}
use Rattle.place.proofs.with_lines.Given as goal

abbrev pub invariant-loop-k : goal.invariant-loop-k
invariant-loop-k l = Shared l.rules l.text l.from l.counts l.k l.at l.starts l.ends
