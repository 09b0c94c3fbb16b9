-- `writing::canonical_length` meets its contract. The invariant: the bytes of the groups from this one on are still to be added.
use Rattle.writing.proofs.Lengths.{Adding}
use Rattle.writing.proofs.canonical_length.Given as goal

abbrev pub invariant-loop-number : goal.invariant-loop-number
invariant-loop-number l = Adding l.rules l.counts l.total l.number
