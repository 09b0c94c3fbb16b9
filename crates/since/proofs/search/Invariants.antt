-- `since::search` meets its contract. The invariant: what is left to be looked at from here on answers as the whole walk does.
-- Assumes nothing.
use Rattle.since.proofs.Walked.{Walking}
use Rattle.since.proofs.search.Given as goal

abbrev pub invariant-loop-passed : goal.invariant-loop-passed
invariant-loop-passed l = Walking l.rules l.text l.from l.at l.passed
