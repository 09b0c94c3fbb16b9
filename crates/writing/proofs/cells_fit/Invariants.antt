-- `writing::cells_fit` meets its contract. The invariant: the groups before this one fit, and all are as the others are.
use Rattle.writing.proofs.Checking.{Groups}
use Rattle.writing.proofs.cells_fit.Given as goal

abbrev pub invariant-loop-number : goal.invariant-loop-number
invariant-loop-number l = Groups l.rules l.counts l.cells l.from l.number
