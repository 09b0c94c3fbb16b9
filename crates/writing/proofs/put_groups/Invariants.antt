-- `writing::put_groups` meets its contract. The invariant: the groups from this one on, put at a, make all of them.
use Rattle.writing.proofs.Putting.{GroupsPut}
use Rattle.writing.proofs.put_groups.Given as goal

abbrev pub invariant-loop-number : goal.invariant-loop-number
invariant-loop-number l = GroupsPut l.rules l.counts l.cells l.at l.initial.out l.from l.a l.number l.out
