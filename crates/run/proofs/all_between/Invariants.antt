-- `run::all_between` meets its contract. The invariant: the bytes so far have passed, or one has not.
use Rattle.std.proofs.Common.{◌≡◌, take}
use Rattle.base.specs.Every.{every}
use Rattle.run.specs.Columns.{between}
use Rattle.run.proofs.all_between.Given as goal

abbrev pub invariant-loop-b : goal.invariant-loop-b
invariant-loop-b l = l.ok ≡ every (between l.first l.last) (take l.b-index l.s)
