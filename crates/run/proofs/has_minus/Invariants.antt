-- `run::has_minus` meets its contract. The invariant: whether a minus is among the bytes so far.
use Rattle.std.proofs.Common.{◌≡◌, take}
use Rattle.base.specs.Every.{has}
use Rattle.run.proofs.has_minus.Given as goal

abbrev pub invariant-loop-b : goal.invariant-loop-b
invariant-loop-b l = l.minus ≡ has (take l.b-index l.s) 45
