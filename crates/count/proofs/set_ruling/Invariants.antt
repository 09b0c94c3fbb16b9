-- `count::set_ruling` meets its contract. The invariant: what the sets met so far give, with what the others give, is what all give.
-- Assumes nothing.
use mathlib.Core.Path.{◌≡◌}
use mathlib.Core.List.{map}
use lib.ListN.{drop}
use Rattle.count.specs.Rules.{lower, lowest, sets, set_rule}
use Rattle.count.proofs.set_ruling.Given as goal

abbrev pub invariant-loop-set : goal.invariant-loop-set
invariant-loop-set l = lower l.low (lowest (map (set_rule l.counts) (drop l.set-index sets))) ≡ lowest (map (set_rule l.counts) sets)
