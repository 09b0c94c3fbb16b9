-- `count::set_ruling` meets its contract. The invariant: what the sets met so far give, with what the others give, is what all give.
-- Assumes nothing.
use mathlib.Core.Path.{sym, ◌∙◌}
use mathlib.Core.Bool.{false}
use Rattle.count.specs.Rules.{set, sets, set_rule}
use Rattle.count.proofs.Rulings.{lowest_more}
use Rattle.count.proofs.set_ruling.Goals as goal

pub loop-set-preserved : goal.loop-set-preserved
unfolding sets
loop-set-preserved c =
    let l = c.loop-set in
    rw (c.lower_of-low.ensures, c.ruled.ensures, c.kept_by.ensures)
    (sym (lowest_more (set_rule c.args.counts.now) (set 0 0 false) sets l.low l.set-index c.loop-set-test.true) ∙ l.invariant)
