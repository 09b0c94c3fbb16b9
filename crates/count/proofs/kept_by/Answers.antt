-- `count::kept_by` meets its contract. The invariant: the counts from g on, after what was seen, agree exactly if all do.
-- Assumes nothing.
use native.Mathlib.Omega.{arith}
use mathlib.Core.Path.{sym, ◌∙◌}
use Rattle.count.proofs.Sets.{seen_more}
use Rattle.count.proofs.kept_by.Goals as goal

pub loop-g-preserved : goal.loop-g-preserved
loop-g-preserved c =
    let l = c.loop-g in
    seen_more c.args.counts.now c.args.set.now l.seen l.g l.invariant _ _ (omega arith) c.count_of-n.ensures
    (sym c.differs.ensures ∙ c.if-differs.false) c.settled-seen.ensures
