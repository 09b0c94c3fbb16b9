-- `writing::canonical_length` meets its contract. The invariant: the bytes of the groups from this one on are still to be added.
use Rattle.std.proofs.Common.{◌+◌, arith}
use Rattle.writing.proofs.Lengths.{Adding, adding_start, adding_end, adding_more}
use Rattle.writing.proofs.canonical_length.Goals.{After-group_bytes-total}
use Rattle.writing.proofs.canonical_length.Goals as goal

pub loop-number-init : goal.loop-number-init
loop-number-init c = adding_start c.args.rules c.args.counts.now

more : (c : After-group_bytes-total) → Adding c.args.rules c.args.counts.now (c.loop-number.total + c.group_bytes-total.result) (c.loop-number.number + 1)
more c =
    let a = c.args in
    rw c.group_bytes-total.ensures
    (adding_more a.rules a.counts.now c.loop-number.invariant c.loop-number-test.true c.form-form.result c.form-form.ensures c.count_of.result c.count_of.ensures (omega arith))

pub overflow_add-total : goal.overflow_add-total
overflow_add-total c = omega (arith, (more (goal.at.overflow_add-total c).After-group_bytes-total).small)

pub loop-number-preserved : goal.loop-number-preserved
loop-number-preserved c = more (goal.at.loop-number-preserved c).After-group_bytes-total

pub returns : goal.returns
returns c = adding_end c.args.rules c.args.counts.now c.loop-number.invariant c.loop-number-test.false
