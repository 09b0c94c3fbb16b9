-- `reading::seen_formed` meets its contract: one look.
-- Assumes nothing.
use native.Mathlib.Omega.{arith}
use mathlib.Core.Path.{sym, ◌∙◌}
use Prim.Native.Nat.{◌*◌, ◌≤◌}
use Rattle.reading.proofs.Checking.{columns_few}
use Rattle.reading.proofs.Trying.{formed_each}
use Rattle.reading.proofs.seen_formed.Goals as goal

pub overflow_mul-columns : goal.overflow_mul-columns
overflow_mul-columns c =
    let few : c.args.many * c.row_of.result.width ≤ 120 * 120 = rw c.row_of.ensures (columns_few c.args.form.fields c.args.many c.requires.few) in
    omega (arith, few)

pub returns-then-all_formed-clause-seen : goal.returns-then-all_formed-clause-seen
returns-then-all_formed-clause-seen c =
    formed_each c.args.form.fields c.args.form.short c.args.at c.args.stop c.args.lines.now c.args.many (sym c.all_formed.ensures ∙ c.if-all_formed.true)
