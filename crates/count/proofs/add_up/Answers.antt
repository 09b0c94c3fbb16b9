-- `count::add_up` meets its contract. The invariant: the totals are those before group `number`, and so small that none overflows.
-- Assumes nothing.
use native.Mathlib.Omega.{arith}
use Rattle.std.proofs.Common.{rules}
use Rattle.form.specs.Table.{form_of}
use Prim.Native.Nat.{◌≤◌, min}
use mathlib.Core.Path.{◌≡◌}
use Rattle.count.proofs.Tallied.{lines_by_few, cells_by_few, before_none, before_groups, before_end, before_more}
use Rattle.count.proofs.add_up.Goals as goal

pub returns-then-group-eq0 : goal.returns-then-group-eq0
returns-then-group-eq0 c = before_none _ _ _ c.if-group-eq0.true

pub loop-number-init : goal.loop-number-init
loop-number-init c = search (rules, before_groups)

pub loop-number-preserved : goal.loop-number-preserved
loop-number-preserved c =
    let l = c.loop-number in let ρ = c.args.rules in
    let n = c.count_of.result in
    let few : n ≤ 65535 = omega arith in
    record {
      few_lines = omega (arith, lines_by_few ρ (form_of l.number) n few);
      few_cells = omega (arith, cells_by_few ρ (form_of l.number) n few);
      before = before_more ρ c.args.counts.now l.number l.totals.lines l.totals.cells (omega arith) (omega arith) l.invariant.before n _ _ c.count_of.ensures c.with_group-totals.ensures.lines c.with_group-totals.ensures.cells;
    }

pub returns : goal.returns
returns c =
    let e : c.loop-number.number ≡ min c.args.group 61 = omega (arith, c.min-number-end.ensures) in
    before_end _ _ _ _ _ (rw e at c.loop-number.invariant.before)
