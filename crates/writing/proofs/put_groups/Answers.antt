-- `writing::put_groups` meets its contract. The invariant: the groups from this one on, put at a, make all of them.
use Rattle.std.proofs.Common.{◌+◌, ◌≤◌, length, ap, arith, rules}
use Rattle.base.specs.Part.{part}
use Rattle.writing.specs.Fitting.{many_of, AllFit}
use Rattle.writing.specs.Text.{many_bytes}
use Rattle.writing.proofs.Putting.{groups_put_start, groups_put_end, group_cells_lem, group_requires, groups_put_next}
use Rattle.writing.proofs.put_groups.Goals.{After-cells}
use Rattle.writing.proofs.put_groups.Goals as goal

pub loop-number-init : goal.loop-number-init
loop-number-init c = groups_put_start c.args.rules c.args.counts.now c.args.cells.now c.args.at c.args.out.now c.requires.room

room : (c : After-cells) → c.loop-number.from + c.cells.result ≤ length c.args.cells.now
room c =
    let a = c.args in
    omega (arith, c.cells.ensures, group_cells_lem a.rules a.counts.now a.cells.now a.at a.out.now c.loop-number.invariant c.loop-number-test.true c.requires.fits c.requires.cells c.form-form.result c.form-form.ensures c.count_of.result c.count_of.ensures)

pub overflow_add-to : goal.overflow_add-to
overflow_add-to c = let h = room (goal.at.overflow_add-to c).After-cells in search rules

pub offset_bounds-cells-from : goal.offset_bounds-cells-from
offset_bounds-cells-from c = let h = room (goal.at.offset_bounds-cells-from c).After-cells in search rules

pub slice_bounds-put_lines-end : goal.slice_bounds-put_lines-end
slice_bounds-put_lines-end c = let h = room (goal.at.slice_bounds-put_lines-end c).After-cells in search rules

needs : (c : After-cells) → let x = part c.loop-number.from (c.loop-number.from + c.cells.result) c.args.cells.now in AllFit c.form-form.result x × (c.loop-number.a + many_bytes c.form-form.result (many_of c.form-form.result x) ≤ length c.loop-number.out)
needs c =
    let a = c.args in
    group_requires a.rules a.counts.now a.cells.now a.at a.out.now c.loop-number.invariant c.loop-number-test.true c.requires.fits c.requires.cells c.form-form.result c.form-form.ensures c.count_of.result c.count_of.ensures _ (ap (λ n. c.loop-number.from + n) c.cells.ensures)

pub put_lines-a-requires-clause-fit : goal.put_lines-a-requires-clause-fit
put_lines-a-requires-clause-fit c = (needs (goal.at.put_lines-a-requires-clause-fit c).After-cells).0

pub put_lines-a-requires-clause-room : goal.put_lines-a-requires-clause-room
put_lines-a-requires-clause-room c = (needs (goal.at.put_lines-a-requires-clause-room c).After-cells).1

pub loop-number-preserved : goal.loop-number-preserved
loop-number-preserved c =
    let a = c.args in
    groups_put_next a.rules a.counts.now a.cells.now a.at a.out.now c.loop-number.invariant c.loop-number-test.true c.requires.fits c.requires.cells c.form-form.result c.form-form.ensures c.count_of.result c.count_of.ensures _ (ap (λ n. c.loop-number.from + n) c.cells.ensures)
    _ _ c.put_lines-a.ensures.answer c.put_lines-a.ensures.output

pub returns : goal.returns
returns c = groups_put_end c.args.rules c.args.counts.now c.args.cells.now c.args.at c.args.out.now c.loop-number.invariant c.loop-number-test.false
