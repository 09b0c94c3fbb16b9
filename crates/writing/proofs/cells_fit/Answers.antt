-- `writing::cells_fit` meets its contract. The invariant: the groups before this one fit, and all are as the others are.
use Rattle.std.proofs.Common.{◌≡◌, ◌∙◌, ◌+◌, ◌≤◌, length, drop, Ok, Err, sym, ap, arith, rules}
use Rattle.writing.specs.Fitting.{elements_fit}
use Rattle.writing.proofs.Checking.{groups_start, groups_end, group_range, groups_more, groups_bad, elements_told}
use Rattle.writing.proofs.cells_fit.Goals.{After-cells, After-elements_fit}
use Rattle.writing.proofs.cells_fit.Goals as goal

pub loop-number-init : goal.loop-number-init
loop-number-init c = groups_start c.args.rules c.args.counts.now c.args.cells.now

room : (c : After-cells) → c.loop-number.from + c.cells.result ≤ length c.args.cells.now
room c =
    let a = c.args in
    omega (arith, c.cells.ensures, group_range a.rules a.counts.now a.cells.now c.loop-number.invariant c.loop-number-test.true c.form-form.result c.form-form.ensures c.count_of.result c.count_of.ensures c.requires)

pub overflow_add-to : goal.overflow_add-to
overflow_add-to c = let h = room (goal.at.overflow_add-to c).After-cells in search rules

pub offset_bounds-cells-from : goal.offset_bounds-cells-from
offset_bounds-cells-from c = let h = room (goal.at.offset_bounds-cells-from c).After-cells in search rules

pub slice_bounds-elements_fit-end : goal.slice_bounds-elements_fit-end
slice_bounds-elements_fit-end c = let h = room (goal.at.slice_bounds-elements_fit-end c).After-cells in search rules

told : (c : After-elements_fit) → c.elements_fit.result ≡ elements_fit c.args.rules c.form-form.result c.loop-number.number c.count_of.result (drop c.loop-number.from c.args.cells.now)
told c =
    let a = c.args in
    let l = c.loop-number in
    elements_told a.rules c.form-form.result c.count_of.result l.number a.cells.now l.from (l.from + c.cells.result) (ap (λ n. l.from + n) c.cells.ensures) (omega (arith, c.cells.ensures, group_range a.rules a.counts.now a.cells.now l.invariant c.loop-number-test.true c.form-form.result c.form-form.ensures c.count_of.result c.count_of.ensures c.requires)) c.elements_fit.ensures

pub returns-in_err-elements_fit : goal.returns-in_err-elements_fit
returns-in_err-elements_fit c =
    let a = c.args in
    let why = c.in_err-elements_fit.field-0.0 in
    let e : c.from_residual.result ≡ Err why = search rules in
    e
    ∙ groups_bad a.rules a.counts.now a.cells.now c.loop-number.invariant c.loop-number-test.true c.form-form.result c.form-form.ensures c.count_of.result c.count_of.ensures
    (sym (told (goal.at.returns-in_err-elements_fit c).After-elements_fit) ∙ c.in_err-elements_fit.was)

pub loop-number-preserved : goal.loop-number-preserved
loop-number-preserved c =
    let a = c.args in
    let t : c.elements_fit.result ≡ Ok tt = search rules in
    rw c.cells.ensures
    (groups_more a.rules a.counts.now a.cells.now c.loop-number.invariant c.loop-number-test.true c.form-form.result c.form-form.ensures c.count_of.result c.count_of.ensures
    (sym (told (goal.at.loop-number-preserved c).After-elements_fit) ∙ t))

pub returns : goal.returns
returns c = groups_end c.args.rules c.args.counts.now c.args.cells.now c.loop-number.invariant c.loop-number-test.false
