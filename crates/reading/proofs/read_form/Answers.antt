-- `reading::read_form` meets its contract: room, then the check, and the table is filled only where all is clean.
-- Assumes nothing.
use mathlib.Core.Path.{sym, ◌∙◌, ap, subst}
use Prim.Native.Nat.{◌<◌, ◌≤◌}
use lib.ListN.{length}
use Rattle.std.specs.Prelude.{Ok}
use Rattle.std.proofs.lemmas.Result.{err_from_is_err_and}
use Rattle.reading.proofs.Steps.{form_none, form_bad, lines_clean, form_done}
use Rattle.reading.proofs.read_form.Goals as goal

pub returns-then-table-cells : goal.returns-then-table-cells
returns-then-table-cells c =
    let all = form_none c.args.rules c.args.asked.form c.args.asked.group c.args.asked.count c.args.lines.now c.args.table.now
    (subst (λ m. length c.args.table.now < m) c.cells-cells.ensures c.if-table-cells.true) in
    record { answer = all.0; table = all.1 }

pub fill-requires : goal.fill-requires
fill-requires c =
    let enough = subst (λ m. m ≤ length c.args.table.now) c.cells-cells.ensures c.if-table-cells.false in
    let clean =
    lines_clean c.args.rules c.args.asked.form c.args.asked.group c.args.asked.count c.args.lines.now c.args.table.now enough
    (sym c.check.ensures ∙ c.in_ok-check.was) in record {
      clean = clean;
      room = enough;
    }

pub returns-in_err-check : goal.returns-in_err-check
returns-in_err-check c =
    let all = form_bad c.args.rules c.args.asked.form c.args.asked.group c.args.asked.count c.args.lines.now c.args.table.now
    (subst (λ m. m ≤ length c.args.table.now) c.cells-cells.ensures c.if-table-cells.false) _
    (sym c.check.ensures ∙ c.in_err-check.was) in
    let p = err_from_is_err_and c.from_residual.result c.from_residual.ensures.1 in
    record { answer = rw (p.1, p.2) all.0; table = all.1 }

pub returns : goal.returns
returns c =
    let b = form_done c.args.rules c.args.asked.form c.args.asked.group c.args.asked.count c.args.lines.now c.args.table.now
    (subst (λ m. m ≤ length c.args.table.now) c.cells-cells.ensures c.if-table-cells.false)
    (sym c.check.ensures ∙ c.in_ok-check.was) c.fill.ensures in record {
      answer = ap Ok c.cells-cells.ensures ∙ b.0;
      table = b.1;
    }
