-- `whole::read_placed` meets its contract: room, then all groups are checked, and only then the table is filled.
-- Assumes nothing.
use native.Mathlib.Omega.{arith}
use mathlib.Core.Path.{sym, ◌∙◌, ap}
use Rattle.std.specs.Prelude.{Err}
use Rattle.std.proofs.lemmas.Result.{err_from_is_err_and}
use Rattle.count.proofs.Tallied.{all_cells}
use Rattle.place.specs.Placing.{carried}
use Rattle.whole.proofs.Steps.{step_short, step_unread, step_read}
use Rattle.whole.proofs.read_placed.Goals as goal

pub returns-then-table-cells : goal.returns-then-table-cells
returns-then-table-cells c =
    let p = c.args.placed in
    let many = c.add_up-cells.ensures.cells_are ∙ all_cells c.args.rules p.counts.now in
    let all = step_short c.args.rules p.text.now (carried p.counts.now p.starts.now p.ends.now) c.args.table.now (omega (arith, many)) in
    record { answer = ap Err c.from.ensures ∙ all.0; table = all.1 }

pub returns-in_err-check_groups : goal.returns-in_err-check_groups
returns-in_err-check_groups c =
    let p = c.args.placed in
    let many = c.add_up-cells.ensures.cells_are ∙ all_cells c.args.rules p.counts.now in
    let all = step_unread c.args.rules p.text.now (carried p.counts.now p.starts.now p.ends.now) c.args.table.now (omega (arith, many)) (sym c.in_err-check_groups.was ∙ c.check_groups.ensures) in
    let e = err_from_is_err_and c.from_residual.result c.from_residual.ensures.1 in
    record { answer = rw (e.1, e.2) all.0; table = all.1 }

pub fill_groups-requires : goal.fill_groups-requires
fill_groups-requires c =
    let many = c.add_up-cells.ensures.cells_are ∙ all_cells c.args.rules c.args.placed.counts.now in record {
      clean = sym c.check_groups.ensures ∙ c.in_ok-check_groups.was;
      room = omega (arith, many);
    }

pub returns : goal.returns
returns c =
    let p = c.args.placed in
    let many = c.add_up-cells.ensures.cells_are ∙ all_cells c.args.rules p.counts.now in
    let all = step_read c.args.rules p.text.now (carried p.counts.now p.starts.now p.ends.now) c.args.table.now (omega (arith, many)) many
    (sym c.in_ok-check_groups.was ∙ c.check_groups.ensures) c.fill_groups.ensures in
    record { answer = all.0; table = all.1 }
