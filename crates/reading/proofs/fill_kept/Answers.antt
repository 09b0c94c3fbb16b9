-- `reading::fill_kept` meets its contract: a count of 0 has no cells; else the group's part of the table is filled.
-- Assumes nothing.
use borrow.Author.Rules.{rules}
use native.Mathlib.Omega.{arith}
use mathlib.Core.Path.{◌≡◌, sym, ◌∙◌, ap}
use Prim.Native.Nat.{◌+◌, ◌≤◌}
use lib.ListN.{length}
use Rattle.base.specs.Part.{over}
use Rattle.base.specs.Pieces.{cells_got}
use Rattle.base.proofs.Part.{over_none}
use Rattle.form.specs.Count.{cells_of}
use Rattle.reading.proofs.Passes.{fitting_none, fitting_cells, lines_clean, filled_part}
use Rattle.reading.proofs.Steps.{kept_date}
use Rattle.reading.proofs.fill_kept.Goals as goal

pub returns-then-count-eq0 : goal.returns-then-count-eq0
returns-then-count-eq0 c =
    let a = c.args in
    let none = fitting_none a.rules a.kept.counts.now a.group.number a.lines.now a.kept.kept a.group.low a.group.high (sym c.count_of-count.ensures ∙ c.if-count-eq0.true) in record {
      end = omega (arith, none.1);
      table = over_none a.table.now a.cell ∙ ap (λ y. over a.cell (cells_got y) a.table.now) (sym none.0);
    }

pub invariant_of-asked-clause-has_date : goal.invariant_of-asked-clause-has_date
invariant_of-asked-clause-has_date c = kept_date _ c.args.kept.kept c.count_of-count.ensures

pub overflow_add-end : goal.overflow_add-end
overflow_add-end c =
    let a = c.args in
    let e = fitting_cells a.rules a.kept.counts.now a.group.number a.lines.now a.kept.kept _ c.form.ensures c.count_of-count.ensures in
    let inside : a.cell + c.cells.result ≤ length a.table.now = omega (arith, e, c.cells.ensures, c.requires.room) in
    search rules

pub slice_bounds-fill-end : goal.slice_bounds-fill-end
slice_bounds-fill-end c =
    let a = c.args in
    let e = fitting_cells a.rules a.kept.counts.now a.group.number a.lines.now a.kept.kept _ c.form.ensures c.count_of-count.ensures in
    omega (arith, e, c.cells.ensures, c.requires.room)

pub fill-requires-clause-clean : goal.fill-requires-clause-clean
fill-requires-clause-clean c =
    let a = c.args in
    lines_clean a.rules a.kept.counts.now a.group.number a.lines.now a.kept.kept _ c.form.ensures c.count_of-count.ensures c.requires.clean

pub returns : goal.returns
returns c =
    let a = c.args in
    let f = c.form in
    let e = fitting_cells a.rules a.kept.counts.now a.group.number a.lines.now a.kept.kept _ f.ensures c.count_of-count.ensures in
    let end : a.cell + c.cells.result ≡ a.cell + cells_of a.rules f.result c.count_of-count.result = ap (λ n. a.cell + n) c.cells.ensures in
    let inside : a.cell + c.cells.result ≤ length a.table.now = omega (arith, e, c.cells.ensures, c.requires.room) in record {
      end = ap (λ n. a.cell + n) (c.cells.ensures ∙ sym e);
      table = filled_part a.rules a.kept.counts.now a.group.number a.lines.now a.kept.kept _ f.ensures c.count_of-count.ensures c.requires.clean a.table.now a.cell _ end inside
          c.fill.ensures;
    }
