-- `reading::fill_lines` meets its contract: line by line; proofs/Filling.antt has the mathematics.
-- Assumes nothing.
use borrow.Author.Rules.{rules}
use native.Mathlib.Omega.{arith}
use mathlib.Core.Path.{sym, ◌∙◌, ap, subst}
use Prim.Native.Nat.{ℕ, ◌+◌, ◌-◌, ◌*◌, ◌^◌, ◌<◌, ◌≤◌, min}
use lib.ListN.{length, drop}
use Rattle.base.specs.Part.{part, over}
use Rattle.base.specs.Pieces.{cells_got}
use Rattle.form.specs.Table.{row_of}
use Rattle.form.specs.Count.{lines_of}
use Rattle.line.specs.Lines.{reach}
use Rattle.reading.specs.Read.{read_line, verdict_of}
use Rattle.reading.proofs.Checking.{elements_before, on_line, OnLine, line_here}
use Rattle.reading.proofs.Filling.{Filling, filling_start, filling_end, filling_length, line_is_clean, line_room, cells_small, filling_next}
use Rattle.reading.proofs.fill_lines.Goals.{After-behind-line}
use Rattle.reading.proofs.fill_lines.Goals as goal

pub loop-j-init : goal.loop-j-init
loop-j-init c =
    let a = c.args in
    filling_start a.rules a.form.fields a.form.short a.count a.lines.now a.table.now c.requires.clean c.requires.room c.elements-left.ensures

pub behind-line-requires-clause-elements : goal.behind-line-requires-clause-elements
behind-line-requires-clause-elements c =
    let a = c.args in
    omega (arith, elements_before a.rules a.form.fields a.count a.lines.now c.loop-j.invariant.walk c.row_of-row.ensures (omega arith) (omega (arith, c.lines-j-end.ensures)))

further : (c : After-behind-line) → c.loop-j.j < lines_of c.args.rules c.args.form.fields c.args.count
further c = omega (arith, c.lines-j-end.ensures)

-- the line that the loop comes to
on : (c : After-behind-line) → OnLine c.args.form.fields c.row_of-row.result c.loop-j.left (line_here c.args.rules c.args.form.fields c.args.count c.args.lines.now c.loop-j.invariant.walk) c.behind-line.result
on c = on_line c.args.rules c.args.form.fields c.args.count c.args.lines.now c.loop-j.invariant.walk c.row_of-row.ensures c.behind-line.ensures (omega arith) (further c)

pub fill_line-at-requires : goal.fill_line-at-requires
fill_line-at-requires c =
    let a = c.args in
    let l = c.loop-j in
    let h = further (goal.at.fill_line-at-requires c).After-behind-line in
    let o = on (goal.at.fill_line-at-requires c).After-behind-line in record {
      few = o.most;
      inside = l.invariant.walk.inside;
      clean = ap (λ x. verdict_of (read_line a.rules a.form.fields a.form.short x (part l.at (l.at + reach (drop l.at a.lines.now) 1) a.lines.now))) o.is
          ∙ line_is_clean a.rules a.form.fields a.form.short a.count a.lines.now a.table.now c.requires.clean c.requires.room l.invariant h;
      room = subst (λ (n : ℕ). l.cell + n * (row_of a.form.fields).cells ≤ length l.table) (sym (ap (λ x. x.many) o.is))
          (line_room a.rules a.form.fields a.form.short a.count a.lines.now a.table.now c.requires.clean c.requires.room l.invariant h);
    }

pub overflow_mul-cell : goal.overflow_mul-cell
overflow_mul-cell c =
    let a = c.args in
    let l = c.loop-j in
    let h = further (goal.at.overflow_mul-cell c).After-behind-line in
    let o = on (goal.at.overflow_mul-cell c).After-behind-line in
    omega (arith, o.size, cells_small a.rules a.form.fields a.form.short a.count a.lines.now a.table.now c.requires.clean c.requires.room l.invariant h)

pub overflow_add-cell : goal.overflow_add-cell
overflow_add-cell c =
    let a = c.args in
    let l = c.loop-j in
    let h = further (goal.at.overflow_add-cell c).After-behind-line in
    let o = on (goal.at.overflow_add-cell c).After-behind-line in
    let inside : l.cell + c.behind-line.result.many * c.row_of-row.result.cells ≤ length a.table.now =
    omega (
      arith,
      o.size,
      line_room a.rules a.form.fields a.form.short a.count a.lines.now a.table.now c.requires.clean c.requires.room l.invariant h,
      filling_length a.rules a.form.fields a.form.short a.count a.lines.now a.table.now c.requires.clean c.requires.room l.invariant,
    ) in
    search rules

pub overflow_sub-left : goal.overflow_sub-left
overflow_sub-left c =
    let a = c.args in
    let o = on (goal.at.overflow_sub-left c).After-behind-line in
    omega (arith, o.within)

pub loop-j-preserved : goal.loop-j-preserved
loop-j-preserved c =
    let a = c.args in
    let l = c.loop-j in
    let h = further (goal.at.loop-j-preserved c).After-behind-line in
    let o = on (goal.at.loop-j-preserved c).After-behind-line in
    let put = c.fill_line-at.ensures.table
    ∙ ap (λ x. over l.cell (cells_got (read_line a.rules a.form.fields a.form.short x (part l.at (l.at + reach (drop l.at a.lines.now) 1) a.lines.now))) l.table) o.is in
    let next = filling_next a.rules a.form.fields a.form.short a.count a.lines.now a.table.now c.requires.clean c.requires.room l.invariant h c.fill_line-at.result
    c.fill_line-at.ensures.end put in
    subst (λ (n : ℕ). Filling a.rules a.form.fields a.form.short a.count a.lines.now a.table.now n c.fill_line-at.result
    (l.cell + c.behind-line.result.many * c.row_of-row.result.cells) (l.j + 1) c.fill_line-at.new.table) (sym o.taken)
    (subst (λ (n : ℕ). Filling a.rules a.form.fields a.form.short a.count a.lines.now a.table.now (l.left - min (row_of a.form.fields).per_line l.left) c.fill_line-at.result
    (l.cell + n) (l.j + 1) c.fill_line-at.new.table) (sym o.size) next)

pub returns : goal.returns
returns c =
    let a = c.args in
    filling_end a.rules a.form.fields a.form.short a.count a.lines.now a.table.now c.requires.clean c.requires.room c.loop-j.invariant (omega (arith, c.lines-j-end.ensures))
