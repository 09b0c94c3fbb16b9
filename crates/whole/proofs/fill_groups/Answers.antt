-- `whole::fill_groups` meets its contract. The invariant: before each group, the cells of the groups from it on are all that is still to be put.
-- Assumes nothing.
use native.Mathlib.Omega.{arith}
use mathlib.Core.Path.{sym, ◌∙◌, ap, subst}
use Prim.Native.Nat.{◌+◌, ◌≤◌}
use lib.ListN.{length}
use Rattle.base.specs.Part.{over}
use Rattle.base.specs.Pieces.{cells_got}
use Rattle.count.specs.Tally.{cells_in}
use Rattle.place.specs.Placing.{carried}
use Rattle.reading.specs.Read.{verdict_of}
use Rattle.whole.proofs.Passes.{group_lent, filling_first, filling_all, filling_clean, filling_room, filling_more}
use Rattle.whole.proofs.fill_groups.Goals as goal

pub loop-next-init : goal.loop-next-init
loop-next-init c =
    let p = c.args.placed in
    filling_first c.args.rules p.text.now (carried p.counts.now p.starts.now p.ends.now) c.args.table.now (sym c.requires.clean)

pub fill_kept-cell-requires : goal.fill_kept-cell-requires
fill_kept-cell-requires c =
    let p = c.args.placed in
    let f = c.loop-next.invariant in record {
      clean = ap verdict_of (group_lent c.args.rules p.text.now (carried p.counts.now p.starts.now p.ends.now) c.loop-next.next c.kept.ensures c.lines-lines.ensures)
          ∙ filling_clean c.args.rules p.text.now (carried p.counts.now p.starts.now p.ends.now) f (omega arith);
      room = subst (λ ns. c.loop-next.cell + cells_in c.args.rules ns c.loop-next.next ≤ length c.loop-next.table) (sym c.kept.ensures)
          (filling_room c.args.rules p.text.now (carried p.counts.now p.starts.now p.ends.now) f (omega arith) c.requires.room);
    }

pub loop-next-preserved : goal.loop-next-preserved
loop-next-preserved c =
    let p = c.args.placed in
    let l = c.loop-next in
    let lent = group_lent c.args.rules p.text.now (carried p.counts.now p.starts.now p.ends.now) l.next c.kept.ensures c.lines-lines.ensures in
    filling_more c.args.rules p.text.now (carried p.counts.now p.starts.now p.ends.now) l.invariant (omega arith) c.requires.room
    (c.fill_kept-cell.ensures.end ∙ ap (λ ns. l.cell + cells_in c.args.rules ns l.next) c.kept.ensures)
    (c.fill_kept-cell.ensures.table ∙ ap (λ y. over l.cell (cells_got y) l.table) lent)

pub returns : goal.returns
returns c = filling_all c.args.rules c.args.placed.text.now (carried c.args.placed.counts.now c.args.placed.starts.now c.args.placed.ends.now) c.loop-next.invariant (omega arith)
