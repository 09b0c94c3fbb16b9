-- `run::fill_powers` meets its contract. The invariant: the cells of the fields so far, two of each, stand there.
use Rattle.std.proofs.Common.{◌≡◌, get_or, pos, arith, rules}
use Rattle.run.specs.Columns.{power_first, power_second}
use Rattle.run.proofs.Pieces.{cells_more}
use Rattle.run.proofs.fill_powers.Goals as goal

pub loop-s-preserved : goal.loop-s-preserved
loop-s-preserved g c =
    let a = c.args in
    let l = c.loop-s in
    let i = l.invariant in
    let s = c.s-item.result in
    let first = power_first a.c a.d in
    let second = power_second a.c a.d in
    let m : get_or c.power_cells.result 0 (pos 0) ≡ first s = search rules in
    let e : get_or c.power_cells.result 1 (pos 0) ≡ second s = search rules in
    let v = cells_more a.table.now a.cell a.fields.now l.s-index s c.loop-s-test.true c.s-item.is l.at first second i.place c.requires.room l.auto.table i.stored in
    record { place = omega arith; stored = search rules }
