-- `run::fill_each` meets its contract. The invariant: the cells of the fields so far stand there.
use Rattle.std.proofs.Common.{◌≡◌, ◌∙◌, ap, take_all, map, arith, rules}
use Rattle.base.specs.Part.{over}
use Rattle.run.proofs.Pieces.{cell_more}
use Rattle.run.proofs.fill_each.Goals as goal

pub loop-i-preserved : goal.loop-i-preserved
loop-i-preserved g c = λ h e.
    let a = c.args in
    let l = c.loop-i in
    let s = c.index-fields-i.result in
    let z : c.cell_of.result ≡ h s = e _ _ (search rules) c.cell_of.ensures in
    let v = cell_more a.table.now a.cell a.fields.now l.i s c.loop-i-test.true c.index-fields-i.is h c.requires.room l.auto.table (l.invariant h e) in
    search rules

pub returns : goal.returns
returns g c = λ h e. c.loop-i.invariant h e ∙ ap (λ t. over c.args.cell (map h t) c.args.table.now) (take_all c.loop-i.i c.args.fields.now (omega arith))
