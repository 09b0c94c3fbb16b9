use Rattle.std.proofs.Common.{◌≡◌, ◌+◌, ◌∙◌, refl, sym, ap, length-set, replicate, arith}
use Rattle.std.proofs.lemmas.List.{get_or-replicate}
use Rattle.form.specs.Count.{cells_of}
use Rattle.form.proofs.Counted.{cells_few}
use Rattle.count.specs.Tally.{cells_before, cells_in}
use Rattle.count.proofs.Tallied.{cells_first, cells_next, cells_has}
use Rattle.journal.proofs.Spots.{filled_start, filled_more, filled_all}
use Rattle.journal.proofs.starts_of.Goals as goal

pub loop-number-init : goal.loop-number-init
loop-number-init c =
    let a = c.args in
    (refl, omega arith, sym (cells_first a.rules a.counts.now), filled_start a.rules a.counts.now (replicate 62 0) (λ i h. get_or-replicate 62 i 0 0 (omega arith)))

pub overflow_add-sum : goal.overflow_add-sum
overflow_add-sum c =
    let few = cells_few c.args.rules c.form.result c.count_of.result (omega arith) in
    omega (arith, c.cells-sum.ensures)

pub loop-number-preserved : goal.loop-number-preserved
loop-number-preserved c =
    let a = c.args in
    let l = c.loop-number in
    let few = cells_few a.rules c.form.result c.count_of.result (omega arith) in
    let m : c.cells-sum.result ≡ cells_in a.rules a.counts.now l.number =
    c.cells-sum.ensures ∙ ap (cells_of a.rules c.form.result) c.count_of.ensures ∙ sym (cells_has a.rules a.counts.now l.number c.form.result c.form.ensures) in
    let e : l.sum + c.cells-sum.result ≡ cells_before a.rules a.counts.now (l.number + 1) =
    omega (arith, m, cells_next a.rules a.counts.now l.number (omega arith) (omega arith), l.invariant.2) in (
      length-set l.starts (l.number + 1) (l.sum + c.cells-sum.result) ∙ l.invariant.0,
      omega (arith, c.cells-sum.ensures),
      e,
      filled_more a.rules a.counts.now l.starts l.number (l.sum + c.cells-sum.result) (omega arith) e l.invariant.3,
    )

pub returns : goal.returns
returns c = let l = c.loop-number in filled_all c.args.rules c.args.counts.now l.starts l.number l.invariant.0 (omega arith) l.invariant.3
