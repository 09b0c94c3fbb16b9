-- `reading::check_kept` meets its contract: a count of 0 has nothing to check; else lines and date decide.
-- Assumes nothing.
use mathlib.Core.Path.{sym, ◌∙◌, ap}
use Rattle.reading.specs.Read.{verdict_of}
use Rattle.reading.proofs.Passes.{fitting_none, fitting_is}
use Rattle.reading.proofs.Steps.{kept_date}
use Rattle.reading.proofs.check_kept.Goals as goal

pub returns-then-count-eq0 : goal.returns-then-count-eq0
returns-then-count-eq0 c =
    let a = c.args in
    let none = fitting_none a.rules a.kept.counts.now a.group.number a.lines.now a.kept.kept a.group.low a.group.high (sym c.count_of-count.ensures ∙ c.if-count-eq0.true) in
    sym (ap verdict_of none.0)

pub invariant_of-asked-clause-has_date : goal.invariant_of-asked-clause-has_date
invariant_of-asked-clause-has_date c = kept_date _ c.args.kept.kept c.count_of-count.ensures

pub returns : goal.returns
returns c =
    let a = c.args in
    c.check.ensures ∙ sym (ap verdict_of (fitting_is a.rules a.kept.counts.now a.group.number a.lines.now a.kept.kept _ c.form.ensures c.count_of-count.ensures))
