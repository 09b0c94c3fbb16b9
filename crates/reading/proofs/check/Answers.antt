-- `reading::check` meets its contract: the lines first, and the date only of group 3.
-- Assumes nothing.
use mathlib.Core.Path.{◌≡◌, sym, ◌∙◌, ap}
use mathlib.Core.Bool.{false}
use Rattle.form.specs.declared.Form.TheVariants.{A1}
use Rattle.reading.specs.Blanks.{may_be_short}
use Rattle.reading.specs.Read.{Cells, read_lines, verdict_of, dated}
use Rattle.reading.proofs.Dates.{date_lines}
use Rattle.reading.proofs.check.Goals as goal

pub check_date-requires-clause-clean : goal.check_date-requires-clause-clean
check_date-requires-clause-clean c =
    let asked = c.args.asked in
    let letters = date_lines c.args.rules asked.group asked.form asked.count c.args.lines.now asked.has_form c.if-asked-eq3.true in
    let checked = rw (c.line_form.ensures.fields, c.line_form.ensures.short) at c.check_lines.ensures in
    ap verdict_of (sym letters) ∙ sym checked ∙ c.in_ok-check_lines.was

pub returns-then-asked-eq3 : goal.returns-then-asked-eq3
returns-then-asked-eq3 c =
    let asked = c.args.asked in
    let lines : Cells = read_lines c.args.rules asked.form (may_be_short asked.group) asked.count c.args.lines.now in
    let letters = date_lines c.args.rules asked.group asked.form asked.count c.args.lines.now asked.has_form c.if-asked-eq3.true in
    c.check_date.ensures ∙ ap (λ y. verdict_of (dated 3 y)) (sym letters) ∙ ap (λ g. verdict_of (dated g (lines))) (sym c.if-asked-eq3.true)
