-- `reading::date_kept` meets its contract: the lines of group 3 first, and if these are clean, their date.
-- Assumes nothing.
use Rattle.std.specs.Result.{result_ok}
use mathlib.Core.Path.{◌≡◌, sym, ◌∙◌, ap, subst}
use mathlib.Core.Bool.{false}
use Prim.Native.Nat.{◌≤◌}
use Rattle.form.specs.declared.Form.TheVariants.{A1}
use Rattle.count.specs.Tally.{cells_in}
use Rattle.reading.specs.Read.{Cells, read_lines, read_group, date_told}
use Rattle.reading.proofs.Dates.{date_has, told_clean, told_refused, told_lines, told_dated}
use Rattle.reading.proofs.Passes.{fitting_is}
use Rattle.reading.proofs.Steps.{kept_letters}
use Rattle.reading.proofs.date_kept.Goals as goal

pub date_in-requires-clause-date : goal.date_in-requires-clause-date
date_in-requires-clause-date c = subst (λ n. 19 ≤ n) (sym c.count_of-count.ensures) (kept_letters c.args.kept.counts.now c.args.kept.kept)

pub returns-in_err-ok : goal.returns-in_err-ok
returns-in_err-ok c =
    let lines : Cells =
    read_lines c.args.rules A1 false c.count_of-count.result c.args.lines.now in
    let by_lines : date_told (lines) ≡ date_told (read_group c.args.rules c.args.kept.counts.now 3 c.args.lines.now (cells_in c.args.rules c.args.kept.counts.now 3)) =
    sym (ap date_told (fitting_is c.args.rules c.args.kept.counts.now 3 c.args.lines.now c.args.kept.kept A1 date_has c.count_of-count.ensures) ∙ told_dated (lines)) in
    c.from_residual.ensures ∙ sym (told_refused (lines) (ap result_ok (sym c.check_lines.ensures) ∙ sym c.ok.ensures.value ∙ c.in_err-ok.was)) ∙ by_lines

pub returns : goal.returns
returns c =
    let lines : Cells =
    read_lines c.args.rules A1 false c.count_of-count.result c.args.lines.now in
    let by_lines : date_told (lines) ≡ date_told (read_group c.args.rules c.args.kept.counts.now 3 c.args.lines.now (cells_in c.args.rules c.args.kept.counts.now 3)) =
    sym (ap date_told (fitting_is c.args.rules c.args.kept.counts.now 3 c.args.lines.now c.args.kept.kept A1 date_has c.count_of-count.ensures) ∙ told_dated (lines)) in
    let clean = told_lines (lines) (ap result_ok (sym c.check_lines.ensures) ∙ sym c.ok.ensures.value ∙ c.in_ok-ok.was) in
    c.ok-2.ensures.value ∙ sym (told_clean (lines) clean (sym c.date_in.ensures)) ∙ by_lines
