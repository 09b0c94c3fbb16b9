-- `reading::read_kept` meets its contract: 12, and then by the group's form.
-- Assumes nothing.
use mathlib.Core.Path.{◌≡◌, sym, ◌∙◌, ap, subst}
use Rattle.std.specs.Prelude.{None, Result, Err}
use Rattle.std.specs.Option.{ok_or}
use Rattle.std.specs.Result.{result_ok}
use Rattle.std.proofs.lemmas.Result.{err_from_is_err_and}
use Rattle.form.specs.declared.Form.{Form}
use Rattle.reply.specs.declared.Refusal.{Refusal}
use Rattle.reply.specs.declared.Refusal.TheVariants.{NoSuchNumber}
use Rattle.reading.proofs.Steps.{kept_date, group_none, group_kept}
use Rattle.reading.proofs.read_kept.Goals as goal

pub returns-in_err-form : goal.returns-in_err-form
returns-in_err-form c =
    let none : c.form_of.result ≡ None = c.ok_or.ensures.ok_part ∙ ap result_ok c.in_err-form.was in
    let all = group_none c.args.rules c.args.kept.counts.now c.args.group c.args.lines.now c.args.table.now (sym c.form_of.ensures ∙ none) in
    let told : ◌≡◌ {A = Result Form Refusal} (Err NoSuchNumber) (Err c.in_err-form.field-0.0) =
    sym (c.ok_or.ensures.value ∙ ap (λ o. ok_or o NoSuchNumber) none) ∙ c.in_err-form.was in
    let why : NoSuchNumber ≡ c.in_err-form.field-0.0 = cc in
    let p = err_from_is_err_and c.from_residual.result c.from_residual.ensures.1 in
    record { answer = rw (p.1, p.2, ← why) all.0; table = all.1 }

pub invariant_of-asked-clause-has_form : goal.invariant_of-asked-clause-has_form
invariant_of-asked-clause-has_form c = sym c.form_of.ensures ∙ c.ok_or.ensures.ok_part ∙ ap result_ok c.in_ok-form.was

pub invariant_of-asked-clause-has_date : goal.invariant_of-asked-clause-has_date
invariant_of-asked-clause-has_date c = kept_date _ c.args.kept.kept c.count_of-count.ensures

pub returns : goal.returns
returns c =
    let has = sym c.form_of.ensures ∙ c.ok_or.ensures.ok_part ∙ ap result_ok c.in_ok-form.was in
    let all = group_kept c.args.rules c.args.kept.counts.now c.args.group c.args.lines.now c.args.table.now c.in_ok-form.form has c.args.kept.kept _ c.count_of-count.ensures
    (c.read_form.ensures.answer, c.read_form.ensures.table) in
    record { answer = all.0; table = all.1 }
