-- `reading::check_lines` meets its contract: line by line, and in a line field by field; proofs/Checking.antt and proofs/Trying.antt have the
-- mathematics.
-- Assumes nothing.
use native.Mathlib.Omega.{arith}
use mathlib.Core.Path.{refl, sym, ◌∙◌, ap, subst}
use Prim.Native.Nat.{◌+◌, ◌-◌, ◌*◌, ◌^◌, ◌<◌, ◌≤◌, min}
use lib.ListN.{drop}
use Rattle.std.specs.Prelude.{Err}
use Rattle.std.proofs.lemmas.Result.{err_from_is_err_and}
use Rattle.base.specs.Part.{part}
use Rattle.form.specs.Count.{lines_of}
use Rattle.line.specs.Lines.{reach}
use Rattle.reading.specs.Blanks.{right_content, fields_span}
use Rattle.reading.specs.Read.{misfit_of, read_line, verdict_of}
use Rattle.reading.proofs.Checking.{Checking, checking_start, checking_end, checking_next, checking_wrong, elements_before, on_line, OnLine, line_here, passed_clean, passed_bad}
use Rattle.reading.proofs.Trying.{stop_range, field_blamed}
use Rattle.reading.proofs.check_lines.Goals.{After-behind-line}
use Rattle.reading.proofs.check_lines.Goals as goal

pub lines-init : goal.lines-init
lines-init c = record { verdict = refl; checking = checking_start c.args.rules c.elements-left.ensures }

pub behind-line-requires-clause-elements : goal.behind-line-requires-clause-elements
behind-line-requires-clause-elements c =
    let a = c.args in
    omega (arith, elements_before a.rules a.form.fields a.count a.lines.now c.lines.invariant.checking.walk c.row_of-row.ensures (omega arith) (omega (arith, c.lines-j-end.ensures)))

further : (c : After-behind-line) → c.lines.j < lines_of c.args.rules c.args.form.fields c.args.count
further c = omega (arith, c.lines-j-end.ensures)

-- the line that the loop comes to
on : (c : After-behind-line) → OnLine c.args.form.fields c.row_of-row.result c.lines.left (line_here c.args.rules c.args.form.fields c.args.count c.args.lines.now c.lines.invariant.checking.walk) c.behind-line.result
on c = on_line c.args.rules c.args.form.fields c.args.count c.args.lines.now c.lines.invariant.checking.walk c.row_of-row.ensures c.behind-line.ensures (omega arith) (further c)

pub overflow_mul-columns : goal.overflow_mul-columns
overflow_mul-columns c =
    let a = c.args in
    let o = on (goal.at.overflow_mul-columns c).After-behind-line in
    omega (arith, o.columns)

pub seen_formed-k-requires : goal.seen_formed-k-requires
seen_formed-k-requires c =
    let a = c.args in
    let o = on (goal.at.seen_formed-k-requires c).After-behind-line in
    let stops = stop_range a.rules a.form.short _ a.lines.now c.lines.at c.lines.invariant.checking.walk.inside c.fields_stop-stop.result c.fields_stop-stop.ensures in
    record { few = o.few; order = stops.0; lines = stops.1 }

pub is_field_at-requires : goal.is_field_at-requires
is_field_at-requires c =
    let a = c.args in
    let o = on (goal.at.is_field_at-requires c).After-behind-line in
    let stops = stop_range a.rules a.form.short _ a.lines.now c.lines.at c.lines.invariant.checking.walk.inside c.fields_stop-stop.result c.fields_stop-stop.ensures in
    record { order = stops.0; lines = stops.1; few = omega (arith, o.few, c.seen_formed-k.ensures.most) }

pub misfit-requires-clause-small : goal.misfit-requires-clause-small
misfit-requires-clause-small c =
    let a = c.args in
    let o = on (goal.at.misfit-requires-clause-small c).After-behind-line in
    omega (arith, o.first, o.few, c.seen_formed-k.ensures.most)

pub returns-then-not-is_field_at : goal.returns-then-not-is_field_at
returns-then-not-is_field_at c =
    let a = c.args in
    let l = c.lines in
    let h = further (goal.at.returns-then-not-is_field_at c).After-behind-line in
    let o = on (goal.at.returns-then-not-is_field_at c).After-behind-line in
    let line = c.behind-line.result in
    let sought = c.fields_stop-stop.ensures ∙ ap (λ n. l.at + fields_span a.rules a.form.short n a.lines.now l.at) o.wide in
    let blamed = field_blamed a.rules a.form.fields a.form.short line a.lines.now l.at l.invariant.checking.walk.inside c.fields_stop-stop.result sought c.loop-k.k
    c.loop-k-test.true c.loop-k.invariant.formed (sym c.is_field_at.ensures ∙ c.if-not-is_field_at.true) in
    ap Err
    (c.misfit.ensures
    ∙ ap (λ n. misfit_of line.number (line.first + c.loop-k.k) (right_content a.rules a.form.short n (part l.at (l.at + reach (drop l.at a.lines.now) 1) a.lines.now))) o.wide)
    ∙ checking_wrong a.rules a.form.fields a.form.short a.count a.lines.now l.invariant.checking h _
    (sym (ap (λ x. verdict_of (read_line a.rules a.form.fields a.form.short x (part l.at (l.at + reach (drop l.at a.lines.now) 1) a.lines.now))) o.is) ∙ blamed)

pub line_end-requires : goal.line_end-requires
line_end-requires c =
    let a = c.args in
    let l = c.lines in
    let o = on (goal.at.line_end-requires c).After-behind-line in
    let sought = c.fields_stop-stop.ensures ∙ ap (λ n. l.at + fields_span a.rules a.form.short n a.lines.now l.at) o.wide in
    record { few = o.most; inside = l.invariant.checking.walk.inside; sought = sought; formed = λ i h. c.loop-k.invariant.formed i (omega (arith, h)) }

pub returns-in_err-at : goal.returns-in_err-at
returns-in_err-at c =
    let a = c.args in
    let l = c.lines in
    let h = further (goal.at.returns-in_err-at c).After-behind-line in
    let o = on (goal.at.returns-in_err-at c).After-behind-line in
    let bad = passed_bad (l.at + reach (drop l.at a.lines.now) 1) _ (sym c.line_end.ensures ∙ c.in_err-at.was) in
    let p = err_from_is_err_and c.from_residual.result c.from_residual.ensures.1 in
    rw (p.1, p.2)
    (checking_wrong a.rules a.form.fields a.form.short a.count a.lines.now l.invariant.checking h c.in_err-at.field-0.0
    (sym (ap (λ x. verdict_of (read_line a.rules a.form.fields a.form.short x (part l.at (l.at + reach (drop l.at a.lines.now) 1) a.lines.now))) o.is) ∙ bad))

pub overflow_sub-left : goal.overflow_sub-left
overflow_sub-left c =
    let a = c.args in
    let o = on (goal.at.overflow_sub-left c).After-behind-line in
    omega (arith, o.within)

pub lines-preserved : goal.lines-preserved
lines-preserved c =
    let a = c.args in
    let l = c.lines in
    let h = further (goal.at.lines-preserved c).After-behind-line in
    let o = on (goal.at.lines-preserved c).After-behind-line in
    let clean = passed_clean (l.at + reach (drop l.at a.lines.now) 1) _ (sym c.line_end.ensures ∙ c.in_ok-at.was) in record {
      verdict = c.loop-k.invariant.verdict;
      checking = subst (λ n. Checking a.rules a.form.fields a.form.short a.count a.lines.now n c.in_ok-at.at (l.j + 1)) (sym o.taken)
          (checking_next a.rules a.form.fields a.form.short a.count a.lines.now l.invariant.checking h c.in_ok-at.at clean.0
          (sym (ap (λ x. verdict_of (read_line a.rules a.form.fields a.form.short x (part l.at (l.at + reach (drop l.at a.lines.now) 1) a.lines.now))) o.is) ∙ clean.1));
    }

pub returns-after-lines : goal.returns-after-lines
returns-after-lines c =
    let a = c.args in
    c.lines.invariant.verdict ∙ checking_end a.rules a.form.fields a.form.short a.count a.lines.now c.lines.invariant.checking (omega (arith, c.lines-j-end.ensures))
