-- `view::find` meets its contract: 12, then the counts, then the part.
-- Assumes nothing.
use native.Mathlib.Omega.{arith}
use mathlib.Core.Path.{◌≡◌, sym, ◌∙◌}
use mathlib.Core.Bool.{true, false}
use Rattle.std.proofs.Common.{Some, Ok, Err}
use Rattle.std.proofs.lemmas.Grind.{common_steps}
use Rattle.form.specs.Table.{form_of}
use Rattle.count.specs.Check.{accepted_of}
use Rattle.place.specs.Placing.{carried}
use Rattle.view.specs.With.{holds_part}
use Rattle.view.proofs.Found.{found_counts, found_good, found_bad, given_start, given_end}
use Rattle.view.proofs.find.Goals as goal

pub returns-in_err-check_counts : goal.returns-in_err-check_counts
returns-in_err-check_counts c =
    let o = c.args in
    let f : form_of o.group ≡ Some c.in_ok-form.form = grind (arith, common_steps) in
    let a : accepted_of o.counts.now ≡ Err c.in_err-check_counts.field-0.0 = grind (arith, common_steps) in
    let e = found_counts o.rules o.text.now (carried o.counts.now o.starts.now o.ends.now) o.group _ f a in
    grind (arith, common_steps)

pub returns-then-not-are_lines : goal.returns-then-not-are_lines
returns-then-not-are_lines c =
    let o = c.args in
    let these = carried o.counts.now o.starts.now o.ends.now in
    let f : form_of o.group ≡ Some c.in_ok-form.form = grind (arith, common_steps) in
    let a : accepted_of o.counts.now ≡ Ok tt = grind (arith, common_steps) in
    let asked = rw (c.at_number-from.ensures, c.at_number-to.ensures, c.lines-lines.ensures, c.count_of.ensures) at c.are_lines.ensures in
    let told : c.are_lines.result ≡ false = grind (arith, common_steps) in
    let h : holds_part o.rules o.text.now these o.group c.in_ok-form.form ≡ false = sym asked ∙ told in
    found_bad o.rules o.text.now these o.group _ f a h

pub returns : goal.returns
returns c =
    let o = c.args in
    let these = carried o.counts.now o.starts.now o.ends.now in
    let f : form_of o.group ≡ Some c.in_ok-form.form = grind (arith, common_steps) in
    let a : accepted_of o.counts.now ≡ Ok tt = grind (arith, common_steps) in
    let asked = rw (c.at_number-from.ensures, c.at_number-to.ensures, c.lines-lines.ensures, c.count_of.ensures) at c.are_lines.ensures in
    let told : c.are_lines.result ≡ true = grind (arith, common_steps) in
    let h : holds_part o.rules o.text.now these o.group c.in_ok-form.form ≡ true = sym asked ∙ told in
    let e = found_good o.rules o.text.now these o.group _ f a h in
    (e, c.at_number-from.ensures ∙ sym (given_start o.rules o.text.now these o.group e), c.at_number-to.ensures ∙ sym (given_end o.rules o.text.now these o.group e))
