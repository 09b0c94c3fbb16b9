-- `reading::line_end` meets its contract: what stands behind fields that are all formed.
-- Assumes nothing.
use native.Mathlib.Omega.{arith}
use mathlib.Core.Path.{◌≡◌, sym, ◌∙◌, ap, ap₂}
use Prim.Native.Nat.{◌+◌, ◌*◌, ◌≤◌}
use lib.ListN.{drop}
use Rattle.std.specs.Prelude.{Some}
use Rattle.base.specs.Part.{part}
use Rattle.form.specs.Table.{row_of}
use Rattle.form.proofs.Rows.{row_fits}
use Rattle.line.specs.Lines.{reach}
use Rattle.reading.specs.Blanks.{right_content}
use Rattle.reading.specs.Read.{line_passed}
use Rattle.reading.proofs.Checking.{columns_few}
use Rattle.reading.proofs.Trying.{line_range, ends, line_told}
use Rattle.reply.specs.declared.Refusal.TheVariants.{BadLine}
use Rattle.std.specs.Option.{ok_or, option_and}
use Rattle.reading.proofs.line_end.Goals.{After-behind_line-end}
use Rattle.reading.proofs.line_end.Goals as goal

pub overflow_mul-columns : goal.overflow_mul-columns
overflow_mul-columns c =
    let few : c.args.line.many * c.row_of.result.width ≤ 120 * 120 = rw c.row_of.ensures (columns_few c.args.form.fields c.args.line.many (omega (arith, c.requires.few, (row_fits c.args.form.fields).few))) in
    omega (arith, few)

-- the end that is sought behind the fields is that of the line
end : (c : After-behind_line-end) → c.behind_line-end.result ≡ c.args.at + reach (drop c.args.at c.args.lines.now) 1
end c =
    let a = c.args in
    c.behind_line-end.ensures ∙ ends a.rules a.form.fields a.form.short a.line a.lines.now a.at c.requires.inside a.stop c.requires.sought c.requires.formed

pub slice_bounds-right_content-end : goal.slice_bounds-right_content-end
slice_bounds-right_content-end c =
    omega (arith, end (goal.at.slice_bounds-right_content-end c).After-behind_line-end, line_range c.args.rules c.args.lines.now c.args.at c.requires.inside)

pub returns : goal.returns
returns c =
    let a = c.args in
    let its = end (goal.at.returns c).After-behind_line-end in
    let asked = rw (c.row_of.ensures, its) at c.right_content.ensures in
    c.ok_or.ensures.value ∙ ap (λ o. ok_or o (BadLine a.line.number)) (c.and.ensures ∙ ap₂ option_and asked (ap Some its))
    ∙ line_told a.rules a.form.fields a.form.short a.line a.lines.now a.at c.requires.inside a.stop c.requires.sought c.requires.formed
