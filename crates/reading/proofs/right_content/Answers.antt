-- `reading::right_content` meets its contract: there is a content, and it is right, or there is none.
-- Assumes nothing.
use native.Mathlib.Omega.{arith}
use mathlib.Core.Path.{sym, ◌∙◌, ap}
use Rattle.std.specs.Bool.{then_some}
use Rattle.line.proofs.Contents.{content_two}
use Rattle.reading.proofs.Lines.{right_none, right_some}
use Rattle.reading.proofs.right_content.Goals as goal

pub returns-in_err-length : goal.returns-in_err-length
returns-in_err-length c = c.from_residual.ensures ∙ sym (right_none _ _ _ _ (sym c.content_length.ensures ∙ c.in_err-length.was))

pub slice_bounds-is_right-end : goal.slice_bounds-is_right-end
slice_bounds-is_right-end c = omega (arith, content_two _ _ _ (sym c.content_length.ensures ∙ c.in_ok-length.was))

pub returns : goal.returns
returns c =
    c.then_some.ensures ∙ ap (λ b. then_some b c.in_ok-length.length) c.is_right.ensures
    ∙ sym (right_some _ _ _ _ _ (sym c.content_length.ensures ∙ c.in_ok-length.was))
