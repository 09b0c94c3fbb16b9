-- `salvaging::piece_at` meets its contract: what placing answered chooses.
-- Assumes nothing.
use native.Mathlib.Omega.{arith}
use mathlib.Core.Path.{sym, ◌∙◌, ap}
use Prim.Native.Nat.{◌-◌}
use Rattle.salvaging.specs.declared.Piece.TheVariants.{LeftOut}
use Rattle.salvaging.proofs.Pieces.{piece_of, placed_after, broken_after}
use Rattle.salvaging.proofs.Stretches.{stretch_ends}
use Rattle.salvaging.proofs.piece_at.Goals as goal

pub overflow_sub-result : goal.overflow_sub-result
overflow_sub-result c = placed_after c.args.rules c.args.text.now c.args.at _ (sym c.place.ensures.answer ∙ c.in-Placed.is)

pub overflow_sub-result-in-BrokenRule : goal.overflow_sub-result-in-BrokenRule
overflow_sub-result-in-BrokenRule c = broken_after c.args.rules c.args.text.now c.args.at _ _ (sym c.place.ensures.answer ∙ c.in-BrokenRule.is)

pub overflow_sub-result-in-Refused : goal.overflow_sub-result-in-Refused
overflow_sub-result-in-Refused c = omega (arith, c.end_from-end.ensures, (stretch_ends c.args.rules c.args.text.now c.args.at c.requires).later)

pub returns-in-Placed : goal.returns-in-Placed
returns-in-Placed c = piece_of c.args.rules c.args.text.now c.args.at (sym c.place.ensures.answer ∙ c.in-Placed.is)

pub returns-in-BrokenRule : goal.returns-in-BrokenRule
returns-in-BrokenRule c = piece_of c.args.rules c.args.text.now c.args.at (sym c.place.ensures.answer ∙ c.in-BrokenRule.is)

pub returns-in-Refused : goal.returns-in-Refused
returns-in-Refused c =
    ap (λ end. LeftOut c.args.at (end - c.args.at)) c.end_from-end.ensures
    ∙ piece_of c.args.rules c.args.text.now c.args.at (sym c.place.ensures.answer ∙ c.in-Refused.is)
