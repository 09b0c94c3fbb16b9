-- `salvaging::stretch_end` meets its contract: 2, 1, and else where the stretch ends.
-- Assumes nothing.
use native.Mathlib.Omega.{arith}
use mathlib.Core.Path.{◌∙◌, ap}
use Rattle.std.specs.Prelude.{Ok}
use Rattle.salvaging.proofs.Stretches.{stretch_beyond, stretch_at_end, stretch_inside}
use Rattle.salvaging.proofs.stretch_end.Goals as goal

pub returns-then-text-at : goal.returns-then-text-at
returns-then-text-at c = let a = c.args in stretch_beyond a.rules a.text.now a.at c.if-text-at.true

pub returns-then-text-at-2 : goal.returns-then-text-at-2
returns-then-text-at-2 c = let a = c.args in stretch_at_end a.rules a.text.now a.at c.if-text-at-2.true

pub returns : goal.returns
returns c = let a = c.args in ap Ok c.end_from.ensures ∙ stretch_inside a.rules a.text.now a.at (omega arith)
