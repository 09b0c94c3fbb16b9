-- `salvaging::end_from` meets its contract. The invariant: of the places behind the first, none that was passed will do.
-- Assumes nothing.
use native.Mathlib.Omega.{arith}
use mathlib.Core.Path.{sym, ◌∙◌}
use Rattle.salvaging.proofs.Seeking.{seeking_first, seeking_all, seeking_further, seeking_found, seeking_more}
use Rattle.salvaging.proofs.end_from.Goals as goal

pub loop-at-init : goal.loop-at-init
loop-at-init c = let a = c.args in seeking_first a.rules a.text.now a.from c.requires

pub returns-then-is_sound : goal.returns-then-is_sound
returns-then-is_sound c =
    let a = c.args in
    seeking_found a.rules a.text.now a.from c.loop-at.invariant c.loop-at-test.true c.behind_line-at.ensures
    (sym c.is_sound.ensures ∙ c.if-is_sound.true)

pub loop-at-smaller : goal.loop-at-smaller
loop-at-smaller c =
    let a = c.args in
    omega (arith, (seeking_further a.rules a.text.now a.from c.loop-at.invariant c.loop-at-test.true c.behind_line-at.ensures).0)

pub loop-at-preserved : goal.loop-at-preserved
loop-at-preserved c =
    let a = c.args in
    seeking_more a.rules a.text.now a.from c.loop-at.invariant c.loop-at-test.true c.behind_line-at.ensures
    (sym c.is_sound.ensures ∙ c.if-is_sound.false)

pub returns : goal.returns
returns c = let a = c.args in seeking_all a.rules a.text.now a.from c.loop-at.invariant (omega arith)
