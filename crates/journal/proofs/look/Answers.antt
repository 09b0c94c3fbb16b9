use Rattle.std.proofs.Common.{sym, arith}
use Rattle.std.proofs.lemmas.List.{take_min}
use Rattle.journal.proofs.Answers.{walk_stands}
use Rattle.journal.proofs.look.Goals as goal

pub returns : goal.returns
returns c =
    let a = c.args in
    walk_stands a.rules a.counts.now a.journal.now a.used a.cells c.starts_of-starts.ensures (grind (arith, take_min)) c.walk-state.ensures (sym c.in_ok-check.ensures) c.if-state-used.false
