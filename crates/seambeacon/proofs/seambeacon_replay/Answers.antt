-- `seambeacon::seambeacon_replay` meets its contract: what `sao::replay` answers, in numbers.
-- Assumes nothing.
use mathlib.Core.Path.{◌∙◌, ap}
use Rattle.reply.specs.Refusals.{checked_reply}
use Rattle.journal.specs.Plays.{replayed_open, replayed_cells}
use Rattle.seambeacon.specs.Flags.{flagged}
use Rattle.seambeacon.proofs.Telling.{told_as}
use Rattle.seambeacon.proofs.seambeacon_replay.Goals as goal

pub returns : goal.returns
returns c =
    let a = c.args in
    let ρ = flagged a.rules in
    let e-answer = rw c.rules_of.ensures at c.replay-replayed.ensures.answer in
    let e-open = rw c.rules_of.ensures at c.replay-replayed.ensures.open in
    let e-cells = rw c.rules_of.ensures at c.replay-replayed.ensures.cells in
    let opened = e-open ∙ ap (replayed_open ρ a.counts.now a.journal.now a.used a.cells.now) e-answer in
    let cells = e-cells ∙ ap (replayed_cells ρ a.counts.now a.journal.now a.used a.cells.now) e-answer in record {
      reply = told_as (c.from.ensures ∙ ap checked_reply e-answer) c.tell.ensures;
      opened = opened;
      cells = cells;
    }
