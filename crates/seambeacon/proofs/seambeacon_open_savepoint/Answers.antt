-- `seambeacon::seambeacon_open_savepoint` meets its contract: what `sao::open_savepoint` answers, in numbers.
-- Assumes nothing.
use mathlib.Core.Path.{◌∙◌, ap}
use Rattle.journal.specs.Model.{Opens}
use Rattle.journal.specs.Calls.{used_by, journal_by}
use Rattle.journal.specs.Numbered.{edit_reply}
use Rattle.seambeacon.specs.Flags.{flagged}
use Rattle.seambeacon.proofs.Telling.{told_as}
use Rattle.seambeacon.proofs.seambeacon_open_savepoint.Goals as goal

pub returns : goal.returns
returns c =
    let a = c.args in
    let ρ = flagged a.rules in
    let e-answer = rw c.rules_of.ensures at c.open_savepoint-edited.ensures.answer in
    let e-used = c.open_savepoint-edited.ensures.used in
    let e-journal = rw c.rules_of.ensures at c.open_savepoint-edited.ensures.journal in
    let journal = e-journal ∙ ap (journal_by ρ a.counts.now a.journal.now a.used.now Opens a.cells.now) e-answer in
    let used = e-used ∙ ap (used_by a.used.now Opens) e-answer in record {
      reply = told_as (c.reply_of.ensures ∙ ap edit_reply e-answer) c.tell.ensures;
      used = used;
      journal = journal;
    }
