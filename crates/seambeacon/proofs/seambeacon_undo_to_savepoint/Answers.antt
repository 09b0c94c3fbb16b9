-- `seambeacon::seambeacon_undo_to_savepoint` meets its contract: what `sao::undo_to_savepoint` answers, in numbers.
-- Assumes nothing.
use mathlib.Core.Path.{◌≡◌, subst, ◌∙◌, ap}
use Rattle.journal.specs.Model.{Undoes}
use Rattle.journal.specs.Calls.{used_by, cells_after, journal_by}
use Rattle.journal.specs.Numbered.{edit_reply}
use Rattle.seambeacon.specs.Flags.{flagged}
use Rattle.seambeacon.proofs.Telling.{told_as}
use Rattle.rules.specs.declared.Rules.{Rules}
use Rattle.seambeacon.proofs.seambeacon_undo_to_savepoint.Goals as goal

pub returns : goal.returns
returns c =
    let a = c.args in
    let ρ = flagged a.rules in
    let e-answer = rw c.rules_of.ensures at c.undo_to_savepoint-edited.ensures.answer in
    let e-used = c.undo_to_savepoint-edited.ensures.used in
    let e-cells = rw c.rules_of.ensures at c.undo_to_savepoint-edited.ensures.cells in
    let e-journal = subst (λ (r : Rules). c.undo_to_savepoint-edited.new.journal ≡ journal_by r a.counts.now a.journal.now a.used.now (Undoes a.savepoint) a.cells.now c.undo_to_savepoint-edited.result.answer) c.rules_of.ensures c.undo_to_savepoint-edited.ensures.journal in
    let journal = e-journal ∙ ap (journal_by ρ a.counts.now a.journal.now a.used.now (Undoes a.savepoint) a.cells.now) e-answer in
    let cells = e-cells ∙ ap (cells_after ρ a.counts.now a.journal.now a.used.now (Undoes a.savepoint) a.cells.now) e-answer in
    let used = e-used ∙ ap (used_by a.used.now (Undoes a.savepoint)) e-answer in record {
      reply = told_as (c.reply_of.ensures ∙ ap edit_reply e-answer) c.tell.ensures;
      used = used;
      cells = cells;
      journal = journal;
    }
