-- `seambeacon::seambeacon_set_cell` meets its contract: what `sao::set_cell` answers, in numbers.
-- Assumes nothing.
use borrow.Author.Rules.{rules}
use mathlib.Core.Path.{◌≡◌, ◌∙◌, ap}
use mir.Syntax.{w64}
use mir.Val.{to_z, of_z}
use Rattle.journal.specs.Model.{Sets}
use Rattle.journal.specs.Calls.{used_by, cells_after, journal_by}
use Rattle.journal.specs.Numbered.{edit_reply}
use Rattle.seambeacon.specs.Flags.{flagged}
use Rattle.seambeacon.proofs.Telling.{told_as}
use Rattle.seambeacon.proofs.seambeacon_set_cell.Goals as goal

pub returns : goal.returns
returns c =
    let a = c.args in
    let ρ = flagged a.rules in
    let z : to_z w64 (of_z w64 a.value) ≡ a.value = search rules in
    let e-answer = rw (z, c.rules_of.ensures) at c.set_cell-edited.ensures.answer in
    let e-used = c.set_cell-edited.ensures.used in
    let e-cells = rw (z, c.rules_of.ensures) at c.set_cell-edited.ensures.cells in
    let e-journal = rw (z, c.rules_of.ensures) at c.set_cell-edited.ensures.journal in
    let journal = e-journal ∙ ap (journal_by ρ a.counts.now a.journal.now a.used.now (Sets a.group a.cell a.value) a.cells.now) e-answer in
    let cells = e-cells ∙ ap (cells_after ρ a.counts.now a.journal.now a.used.now (Sets a.group a.cell a.value) a.cells.now) e-answer in
    let used = e-used ∙ ap (used_by a.used.now (Sets a.group a.cell a.value)) e-answer in record {
      reply = told_as (c.reply_of.ensures ∙ ap edit_reply e-answer) c.tell.ensures;
      used = used;
      cells = cells;
      journal = journal;
    }
