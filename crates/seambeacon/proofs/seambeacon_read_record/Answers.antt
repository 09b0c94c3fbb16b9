-- `seambeacon::seambeacon_read_record` meets its contract: what `sao::read_record` answers, in numbers.
-- Assumes nothing.
use mathlib.Core.Path.{◌∙◌, ap}
use mathlib.Core.List.{[], ◌∷◌}
use Rattle.whole.specs.Numbered.{record_reply, group_told}
use Rattle.seambeacon.proofs.Telling.{told_as}
use Rattle.seambeacon.proofs.seambeacon_read_record.Goals as goal

pub returns : goal.returns
returns c =
    let e-answer = rw c.rules_of.ensures at c.read_record-answer.ensures.answer in
    let e-table = rw c.rules_of.ensures at c.read_record-answer.ensures.table in
    let g = c.group_of.ensures in record {
      reply = told_as (c.reply_of.ensures ∙ ap record_reply e-answer) c.tell.ensures;
      unread = ap (λ k. k ∷ []) (g ∙ ap group_told e-answer);
      table = e-table;
    }
