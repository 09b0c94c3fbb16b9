-- `seambeacon::seambeacon_rewrite_record` meets its contract: what `sao::rewrite_record` answers, in numbers.
-- Assumes nothing.
use mathlib.Core.Path.{◌∙◌, ap}
use mathlib.Core.List.{[], ◌∷◌}
use Rattle.rewriting.specs.Numbered.{rewriting_reply, rewriting_group}
use Rattle.rewriting.specs.Record.{table_after, buffer_by}
use Rattle.seambeacon.specs.Flags.{flagged}
use Rattle.seambeacon.proofs.Telling.{told_as}
use Rattle.seambeacon.proofs.seambeacon_rewrite_record.Goals as goal

pub returns : goal.returns
returns c =
    let a = c.args in
    let e-answer = rw c.rules_of.ensures at c.rewrite_record-answer.ensures.answer in
    let e-table = rw c.rules_of.ensures at c.rewrite_record-answer.ensures.table in
    let e-output = rw c.rules_of.ensures at c.rewrite_record-answer.ensures.output in
    let ρ = flagged a.rules in
    let g = c.group_of.ensures in record {
      reply = told_as (c.reply_of.ensures ∙ ap rewriting_reply e-answer)
          c.tell.ensures;
      unread = ap (λ k. k ∷ [])
          (g ∙ ap rewriting_group e-answer);
      table = e-table ∙ ap (λ w. table_after ρ a.text.now a.at w a.table.now) e-answer;
      output = e-output ∙ ap (λ w. buffer_by ρ a.text.now a.at w a.out.now) e-answer;
    }
