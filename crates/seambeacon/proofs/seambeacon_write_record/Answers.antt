-- `seambeacon::seambeacon_write_record` meets its contract: what `sao::write_record` answers, in numbers.
-- Assumes nothing.
use mathlib.Core.Path.{◌∙◌, ap}
use Rattle.reply.specs.Refusals.{answer_reply}
use Rattle.writing.specs.Writing.{output_by}
use Rattle.seambeacon.specs.Flags.{flagged}
use Rattle.seambeacon.proofs.Telling.{told_as}
use Rattle.seambeacon.proofs.seambeacon_write_record.Goals as goal

pub returns : goal.returns
returns c =
    let a = c.args in
    let ρ = flagged a.rules in
    let e-answer = rw c.rules_of.ensures at c.write_record-answer.ensures.answer in
    let e-output = rw c.rules_of.ensures at c.write_record-answer.ensures.output in record {
      reply = told_as (c.from.ensures ∙ ap answer_reply e-answer) c.tell.ensures;
      output = e-output ∙ ap (λ w. output_by ρ a.counts.now a.cells.now w a.out.now) e-answer;
    }
