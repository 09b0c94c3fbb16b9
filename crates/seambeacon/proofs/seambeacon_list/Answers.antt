-- `seambeacon::seambeacon_list` meets its contract: what `sao::list` answers, in numbers.
-- Assumes nothing.
use mathlib.Core.Path.{◌∙◌, ap}
use Rattle.reply.specs.Refusals.{answer_reply}
use Rattle.seambeacon.proofs.Telling.{told_as}
use Rattle.seambeacon.proofs.seambeacon_list.Goals as goal

pub returns : goal.returns
returns c =
    let e-answer = rw c.rules_of.ensures at c.list-answer.ensures.answer in
    let e-output = rw c.rules_of.ensures at c.list-answer.ensures.output in record {
      reply = told_as (c.from.ensures ∙ ap answer_reply e-answer) c.tell.ensures;
      output = e-output;
    }
