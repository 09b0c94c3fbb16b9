-- `seambeacon::seambeacon_read_group` meets its contract: what `sao::read_group` answers, in numbers.
-- Assumes nothing.
use borrow.Author.Rules.{rules}
use mathlib.Core.Path.{◌∙◌, ap}
use Rattle.reply.specs.Refusals.{answer_reply}
use Rattle.seambeacon.proofs.Telling.{told_as}
use Rattle.seambeacon.proofs.seambeacon_read_group.Goals as goal

pub returns : goal.returns
returns c =
    let e-answer = rw c.rules_of.ensures at c.read_group-answer.ensures.answer in
    let e-table = rw c.rules_of.ensures at c.read_group-answer.ensures.table in
    let told = told_as (c.from.ensures ∙ ap answer_reply e-answer) c.tell.ensures in
    search (rules, told, e-answer, e-table)
