-- `seambeacon::seambeacon_first_from` meets its contract: what `sao::first_from` answers, in numbers.
-- Assumes nothing.
use mathlib.Core.Path.{◌∙◌, ap}
use Rattle.since.specs.Numbered.{first_reply, place_told, passed_told}
use Rattle.seambeacon.proofs.Telling.{told_as}
use Rattle.seambeacon.proofs.seambeacon_first_from.Goals as goal

pub returns : goal.returns
returns c =
    let e = rw (c.rules_of.ensures, c.date_of.ensures) at c.first_from-answer.ensures in record {
      reply = told_as (c.reply_of.ensures ∙ ap first_reply e) c.tell.ensures;
      place = c.place_of.ensures ∙ ap place_told e;
      passed = c.passed_of.ensures ∙ ap passed_told e;
    }
