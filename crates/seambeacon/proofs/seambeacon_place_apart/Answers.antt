-- `seambeacon::seambeacon_place_apart` meets its contract: what `sao::place` answers, in numbers.
-- Assumes nothing.
use mathlib.Core.Path.{◌∙◌, ap}
use Rattle.place.specs.Numbered.{placing_reply}
use Rattle.seambeacon.proofs.Telling.{told_as}
use Rattle.seambeacon.proofs.seambeacon_place_apart.Goals as goal

pub returns : goal.returns
returns c =
    let e-answer = rw c.rules_of.ensures at c.place-answer.ensures.answer in
    let e-counts = rw c.rules_of.ensures at c.place-answer.ensures.counts in
    let e-starts = rw c.rules_of.ensures at c.place-answer.ensures.starts in
    let e-ends = rw c.rules_of.ensures at c.place-answer.ensures.ends in
    record {
      reply = told_as (c.from.ensures ∙ ap placing_reply e-answer) c.tell.ensures;
      counts = e-counts;
      starts = e-starts;
      ends = e-ends;
    }
