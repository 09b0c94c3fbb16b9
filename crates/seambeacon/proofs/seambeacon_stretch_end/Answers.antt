-- `seambeacon::seambeacon_stretch_end` meets its contract: what `sao::stretch_end` answers, in numbers.
-- Assumes nothing.
use mathlib.Core.Path.{◌∙◌, ap}
use Rattle.salvaging.specs.Numbered.{stretch_reply}
use Rattle.seambeacon.proofs.Telling.{told_as}
use Rattle.seambeacon.proofs.seambeacon_stretch_end.Goals as goal

pub returns : goal.returns
returns c =
    let e = rw c.rules_of.ensures at c.stretch_end-answer.ensures in
    told_as (c.reply_of.ensures ∙ ap stretch_reply e) c.tell.ensures
