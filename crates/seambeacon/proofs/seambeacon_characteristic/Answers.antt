-- `seambeacon::seambeacon_characteristic` meets its contract: what `sao::characteristic` answers, in numbers.
-- Assumes nothing.
use borrow.Author.Rules.{sfits_of}
use mathlib.Core.Path.{◌∙◌, ap}
use mir.Syntax.{w64}
use mir.Facts.{to_z-of_z}
use Rattle.group.specs.Numbered.{characteristic_reply}
use Rattle.seambeacon.specs.Numbers.{answer_kind, answer_value}
use Rattle.seambeacon.proofs.Telling.{told_as}
use Rattle.seambeacon.proofs.seambeacon_characteristic.Goals as goal

pub returns : goal.returns
returns c =
    let known = rw c.rules_of.ensures at c.characteristic-known.ensures in
    let stored = to_z-of_z {w = w64} (sfits_of {w = w64} c.value_of.type_inv) in record {
      reply = told_as (c.from.ensures ∙ ap characteristic_reply known)
          c.tell.ensures;
      kind = c.kind_of.ensures ∙ ap answer_kind known;
      value = stored ∙ c.value_of.ensures ∙ ap answer_value known;
    }
