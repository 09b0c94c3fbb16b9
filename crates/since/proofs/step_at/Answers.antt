-- `since::step_at` meets its contract: a record that is placed with 0 names a part of the text for each group; what placing refuses with ends the walk.
-- Assumes nothing.
use Rattle.std.proofs.Common.{◌≡◌, sym, ◌∙◌, subst}
use Rattle.place.specs.Parted.{Parted}
use Rattle.place.specs.Placing.{carried_by, carried_at}
use Rattle.place.proofs.Parted.{parted_at}
use Rattle.since.proofs.Steps.{step_stopped}
use Rattle.since.proofs.step_at.Goals as goal

pub invariant_of-placed : goal.invariant_of-placed
invariant_of-placed c =
    let here : carried_by c.place-record.result ≡ carried_at c.args.rules c.args.text.now c.args.at = cc in
    record { parted = subst (Parted c.args.text.now) (sym here) (parted_at c.args.rules c.args.text.now c.args.at c.in-Placed.next (sym c.place-record.ensures.answer ∙ c.in-Placed.is)) }

pub returns-in-Refused : goal.returns-in-Refused
returns-in-Refused c =
    sym (step_stopped c.args.rules c.args.text.now c.args.at c.args.from c.in-Refused.why (sym c.place-record.ensures.answer ∙ c.in-Refused.is))
