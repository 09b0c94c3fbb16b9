-- `salvaging::is_sound` meets its contract: what placing answered chooses, and then the three groups of the placed record.
-- Assumes nothing.
use mathlib.Core.Path.{◌≡◌, refl, sym, ◌∙◌, ap}
use Rattle.place.specs.Numbered.{as_checked}
use Rattle.place.specs.Placing.{carried_by, carried_at}
use Rattle.place.proofs.Parted.{placed_parted}
use Rattle.salvaging.proofs.Trying.{sound_unplaced, sound_placed}
use Rattle.salvaging.proofs.is_sound.Goals as goal

pub invariant_of-are_read : goal.invariant_of-are_read
invariant_of-are_read c =
    let p = c.place-record.ensures in record {
      parted = placed_parted c.args.rules c.args.text.now c.args.at c.place-record.result p.answer p.counts p.starts p.ends (ap as_checked c.in-Placed.is);
    }

pub returns-in-Placed : goal.returns-in-Placed
returns-in-Placed c =
    let p = c.place-record.ensures in
    let carries : carried_by c.place-record.result ≡ carried_at c.args.rules c.args.text.now c.args.at = rw (p.counts, p.starts, p.ends) refl in
    c.are_read.ensures ∙ sound_placed c.args.rules c.args.text.now c.args.at (sym p.answer ∙ c.in-Placed.is) carries

pub returns-in_default : goal.returns-in_default
returns-in_default c = sound_unplaced c.args.rules c.args.text.now c.args.at (sym c.place-record.ensures.answer) c.in_default.not-Placed
