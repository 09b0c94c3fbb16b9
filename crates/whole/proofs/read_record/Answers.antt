-- `whole::read_record` meets its contract: what placing answered chooses, and then the placed record is read.
-- Assumes nothing.
use mathlib.Core.Path.{◌≡◌, refl, sym, ◌∙◌, ap}
use Rattle.std.proofs.lemmas.Result.{err_from_is_err_and}
use Rattle.place.specs.Numbered.{as_checked}
use Rattle.place.specs.Placing.{carried_by, carried_at}
use Rattle.place.proofs.Parted.{placed_parted}
use Rattle.whole.proofs.Steps.{step_unplaced, step_placed}
use Rattle.whole.proofs.read_record.Goals as goal

pub invariant_of-read_placed : goal.invariant_of-read_placed
invariant_of-read_placed c =
    let p = c.place-record.ensures in record {
      parted = placed_parted c.args.rules c.args.text.now c.args.at c.place-record.result p.answer p.counts p.starts p.ends (sym c.as_checked.ensures ∙ c.in_ok-as_checked.was);
    }

pub returns-in_err-as_checked : goal.returns-in_err-as_checked
returns-in_err-as_checked c =
    let why = ap as_checked (sym c.place-record.ensures.answer) ∙ sym c.as_checked.ensures ∙ c.in_err-as_checked.was in
    let all = step_unplaced c.args.rules c.args.text.now c.args.at c.args.table.now why in
    let e = err_from_is_err_and c.from_residual.result c.from_residual.ensures.1 in
    record { answer = rw (e.1, e.2) all.0; table = all.1 }

pub returns : goal.returns
returns c =
    let p = c.place-record.ensures in
    let carries : carried_by c.place-record.result ≡ carried_at c.args.rules c.args.text.now c.args.at = rw (p.counts, p.starts, p.ends) refl in
    let zero = ap as_checked (sym p.answer) ∙ sym c.as_checked.ensures ∙ c.in_ok-as_checked.was in
    let all = step_placed c.args.rules c.args.text.now c.args.at c.args.table.now zero carries (c.read_placed.ensures.answer, c.read_placed.ensures.table) in
    record { answer = all.0; table = all.1 }
