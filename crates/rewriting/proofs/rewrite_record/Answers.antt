-- `rewriting::rewrite_record` meets its contract: what placing answered chooses, and then what reading the placed record gives; each answer, with
-- what it leaves, by what led to it.
use Rattle.std.proofs.Common.{◌≡◌, ◌∙◌, ◌≤◌, Ok, Err, length, refl, sym, ap, subst, arith, rules}
use Rattle.place.specs.Numbered.{as_checked, placing_reply}
use Rattle.place.specs.Placing.{placing_of, carried_by, carried_at}
use Rattle.place.proofs.Parted.{placed_parted}
use Rattle.reply.specs.declared.Refusal.TheVariants.{NoRoom}
use Rattle.whole.specs.Whole.{unread}
use Rattle.writing.specs.Text.{record_bytes}
use Rattle.rewriting.specs.Record.{rewritten_with}
use Rattle.rewriting.proofs.Steps.{Outcome, Stands, stands_by, step_unplaced, step_short, step_unread, step_writes, step_done}
use Rattle.rewriting.proofs.rewrite_record.Goals.{In_ok-as_checked}
use Rattle.rewriting.proofs.rewrite_record.Goals as goal

pub returns-in_err-as_checked : goal.returns-in_err-as_checked
returns-in_err-as_checked c =
    let a = c.args in
    let why = ap as_checked (sym c.place-record.ensures.answer) ∙ sym c.as_checked.ensures ∙ c.in_err-as_checked.was in
    let r : c.from_residual.result ≡ Err (unread (0, c.in_err-as_checked.field-0.0)) = search rules in
    let o = subst (λ r. Outcome a.rules a.text.now a.at a.table.now a.out.now r a.table.now a.out.now) (sym r) (step_unplaced a.rules a.text.now a.at a.table.now a.out.now why) in
    record { answer = o.0; table = o.1; output = o.2 }

-- the record was placed with 0
here : (c : In_ok-as_checked) → Stands c.args.rules c.args.text.now c.args.at (placing_reply (placing_of c.args.rules c.args.text.now c.args.at)).next (carried_by c.place-record.result)
here c =
    let e = c.place-record.ensures in
    let carries : carried_by c.place-record.result ≡ carried_at c.args.rules c.args.text.now c.args.at = rw (e.counts, e.starts, e.ends) refl in
    stands_by c.args.rules c.args.text.now c.args.at (ap as_checked (sym e.answer) ∙ sym c.as_checked.ensures ∙ c.in_ok-as_checked.was) carries

pub returns-then-out-bytes : goal.returns-then-out-bytes
returns-then-out-bytes c =
    let a = c.args in
    let r : c.from.result ≡ unread (0, NoRoom) = search rules in
    let o = subst (λ u. Outcome a.rules a.text.now a.at a.table.now a.out.now (Err u) a.table.now a.out.now) (sym r) (step_short (here (goal.at.returns-then-out-bytes c).In_ok-as_checked) a.table.now a.out.now (omega (arith, c.canonical_length-bytes.ensures))) in
    record { answer = o.0; table = o.1; output = o.2 }

pub invariant_of-placed : goal.invariant_of-placed
invariant_of-placed c =
    let e = c.place-record.ensures in record {
      parted = placed_parted c.args.rules c.args.text.now c.args.at c.place-record.result e.answer e.counts e.starts e.ends (sym c.as_checked.ensures ∙ c.in_ok-as_checked.was);
    }

pub returns-in_err-cells : goal.returns-in_err-cells
returns-in_err-cells c =
    let a = c.args in
    let fits : record_bytes a.rules c.place-record.result.counts ≤ length a.out.now = omega (arith, c.canonical_length-bytes.ensures) in
    let all = step_unread (here (goal.at.returns-in_err-cells c).In_ok-as_checked) a.table.now a.out.now fits (c.read_placed.ensures.answer, c.read_placed.ensures.table) c.in_err-cells.was in
    let r : c.from_residual-in_err-cells.result ≡ Err c.in_err-cells.field-0.0 = search rules in
    let o = subst (λ r. Outcome a.rules a.text.now a.at a.table.now a.out.now r c.read_placed.new.table a.out.now) (sym r) all in
    record { answer = o.0; table = o.1; output = o.2 }

pub put_record-requires : goal.put_record-requires
put_record-requires c =
    let a = c.args in
    let fits : record_bytes a.rules c.place-record.result.counts ≤ length a.out.now = omega (arith, c.canonical_length-bytes.ensures) in
    let w = step_writes (here (goal.at.put_record-requires c).In_ok-as_checked) a.table.now a.out.now fits (c.read_placed.ensures.answer, c.read_placed.ensures.table) c.in_ok-cells.was in
    record { checked = w.checked; fits = w.fit; room = w.room }

pub returns : goal.returns
returns c =
    let a = c.args in
    let fits : record_bytes a.rules c.place-record.result.counts ≤ length a.out.now = omega (arith, c.canonical_length-bytes.ensures) in
    let all = step_done (here (goal.at.returns c).In_ok-as_checked) a.table.now a.out.now fits (c.read_placed.ensures.answer, c.read_placed.ensures.table) c.in_ok-cells.was c.canonical_length-bytes.ensures c.put_record.ensures in
    let n : c.from-next.result.next ≡ (placing_reply (placing_of a.rules a.text.now a.at)).next = ap (λ r. r.next) c.from-next.ensures ∙ ap (λ p. (placing_reply p).next) c.place-record.ensures.answer in
    let o = subst (λ n. Outcome a.rules a.text.now a.at a.table.now a.out.now (Ok (rewritten_with c.canonical_length-bytes.result n)) c.read_placed.new.table c.put_record.new.out) (sym n) all in
    record { answer = o.0; table = o.1; output = o.2 }
