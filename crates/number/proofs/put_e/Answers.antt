-- `number::put_e` meets its contract: four writes that meet.
use Rattle.std.proofs.Common.{◌≡◌, ◌+◌, true, false, refl, arith, rules}
use Rattle.base.specs.Sign.{negative}
use Rattle.base.proofs.Columns.{columns_length}
use Rattle.base.proofs.Part.{Put, put_before}
use Rattle.number.specs.Write.{last_of, back_of, text_of, lead_state, exponent_text, state_of}
use Rattle.number.proofs.Storing.{store_before}
use Rattle.number.proofs.put_e.Goals as goal

pub returns : goal.returns
returns c =
    let a = c.args in
    let d : c.digits.result ≡ state_of a.v = search rules in
    let s : c.lead_state.result ≡ lead_state a.c (negative a.v) = search rules in
    let hl = columns_length last_of (back_of false) a.c (lead_state a.c (negative a.v)) in
    let dl = columns_length last_of (back_of true) a.d (state_of a.v) in
    let point = a.at + a.c in
    let q₁ : Put a.out.now (point + 1 + a.d) (exponent_text a.x a.e) c.put_exponent.new.out = record { room = omega arith; is = search rules } in
    let q₂ = put_before q₁ (text_of true a.d (state_of a.v)) c.put_at.new.out (point + 1) (omega arith) (rw d at c.put_at.ensures.output) in
    let q₃ = store_before q₂ 46 point refl (omega arith) in
    (put_before q₃ (text_of false a.c (lead_state a.c (negative a.v))) c.put_at-2.new.out a.at (omega arith) (rw s at c.put_at-2.ensures.output)).is
