-- `number::put_f` meets its contract: three writes that meet, and what is left of the number after three digits are its thousands.
use Rattle.std.proofs.Common.{◌≡◌, ◌∙◌, ◌+◌, ◌-◌, ◌/◌, ℕ, Bool, true, false, refl, ap, arith, rules}
use Rattle.base.specs.Sign.{negative, size_of}
use Rattle.base.proofs.Columns.{columns_length}
use Rattle.base.proofs.Part.{Put, put_before}
use Rattle.number.specs.declared.Scan.TheVariants.{Digits}
use Rattle.number.specs.Write.{last_of, back_of, text_of, rest_of, state_of}
use Rattle.number.proofs.Storing.{store_before}
use Rattle.number.proofs.put_f.Goals as goal

-- what three digits leave
thousands : (g : Bool) (n : ℕ) → rest_of true 3 (Digits g n) ≡ Digits g (n / 1000)
thousands g n = ap (Digits g) (omega arith)

pub returns : goal.returns
returns c =
    let a = c.args in
    let head = Digits (negative a.v) (size_of a.v / 1000) in
    let d : c.digits.result ≡ state_of a.v = search rules in
    let r : c.put_at-rest.result ≡ head = c.put_at-rest.ensures.answer ∙ ap (rest_of true 3) d ∙ thousands (negative a.v) (size_of a.v) in
    let l = columns_length last_of (back_of false) (a.w - 4) head in
    let point = a.at + (a.w - 4) in
    let last : Put a.out.now (point + 1) (text_of true 3 (state_of a.v)) c.put_at-rest.new.out = record { room = omega (arith, c.requires.room, c.requires.w); is = rw d at c.put_at-rest.ensures.output } in
    (put_before (store_before last 46 point refl (omega arith)) (text_of false (a.w - 4) head) c.put_at.new.out a.at (omega arith) (rw r at c.put_at.ensures.output)).is
