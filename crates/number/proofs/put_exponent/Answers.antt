-- `number::put_exponent` meets its contract: three writes that meet.
use Rattle.std.proofs.Common.{◌≡◌, ◌+◌, true, refl, arith, rules, length-set}
use Rattle.base.specs.Sign.{negative}
use Rattle.base.proofs.Part.{Put}
use Rattle.number.specs.Write.{text_of, state_of}
use Rattle.number.specs.Grammar.{sign_byte}
use Rattle.number.proofs.Storing.{store_before}
use Rattle.number.proofs.put_exponent.Goals as goal

pub returns : goal.returns
returns c =
    let a = c.args in
    let d : c.digits.result ≡ state_of a.e = search rules in
    let s : c.sign_byte.result ≡ sign_byte (negative a.e) = search rules in
    let exponent : Put a.out.now (a.at + 1 + 1) (text_of true a.x (state_of a.e)) c.put_at.new.out = record { room = omega arith; is = rw d at c.put_at.ensures.output } in
    rw s (store_before (store_before exponent (sign_byte (negative a.e)) (a.at + 1) refl (omega arith)) 69 a.at refl (simp length-set (omega arith))).is
