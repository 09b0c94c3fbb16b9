-- A number that a usize does not hold is greater than the greatest.
use Rattle.std.proofs.Common.{◌≡◌, true, get_or, arith}
use Rattle.std.proofs.lemmas.Grind.{common_steps}
use Rattle.date.specs.Digits.{is_digit}
use Rattle.date.proofs.Numbers.{number_over}
use Rattle.date.proofs.number.Goals as goal

pub returns-in_err-checked_mul : goal.returns-in_err-checked_mul
returns-in_err-checked_mul c =
    let a = c.args in
    let l = c.loop-digit in
    let d : is_digit (get_or a.digits.now l.digit-index 0) ≡ true = grind (arith, common_steps) in
    let o = number_over a.least a.greatest a.digits.now l.digit-index l.value (omega arith) d (omega (arith, c.in_err-checked_mul.ensures)) in
    cc

pub returns-in_err-value : goal.returns-in_err-value
returns-in_err-value c =
    let a = c.args in
    let l = c.loop-digit in
    let d : is_digit (get_or a.digits.now l.digit-index 0) ≡ true = grind (arith, common_steps) in
    let o = number_over a.least a.greatest a.digits.now l.digit-index l.value (omega arith) d (omega (arith, c.in_err-value.ensures, c.in_ok-checked_mul.ensures)) in
    cc
