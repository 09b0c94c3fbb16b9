-- What the bytes read as is what those from here on read as behind the digits passed.
use Rattle.std.proofs.Common.{◌≡◌, drop}
use Rattle.date.specs.Digits.{read_digits}
use Rattle.date.proofs.Numbers.{read_from}
use Rattle.date.proofs.number.Given as goal

abbrev pub invariant-loop-digit : goal.invariant-loop-digit
invariant-loop-digit l = read_from l.value l.least l.greatest (drop l.digit-index l.digits) ≡ read_digits l.least l.greatest l.digits
