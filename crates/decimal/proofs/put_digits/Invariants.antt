-- `decimal::put_digits` meets its contract. The invariant: the columns before i, as they are to be, and those from i on, as they are, are
-- the whole.
-- Assumes nothing.
use Rattle.std.proofs.Common.{◌≡◌, ◌++◌, length, drop}
use Rattle.base.specs.Columns.{columns}
use Rattle.decimal.specs.Numerals.{last_byte, tenth}
use Rattle.decimal.proofs.put_digits.Given as goal

abbrev pub invariant-loop-i : goal.invariant-loop-i
invariant-loop-i l = (length l.out ≡ length l.initial.out) × (columns last_byte tenth l.i l.left ++ drop l.i l.out ≡ columns last_byte tenth (length l.initial.out) l.n)
