-- `decimal::put_numbers` meets its contract. The invariant: the numbers that are left, put at a, make the whole row.
-- Assumes nothing.
use Rattle.std.proofs.Common.{◌≡◌, ◌+◌, length, drop}
use Rattle.base.specs.Part.{over}
use Rattle.decimal.specs.Rows.{row_text}
use Rattle.decimal.proofs.Rows.{rest}
use Rattle.decimal.proofs.put_numbers.Given as goal

abbrev pub invariant-loop-n : goal.invariant-loop-n
invariant-loop-n l = (length l.out ≡ length l.initial.out)
    × (l.a + length (rest (drop l.n-index l.numbers)) ≡ l.at + length (row_text l.numbers))
    × (over l.a (rest (drop l.n-index l.numbers)) l.out ≡ over l.at (row_text l.numbers) l.initial.out)
