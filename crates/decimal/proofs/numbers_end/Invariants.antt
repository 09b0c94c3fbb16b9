-- `decimal::numbers_end` meets its contract. The invariant: the numbers that are left, put from `end` on, end where the whole row does.
-- Assumes nothing.
use Rattle.std.proofs.Common.{◌≡◌, ◌≤◌, length, drop}
use Rattle.decimal.specs.Rows.{row_text}
use Rattle.decimal.specs.Writing.{end_in}
use Rattle.decimal.proofs.Rows.{rest}
use Rattle.decimal.proofs.numbers_end.Given as goal

abbrev pub invariant-loop-n : goal.invariant-loop-n
invariant-loop-n l = (l.end ≤ l.size) × (end_in l.end (length (rest (drop l.n-index l.numbers))) l.size ≡ end_in l.at (length (row_text l.numbers)) l.size)
