-- R290, R294: a characteristic of the record at a place. 12, if the number is none of 1 to 49; the refusal of group 4, read into a table
-- that has room; and then, all under 0, not reported (R292), no reading (R291) or the value (R293).
use Rattle.std.specs.Prelude.{cond, ◌&&◌, List, ℕ, ◌-◌, leb, ℤ, pos, length, get_or, Result, Ok, Err}
use Rattle.rules.specs.declared.Rules.{Rules}
use Rattle.base.specs.Pieces.{done, bad}
use Rattle.characteristic.specs.NoReading.{is_no_reading}
use Rattle.reply.specs.declared.Refusal.TheVariants.{NoSuchNumber}
use Rattle.group.specs.declared.Characteristic.{Characteristic}
use Rattle.group.specs.declared.Characteristic.TheVariants.{Value, NoReading, NotReported, Refused}
use Rattle.reading.specs.Read.{Cells}
use Rattle.group.specs.Text.{read_at}
use Rattle.reply.specs.declared.Refusal.{Refusal}

-- R291, R293: what the cell of number k tells
abbrev pub told_by : ℕ → ℤ → Characteristic
told_by k z = cond (is_no_reading k z) NoReading (Value z)

-- R292, R293: number k, from 1, of the cells of group 4, if it has so many
abbrev pub reported : ℕ → Cells → Characteristic
reported k (done cs) = cond (leb k (length cs)) (told_by k (get_or cs (k - 1) (pos 0))) NotReported
reported k (bad r) = Refused r

-- R294: 12, if the number is none of 1 to 49; else by what group 4 reads as
abbrev pub characteristic_by : ℕ → Cells → Characteristic
characteristic_by k four = cond (leb 1 k && leb k 49) (reported k four) (Refused NoSuchNumber)

-- a table of 49 cells has room: R124 lets group 4 have at most 49 elements, of one cell each
unfoldable pub characteristic_at : Rules → List ℕ → ℕ → ℕ → Characteristic
characteristic_at ρ s at k = characteristic_by k (read_at ρ s at 4 49)

-- ---- by the answer of reading group 4 and the table behind it, as the code has them (`four_told` in proofs/Reported.antt)
abbrev pub told_of : ℕ → Result ℕ Refusal → List ℤ → Characteristic
told_of k (Ok n) cells = cond (leb k n) (told_by k (get_or cells (k - 1) (pos 0))) NotReported
told_of k (Err r) cells = Refused r
