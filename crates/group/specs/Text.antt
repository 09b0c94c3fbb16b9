-- R260: reading a group of the record at a place of a text: 12 and the reply of placing, if it is not 0 (`found_at`); then 11, 8 and 9, 10
-- (`read_group`).
use Rattle.std.specs.Prelude.{List, ℕ, Result, Ok, Err}
use Rattle.rules.specs.declared.Rules.{Rules}
use Rattle.base.specs.Pieces.{bad}
use Rattle.place.specs.Placing.{counts_at}
use Rattle.reading.specs.Read.{Cells, read_group}
use Rattle.group.specs.Held.{found_at, part_at}
use Rattle.reply.specs.declared.Refusal.{Refusal}

-- what is read where a group's lines can be given, or the refusal
abbrev pub read_if : Result (Unit {0}) Refusal → Cells → Cells
read_if (Ok _) c = c
read_if (Err r) c = bad r

module _ (ρ : Rules) where
  -- R269: the record's counts and the group's own lines decide
  abbrev pub read_found : List ℕ → ℕ → ℕ → ℕ → Result (Unit {0}) Refusal → Cells
  read_found s at g room c = read_if c (read_group ρ (counts_at ρ s at) g (part_at ρ s at g) room)

  -- group g of the record at a place, read into a table of this length
  unfoldable pub read_at : List ℕ → ℕ → ℕ → ℕ → Cells
  read_at s at g room = read_found s at g room (found_at ρ s at g)
