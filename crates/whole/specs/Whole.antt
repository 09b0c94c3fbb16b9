-- R271: reading the whole record at a place. R272 is the order: what placing refuses with; 11; what the first group that is refused is refused
-- with; 0. The group number is that of the group that was being read, and 0 where none was.
use Rattle.std.specs.Prelude.{cond, List, ℕ, leb, length, Result, Ok, Err}
use Rattle.rules.specs.declared.Rules.{Rules}
use Rattle.base.specs.Every.{up_from}
use Rattle.base.specs.Pieces.{done, bad}
use Rattle.count.specs.Tally.{cells_in, record_cells}
use Rattle.place.specs.Numbered.{as_checked}
use Rattle.place.specs.Parted.{lines_named}
use Rattle.place.specs.Placing.{Carried, placing_of, counts_at}
use Rattle.reading.specs.Read.{Cells, read_group}
use Rattle.reply.specs.declared.Refusal.{Refusal}
use Rattle.reply.specs.declared.Refusal.TheVariants.{NoRoom}
use Rattle.whole.specs.declared.Unread.{Unread}
use Rattle.whole.specs.Turn.{Turn, in_turn, all_in_turn}

-- R272, R321: placing's replies come first, 7 without its next place (R235); A is an answer, and each kind has its own refusals
abbrev pub unless_refused : {A : Type 0} → (Refusal → A) → Result (Unit {0}) Refusal → A → A
unless_refused refused (Ok _) a = a
unless_refused refused (Err why) a = refused why

module _ (ρ : Rules) where
  -- R273: 11 by the counts and the table's length alone
  abbrev pub with_room : List ℕ → ℕ → Turn → Turn
  with_room ns room t = cond (leb (record_cells ρ ns) room) t (bad (0, NoRoom))

  -- into a table of so many cells
  unfoldable pub whole_read : List ℕ → ℕ → ℕ → Turn
  whole_read s at room = unless_refused (λ why. bad (0, why)) (as_checked (placing_of ρ s at)) (with_room (counts_at ρ s at) room (all_in_turn ρ s at))

abbrev pub unread : ℕ × Refusal → Unread
unread u = record { group = u.0; why = u.1 }

-- the answer; the table is as in reading a group (`table_by`)
abbrev pub record_read_of : Turn → Result ℕ Unread
record_read_of (done cs) = Ok (length cs)
record_read_of (bad u) = Err (unread u)

-- ---- the same from a placed record on, as the code goes (proofs/Placed.antt)

-- whether all groups are clean, or the first that is not
abbrev pub groups_of : Turn → Result (Unit {0}) Unread
groups_of (done cs) = Ok tt
groups_of (bad u) = Err (unread u)

module _ (ρ : Rules) (s : List ℕ) (r : Carried) where
  -- a group, by the lines that the record names for it
  abbrev pub group_by : ℕ → Cells
  group_by g = read_group ρ r.counts_of g (lines_named s r g) (cells_in ρ r.counts_of g)

  abbrev pub all_by : Turn
  all_by = in_turn group_by (up_from 1 60)

  abbrev pub whole_by : ℕ → Turn
  whole_by room = with_room ρ r.counts_of room all_by
