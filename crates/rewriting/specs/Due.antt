-- R233, R321: when each answer of rewriting a record is due: its condition holds, and none that stands before it in the order is due. The
-- order: what placing refuses with; 11; what the first group that is refused is refused with; 0.
use Rattle.std.specs.Prelude.{◌≡◌, List, ◌⊎◌, ℕ, ◌<◌, ◌≤◌, Result, Ok, Err}
use Rattle.rules.specs.declared.Rules.{Rules}
use Rattle.count.specs.Tally.{record_cells}
use Rattle.place.specs.Due as Place
use Rattle.place.specs.declared.Placing.TheVariants.{Placed}
use Rattle.place.specs.Placing.{placing_of, counts_at}
use Rattle.reply.specs.declared.Refusal.{Refusal}
use Rattle.reply.specs.declared.Refusal.TheVariants.{NoRoom, BrokenRule}
use Rattle.whole.specs.Due.{GroupDone, FirstRefused}
use Rattle.writing.specs.Text.{record_bytes}
use Rattle.rewriting.specs.declared.Rewritten.{Rewritten}
use Rattle.whole.specs.declared.Unread.{Unread}

module _ (ρ : Rules) (s : List ℕ) (at cells room : ℕ) where
  -- R322: 11, for want of bytes in the output or of cells in the table
  pub record NoRoomDue : Type 0 where
    pub next : ℕ
    pub placed : placing_of ρ s at ≡ Placed next
    pub short : (room < record_bytes ρ (counts_at ρ s at)) ⊎ (cells < record_cells ρ (counts_at ρ s at))

  -- placed with 0, and both are long enough
  pub record RoomForBoth (next : ℕ) : Type 0 where
    pub placed : placing_of ρ s at ≡ Placed next
    pub text_fits : record_bytes ρ (counts_at ρ s at) ≤ room
    pub cells_fit : record_cells ρ (counts_at ρ s at) ≤ cells

  -- R321, R323: the first group that is refused
  pub record UnreadDue (g : ℕ) (r : Refusal) : Type 0 where
    pub next : ℕ
    pub roomy : RoomForBoth next
    pub first : FirstRefused ρ s at g r

  -- R321: 0, all groups read with 0; R200: the bytes of the canonical text, and the next place
  pub record RewrittenDue (bytes next : ℕ) : Type 0 where
    pub roomy : RoomForBoth next
    pub groups : (g : ℕ) → 1 ≤ g → g ≤ 60 → GroupDone ρ s at g
    pub written : record_bytes ρ (counts_at ρ s at) ≡ bytes

  -- what it refuses with, and first the number of the group that was being read: as placing does, 7 without its next place (R235); 11; a group
  pub data RefusedFor : ℕ → Refusal → Type 0 where
    unplaced : (r : Refusal) → Place.RefusedFor ρ s at r → RefusedFor 0 r
    broken_rule : (g next : ℕ) → Place.StandsBroken ρ s at g next → RefusedFor 0 (BrokenRule g)
    no_room : NoRoomDue → RefusedFor 0 NoRoom
    unread : (g : ℕ) (r : Refusal) → UnreadDue g r → RefusedFor g r

  abbrev pub Due : Result Rewritten Unread → Type 0
  Due (Ok w) = RewrittenDue w.bytes w.next
  Due (Err u) = RefusedFor u.group u.why
