-- R233, R272: when each answer of reading a whole record is due: its condition holds, and none that stands before it in the order is due. The
-- order: what placing refuses with; 11; what the first group that is refused is refused with; 0.
use Rattle.std.specs.Prelude.{◌≡◌, List, ℕ, ◌<◌, ◌≤◌, ℤ}
use Rattle.rules.specs.declared.Rules.{Rules}
use Rattle.base.specs.Pieces.{done, bad}
use Rattle.count.specs.Tally.{record_cells, joined}
use Rattle.place.specs.Due as Place
use Rattle.place.specs.declared.Placing.TheVariants.{Placed}
use Rattle.place.specs.Placing.{placing_of, counts_at}
use Rattle.reply.specs.declared.Refusal.{Refusal}
use Rattle.reply.specs.declared.Refusal.TheVariants.{NoRoom, BrokenRule}
use Rattle.whole.specs.Turn.{Turn, group_read}

module _ (ρ : Rules) (s : List ℕ) (at : ℕ) where
  -- ---- the groups, each asked for by itself, with room

  -- a group reads with 0
  pub record GroupDone (g : ℕ) : Type 0 where
    pub cells : List ℤ
    pub reads : group_read ρ s at g ≡ done cells

  -- this group is refused, and all below it read with 0
  pub record FirstRefused (g : ℕ) (r : Refusal) : Type 0 where
    pub low : 1 ≤ g
    pub high : g ≤ 60
    pub earlier : (h : ℕ) → 1 ≤ h → h < g → GroupDone h
    pub told : group_read ρ s at g ≡ bad r

  -- all read with 0, and cs are their cells, joined
  pub record AllDone (cs : List ℤ) : Type 0 where
    pub cells : ℕ → List ℤ
    pub each : (g : ℕ) → 1 ≤ g → g ≤ 60 → group_read ρ s at g ≡ done (cells g)
    pub all : cs ≡ joined cells

  -- ---- the record

  -- R273: 11: placed with 0, and the table has fewer cells than all groups together; for no other reason
  pub record NoRoomForAll (room : ℕ) : Type 0 where
    pub next : ℕ
    pub placed : placing_of ρ s at ≡ Placed next
    pub few : room < record_cells ρ (counts_at ρ s at)

  -- neither 11 nor what placing refuses with
  pub record RoomForAll (room : ℕ) : Type 0 where
    pub next : ℕ
    pub placed : placing_of ρ s at ≡ Placed next
    pub enough : record_cells ρ (counts_at ρ s at) ≤ room

  -- R272, R274: neither of these, and a group is refused
  pub record GroupUnread (room g : ℕ) (r : Refusal) : Type 0 where
    pub roomy : RoomForAll room
    pub first : FirstRefused g r

  -- R274, R275: 0
  pub record ReadDue (room : ℕ) (cs : List ℤ) : Type 0 where
    pub roomy : RoomForAll room
    pub groups : AllDone cs

  -- what it refuses with, and first the number of the group that was being read: as placing does, 7 without its next place (R235); 11; a group
  pub data RefusedFor (room : ℕ) : ℕ → Refusal → Type 0 where
    unplaced : (r : Refusal) → Place.RefusedFor ρ s at r → RefusedFor room 0 r
    broken_rule : (g next : ℕ) → Place.StandsBroken ρ s at g next → RefusedFor room 0 (BrokenRule g)
    no_room : NoRoomForAll room → RefusedFor room 0 NoRoom
    unread : (g : ℕ) (r : Refusal) → GroupUnread room g r → RefusedFor room g r

  abbrev pub Due : ℕ → Turn → Type 0
  Due room (done cs) = ReadDue room cs
  Due room (bad u) = RefusedFor room u.0 u.1
