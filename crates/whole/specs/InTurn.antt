-- R274: one call for a whole record is equal to asking for its groups in turn.
use Rattle.std.specs.Prelude.{◌≡◌, List, ℕ, ◌≤◌, ℤ, length}
use Rattle.rules.specs.declared.Rules.{Rules}
use Rattle.base.specs.Every.{up_from}
use Rattle.base.specs.Pieces.{done}
use Rattle.count.specs.Tally.{cells_in, record_cells, group_cells}
use Rattle.place.specs.Placing.{counts_at}
use Rattle.group.specs.Text.{read_at}
use Rattle.whole.specs.Due.{RoomForAll}
use Rattle.whole.specs.Turn.{in_turn}
use Rattle.whole.specs.Whole.{whole_read}

module _ (ρ : Rules) (s : List ℕ) (at : ℕ) where
  -- a table for each group, with room enough
  abbrev pub RoomEnough : (ℕ → ℕ) → Type 0
  RoomEnough rooms = (g : ℕ) → 1 ≤ g → g ≤ 60 → cells_in ρ (counts_at ρ s at) g ≤ rooms g

  pub record AsInTurn : Type 0 where
    -- what groups 1 to 60 give, asked for in turn with these tables: the first reply but 0 with its group's number, or all their cells, joined
    pub equal : (room : ℕ) → RoomForAll ρ s at room → (rooms : ℕ → ℕ) → RoomEnough rooms → whole_read ρ s at room ≡ in_turn (λ g. read_at ρ s at g (rooms g)) (up_from 1 60)
    -- R275: so each group's cells stand among those of all where the counts of the groups before it say; in the table they do from its first cell on
    pub stands : (room : ℕ) (cs : List ℤ) → whole_read ρ s at room ≡ done cs → (rooms : ℕ → ℕ) → RoomEnough rooms → (g : ℕ) → 1 ≤ g → g ≤ 60
        → read_at ρ s at g (rooms g) ≡ done (group_cells ρ (counts_at ρ s at) cs g)
    -- R273: and they are as many as the table had to hold
    pub many : (room : ℕ) (cs : List ℤ) → whole_read ρ s at room ≡ done cs → length cs ≡ record_cells ρ (counts_at ρ s at)
