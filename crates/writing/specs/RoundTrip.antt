-- D2.4: reading what was written gives its counts and cells; D2.5: writing what was read from canonical text gives its bytes.
use Rattle.std.specs.Prelude.{◌≡◌, List, ℕ, ◌+◌, ◌≤◌, ℤ, Ok}
use Rattle.rules.specs.declared.Rules.{Rules}
use Rattle.base.specs.Part.{part}
use Rattle.base.specs.Pieces.{done}
use Rattle.count.specs.Tally.{cells_in, group_cells, joined}
use Rattle.place.specs.declared.Placing.TheVariants.{Placed}
use Rattle.place.specs.Placing.{placing_of, counts_at}
use Rattle.group.specs.Text.{read_at}
use Rattle.writing.specs.Canonical.{CanonicalRecord}
use Rattle.writing.specs.Text.{record_text, record_bytes}
use Rattle.writing.specs.Writing.{writing_of}

module _ (ρ : Rules) where
  -- D2.4: n bytes that stand at a place of a text read back as these counts and cells
  pub record ReadsBack (ns : List ℕ) (cs : List ℤ) (n : ℕ) (s : List ℕ) (at : ℕ) : Type 0 where
    -- placing gives 0, with the place behind the n bytes and the same counts
    pub placed : placing_of ρ s at ≡ Placed (at + n)
    pub counts : counts_at ρ s at ≡ ns
    -- a group is read with 0 as the cells that are its own, if the table has room for them
    pub groups : (g room : ℕ) → 1 ≤ g → g ≤ 60 → cells_in ρ ns g ≤ room → read_at ρ s at g room ≡ done (group_cells ρ ns cs g)

  -- a record is placed with 0 at a place of a text, with its next place, and each of its groups is read with 0, as these cells
  pub record ReadWhole (s : List ℕ) (at next : ℕ) (cells : ℕ → List ℤ) : Type 0 where
    pub placed : placing_of ρ s at ≡ Placed next
    pub room : ℕ → ℕ
    pub groups : (g : ℕ) → 1 ≤ g → g ≤ 60 → read_at ρ s at g (room g) ≡ done (cells g)

  -- what writing the counts and cells that were read comes to
  pub record WritesAgain (s : List ℕ) (at next : ℕ) (cells : ℕ → List ℤ) : Type 0 where
    -- R112: 0, where there is room
    pub written : (room : ℕ) → record_bytes ρ (counts_at ρ s at) ≤ room → writing_of ρ (counts_at ρ s at) (joined cells) room ≡ Ok (record_bytes ρ (counts_at ρ s at))
    -- D2.5: and where the record's bytes are canonical, of whatever cells, these are the cells that were read, and its bytes are what is written
    pub cells_same : (ds : List ℤ) → CanonicalRecord ρ (counts_at ρ s at) (part at next s) ds → ds ≡ joined cells
    pub bytes_same : (ds : List ℤ) → CanonicalRecord ρ (counts_at ρ s at) (part at next s) ds → record_text ρ (counts_at ρ s at) (joined cells) ≡ part at next s
