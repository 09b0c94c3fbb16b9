-- Answers about a group, and about the record at a place, that are the same: under two rules (R9, R12), or in two texts, of which one is the other
-- damaged (D3) or grown (R258).
use Rattle.std.specs.Prelude.{◌≡◌, List, ℕ, ℤ}
use Rattle.rules.specs.declared.Rules.{Rules}
use Rattle.place.specs.Placing.{placing_of, carried_at}
use Rattle.reading.specs.Read.{Cells, reading_of, table_by}
use Rattle.group.specs.Characteristics.{characteristic_at}
use Rattle.group.specs.Held.{found_at, part_start, part_at}
use Rattle.group.specs.Text.{read_at}

-- what reading gives: the reply with its numbers, and the table
pub record SameReading (a b : Cells) (table : List ℤ) : Type 0 where
  pub reply : reading_of a ≡ reading_of b
  pub cells : table_by a table ≡ table_by b table

-- all that reading is asked about a place: of s under ρ and of t under σ
pub record AnswersAgree (ρ : Rules) (s : List ℕ) (σ : Rules) (t : List ℕ) (at : ℕ) : Type 0 where
  pub placing : placing_of ρ s at ≡ placing_of σ t at
  pub carried : carried_at ρ s at ≡ carried_at σ t at
  -- the cells or the refusal of each group, into a table of each length
  pub groups : (g room : ℕ) → read_at ρ s at g room ≡ read_at σ t at g room
  -- whether a group's lines can be given, where they begin, and they themselves
  pub found : (g : ℕ) → found_at ρ s at g ≡ found_at σ t at g
  pub begins : (g : ℕ) → part_start ρ s at g ≡ part_start σ t at g
  pub lines : (g : ℕ) → part_at ρ s at g ≡ part_at σ t at g
  pub characteristics : (k : ℕ) → characteristic_at ρ s at k ≡ characteristic_at σ t at k
