-- R258: what is asked about a place of a text that still grows. s is the text, b are bytes that were added at its end. Where placing has its last
-- word, every question of reading has (`answers_stay` in proofs/Growth.antt); which replies these are says place's specs/Growth.antt.
use Rattle.std.specs.Prelude.{◌≡◌, List, ◌++◌, ℕ, ℤ, length}
use Rattle.rules.specs.declared.Rules.{Rules}
use Rattle.place.specs.Growth.{Settled, number_at}
use Rattle.place.specs.Parts.{group_part}
use Rattle.place.specs.Placing.{counts_at}
use Rattle.group.specs.Answers.{SameReading, AnswersAgree}
use Rattle.group.specs.Held.{lines_start, part_end}
use Rattle.group.specs.Text.{read_at}

module _ (ρ : Rules) (s b : List ℕ) where
  pub record AnswersStay (at : ℕ) : Type 0 where
    -- placing, each group, its part, each characteristic: all is answered as it was
    pub answers : AnswersAgree ρ (s ++ b) ρ s at
    -- so each group puts the same cells into the same table, or is refused with the same numbers and puts none
    pub tables : (g : ℕ) (table : List ℤ) → SameReading (read_at ρ (s ++ b) at g (length table)) (read_at ρ s at g (length table)) table
    -- its part ends where it did
    pub part_ends : (g : ℕ) → part_end ρ (s ++ b) at g ≡ part_end ρ s at g
    -- R27: and its lines begin where they did, with the same bytes, also in a record that breaks a rule (7), of which no part is given
    pub starts : (g : ℕ) → lines_start ρ (s ++ b) at g ≡ lines_start ρ s at g
    pub line_bytes : (g : ℕ) → group_part ρ (s ++ b) at (counts_at ρ (s ++ b) at) g ≡ group_part ρ s at (counts_at ρ s at) g

  -- wherever placing gave 0, 4, 5, 6 or 7
  abbrev pub GroupsStay : Type 0
  GroupsStay = (at : ℕ) → Settled (number_at ρ s at) → AnswersStay at
