-- R258: rewriting a record of a text that still grows. s is the text, b are bytes that were added at its end. Where placing has its last word,
-- rewriting has (`rewriting_stays` in proofs/Growth.antt).
use Rattle.std.specs.Prelude.{◌≡◌, List, ◌++◌, ℕ, ℤ, Result}
use Rattle.rules.specs.declared.Rules.{Rules}
use Rattle.place.specs.Growth.{Settled, number_at}
use Rattle.rewriting.specs.Record.{rewriting_of, buffer_by, table_after}
use Rattle.rewriting.specs.declared.Rewritten.{Rewritten}
use Rattle.whole.specs.declared.Unread.{Unread}

module _ (ρ : Rules) (s b : List ℕ) where
  pub record RewrittenAsBefore (at : ℕ) : Type 0 where
    -- the answer, over a table of so many cells and an output of so many bytes
    pub answer : (cells room : ℕ) → rewriting_of ρ (s ++ b) at cells room ≡ rewriting_of ρ s at cells room
    -- and what it leaves in the output and in the table
    pub output : (a : Result Rewritten Unread) (old : List ℕ) → buffer_by ρ (s ++ b) at a old ≡ buffer_by ρ s at a old
    pub table : (a : Result Rewritten Unread) (old : List ℤ) → table_after ρ (s ++ b) at a old ≡ table_after ρ s at a old

  -- wherever placing gave 0, 4, 5, 6 or 7
  abbrev pub RewritingStays : Type 0
  RewritingStays = (at : ℕ) → Settled (number_at ρ s at) → RewrittenAsBefore at
