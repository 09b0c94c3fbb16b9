-- What reading a whole record rests on: the placing, the counts and what each group gives are all that decides it.
-- Assumes nothing.
use mathlib.Core.Path.{◌≡◌, refl, ◌∙◌, ap, fun_ext}
use mathlib.Core.List.{List}
use Prim.Native.Nat.{ℕ}
use Rattle.rules.specs.declared.Rules.{Rules}
use Rattle.base.specs.Every.{up_from}
use Rattle.count.specs.Tally.{cells_in}
use Rattle.place.specs.Numbered.{as_checked}
use Rattle.place.specs.Placing.{placing_of, counts_at}
use Rattle.group.specs.Text.{read_at}
use Rattle.whole.specs.Turn.{group_read, in_turn, all_in_turn}
use Rattle.whole.specs.Whole.{whole_read}

-- s at p and t at q have it in common
pub record SameBasis (ρ : Rules) (s : List ℕ) (p : ℕ) (t : List ℕ) (q : ℕ) : Type 0 where
  pub counts : counts_at ρ s p ≡ counts_at ρ t q
  pub groups : (g room : ℕ) → read_at ρ s p g room ≡ read_at ρ t q g room

-- the next place is of no use here
pub whole_by_turn : (ρ : Rules) (s : List ℕ) (p : ℕ) (t : List ℕ) (q : ℕ) → as_checked (placing_of ρ s p) ≡ as_checked (placing_of ρ t q) → counts_at ρ s p ≡ counts_at ρ t q
    → all_in_turn ρ s p ≡ all_in_turn ρ t q → (room : ℕ) → whole_read ρ s p room ≡ whole_read ρ t q room
unfolding whole_read
whole_by_turn ρ s p t q placing counts turn room = rw (placing, counts, turn) refl

module _ (ρ : Rules) (s : List ℕ) (p : ℕ) (t : List ℕ) (q : ℕ) (h : SameBasis ρ s p t q) where
  pub same_reads : group_read ρ s p ≡ group_read ρ t q
  same_reads = fun_ext (λ g. h.groups g (cells_in ρ (counts_at ρ s p) g) ∙ ap (λ ns. read_at ρ t q g (cells_in ρ ns g)) h.counts)

  pub same_turn : all_in_turn ρ s p ≡ all_in_turn ρ t q
  same_turn = ap (λ read. in_turn read (up_from 1 60)) same_reads

  pub same_whole : as_checked (placing_of ρ s p) ≡ as_checked (placing_of ρ t q) → (room : ℕ) → whole_read ρ s p room ≡ whole_read ρ t q room
  same_whole placing room = whole_by_turn ρ s p t q placing h.counts same_turn room
