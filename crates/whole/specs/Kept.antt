-- D3, R258, R277: reading a whole record of a text that was damaged, or that still grows.
use Rattle.std.specs.Prelude.{◌≡◌, List, ◌++◌, ℕ, ◌≤◌, ℤ}
use Rattle.rules.specs.declared.Rules.{Rules}
use Rattle.base.specs.Pieces.{done, bad}
use Rattle.count.specs.Tally.{group_cells}
use Rattle.place.specs.Growth.{Settled, number_at}
use Rattle.place.specs.Placing.{counts_at}
use Rattle.place.specs.Walk.{spot}
use Rattle.reply.specs.declared.Refusal.{Refusal}
use Rattle.group.specs.Damage.{Outside}
use Rattle.whole.specs.Whole.{whole_read}

-- t is a text, u the same with bytes of the lines of these groups exchanged; record j stands in both at the same place (D3.4)
pub record DamageKeepsWhole (ρ : Rules) (t u : List ℕ) (among : ℕ → ℕ → Type 0) : Type 0 where
  -- D3.5: a record none of whose groups is touched gives what it gave: the same cells, or the same refusal with its numbers
  pub untouched : (j : ℕ) → ((h : ℕ) → 1 ≤ h → h ≤ 60 → Outside among j h) → (room : ℕ) → whole_read ρ u (spot ρ u j) room ≡ whole_read ρ t (spot ρ t j) room
  -- a refusal stays, with its numbers, where neither the group that was being read nor one before it is touched: with group number 0 always
  pub refused : (j h : ℕ) → ((i : ℕ) → 1 ≤ i → i ≤ h → Outside among j i) → (room : ℕ) (r : Refusal) → whole_read ρ t (spot ρ t j) room ≡ bad (h, r)
      → whole_read ρ u (spot ρ u j) room ≡ bad (h, r)
  -- where the record reads with 0 before and after, each group that is not touched has the same cells at the same places of the table
  pub cells : (j room : ℕ) (cs ds : List ℤ) → whole_read ρ t (spot ρ t j) room ≡ done cs → whole_read ρ u (spot ρ u j) room ≡ done ds
      → (h : ℕ) → 1 ≤ h → h ≤ 60 → Outside among j h
      → group_cells ρ (counts_at ρ t (spot ρ t j)) ds h ≡ group_cells ρ (counts_at ρ t (spot ρ t j)) cs h
  -- where it read with 0 before and is refused now, a touched group is the one that was being read
  pub blamed : (j room : ℕ) (cs : List ℤ) (h : ℕ) (r : Refusal) → whole_read ρ t (spot ρ t j) room ≡ done cs → whole_read ρ u (spot ρ u j) room ≡ bad (h, r) → Outside among j h → ⊥

-- R258: s is a text, b are bytes that were added at its end: wherever placing gave 0, 4, 5, 6 or 7, the cells or the refusal stay
abbrev pub GrowthKeepsWhole : Rules → List ℕ → List ℕ → Type 0
GrowthKeepsWhole ρ s b = (at : ℕ) → Settled (number_at ρ s at) → (room : ℕ) → whole_read ρ (s ++ b) at room ≡ whole_read ρ s at room
