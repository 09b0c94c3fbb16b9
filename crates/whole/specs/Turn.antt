-- R274: the groups of a record, asked for in turn: 1 to 60, each by itself, with room enough. This is what one call for all of them is held to.
use Rattle.std.specs.Prelude.{List, [], ◌∷◌, ℕ, ℤ}
use Rattle.rules.specs.declared.Rules.{Rules}
use Rattle.base.specs.Every.{up_from}
use Rattle.base.specs.Pieces.{Got, done, bad, both, cells_got}
use Rattle.count.specs.Tally.{cells_in}
use Rattle.place.specs.Placing.{counts_at}
use Rattle.reply.specs.declared.Refusal.{Refusal}
use Rattle.reading.specs.Read.{Cells}
use Rattle.group.specs.Text.{read_at}

-- the cells of all groups, joined; or the first refusal, with the number of its group
abbrev pub Turn : Type 0
Turn = Got (ℕ × Refusal) ℤ

abbrev pub on_group : ℕ → Cells → Turn
on_group g (done cs) = done cs
on_group g (bad r) = bad (g, r)

-- each group is read as `read` says
unfoldable pub in_turn : (ℕ → Cells) → List ℕ → Turn
in_turn read [] = done []
in_turn read (g ∷ gs) = both (on_group g (read g)) (in_turn read gs)

module _ (ρ : Rules) where
  -- the question of a single group, with a table that has just as many cells as it needs
  abbrev pub group_read : List ℕ → ℕ → ℕ → Cells
  group_read s at g = read_at ρ s at g (cells_in ρ (counts_at ρ s at) g)

  abbrev pub all_in_turn : List ℕ → ℕ → Turn
  all_in_turn s at = in_turn (group_read s at) (up_from 1 60)

  -- the cells of all groups, joined; none where one is refused
  abbrev pub cells_at : List ℕ → ℕ → List ℤ
  cells_at s at = cells_got (all_in_turn s at)
