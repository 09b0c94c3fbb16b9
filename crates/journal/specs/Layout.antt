-- R501: the table of a record's cells, in group order, and where a cell of a group stands in it.
use Rattle.std.specs.Prelude.{Bool, true, false, cond, ◌&&◌, List, map, ℕ, ◌+◌, ◌-◌, leb, ℤ, pos, get_or, set, Option, Some, None}
use Rattle.rules.specs.declared.Rules.{Rules}
use Rattle.base.specs.Every.{up_from}
use Rattle.count.specs.Tally.{cells_before}

module _ (ρ : Rules) where
  -- R47: entry g is where the cells of group g begin, entry g + 1 where they end, for the groups 1 to 60
  unfoldable pub starts_of : List ℕ → List ℕ
  starts_of ns = map (cells_before ρ ns) (up_from 0 62)

-- cell c, counted from 1, of those from `start` up to `end`, if they are so many
abbrev pub spot_in : ℕ → ℕ → ℕ → Option ℕ
spot_in start end c = cond (leb 1 c && leb c (end - start)) (Some (start + (c - 1))) None

-- R502: cell c of group g, if the group has so many; a number that is no group's has none
unfoldable pub spot_of : List ℕ → ℕ → ℕ → Option ℕ
spot_of starts g c = spot_in (get_or starts g 0) (get_or starts (g + 1) 0) c

abbrev pub exists : Option ℕ → Bool
exists (Some i) = true
exists None = false

abbrev pub get_at : Option ℕ → List ℤ → ℤ
get_at (Some i) t = get_or t i (pos 0)
get_at None t = pos 0

abbrev pub put_at : Option ℕ → ℤ → List ℤ → List ℤ
put_at (Some i) v t = set t i v
put_at None v t = t
