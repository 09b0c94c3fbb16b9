-- R6: the place behind k lines from a place of a text, or that fewer line feeds are left. The place may be any number.
use Rattle.std.specs.Prelude.{cond, List, ℕ, ◌+◌, leb, drop, Option, Some, None}
use Rattle.line.specs.Lines.{feeds, reach}

unfoldable pub behind_at : List ℕ → ℕ → ℕ → Option ℕ
behind_at s at k = cond (leb k (feeds (drop at s))) (Some (at + reach (drop at s) k)) None
