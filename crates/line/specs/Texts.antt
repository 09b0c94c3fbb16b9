-- R8: two texts that have their lines at the same places: equally long, and a line feed in one where there is one in the other.
use Rattle.std.specs.Prelude.{◌≡◌, List, ℕ, ◌<◌, length, get_or}
use Rattle.line.specs.Lines.{is_feed}

pub record SameLines (s t : List ℕ) : Type 0 where
  pub long : length s ≡ length t
  pub feeds : (i : ℕ) → i < length s → is_feed (get_or s i 0) ≡ is_feed (get_or t i 0)
