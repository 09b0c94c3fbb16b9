-- R2, R7: parts of a text that are exactly so many of its lines.
use Rattle.std.specs.Prelude.{◌≡◌, Bool, ◌&&◌, ◌||◌, List, ℕ, suc, ◌-◌, ◌<◌, ◌≤◌, leb, eqb, length, get_or}
use Rattle.base.specs.Part.{part}
use Rattle.line.specs.Lines.{is_feed, feeds, reach}

-- R2: where a line may begin: at place 0, or next to a line feed and behind it. The text's end is such a place too if a line feed stands before it.
pub data LineStart (s : List ℕ) : ℕ → Type 0 where
  text_start : LineStart s 0
  behind_feed : (i : ℕ) → i < length s → get_or s i 0 ≡ 10 → LineStart s (suc i)

-- the part is exactly so many lines of the text: it lies within the text, begins where a line does, holds exactly so many line feeds and ends
-- with the last of them; with none it is empty
pub record AreLines (s : List ℕ) (from to lines : ℕ) : Type 0 where
  pub order : from ≤ to
  pub within : to ≤ length s
  pub begins : LineStart s from
  pub as_many : feeds (part from to s) ≡ lines
  pub last : 1 ≤ lines → get_or s (to - 1) 0 ≡ 10
  pub none : lines ≡ 0 → from ≡ to

-- ---- the same as an answer (`are_lines_lem` in proofs/Parts.antt)

unfoldable pub lies_within : List ℕ → ℕ → ℕ → Bool
lies_within s from to = leb from to && leb to (length s)

unfoldable pub begins_line : List ℕ → ℕ → Bool
begins_line s at = eqb at 0 || (leb at (length s) && is_feed (get_or s (at - 1) 0))

-- R7: exactly k lines
abbrev pub is_whole : ℕ → List ℕ → Bool
is_whole k a = eqb (feeds a) k && eqb (reach a k) (length a)

unfoldable pub are_lines : List ℕ → ℕ → ℕ → ℕ → Bool
are_lines s from to lines = lies_within s from to && (begins_line s from && is_whole lines (part from to s))
