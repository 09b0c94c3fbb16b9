-- A text put into lent bytes from a place on: the place behind it, or that there is no room and nothing is altered.
use Rattle.std.specs.Prelude.{◌≡◌, Bool, cond, List, ℕ, ◌+◌, leb, length, Option, Some, None}
use Rattle.base.specs.Part.{over}

-- the text has room from the place on
abbrev pub fits : ℕ → List ℕ → List ℕ → Bool
fits at text out = leb (at + length text) (length out)

-- where k bytes end that are put into so many bytes from the place on
abbrev pub end_in : ℕ → ℕ → ℕ → Option ℕ
end_in at k size = cond (leb (at + k) size) (Some (at + k)) None

unfoldable pub put_answer : ℕ → List ℕ → List ℕ → Option ℕ
put_answer at text out = end_in at (length text) (length out)

unfoldable pub put_bytes : ℕ → List ℕ → List ℕ → List ℕ
put_bytes at text out = cond (fits at text out) (over at text out) out

-- putting the text into `old` answers r and leaves `new`
pub record Puts (at : ℕ) (text old : List ℕ) (r : Option ℕ) (new : List ℕ) : Type 0 where
  pub answer : r ≡ put_answer at text old
  pub bytes : new ≡ put_bytes at text old
