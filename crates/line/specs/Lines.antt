-- R2, R3: a line ends with its line feed (10), and bytes behind the last line feed are no line.
use Rattle.std.specs.Prelude.{◌≡◌, Bool, cond, List, [], ◌∷◌, ℕ, zero, suc, count_by, eqb, length, take, drop}

abbrev pub is_feed : ℕ → Bool
is_feed x = eqb x 10

-- the number of line feeds
unfoldable pub feeds : List ℕ → ℕ
feeds xs = count_by is_feed xs

-- how far k lines reach, in bytes: through the k-th line feed, or to the end if there are fewer
unfoldable pub reach : List ℕ → ℕ → ℕ
reach [] k = zero
reach (x ∷ xs) zero = zero
reach (x ∷ xs) (suc k) = suc (reach xs (cond (is_feed x) k (suc k)))

-- the first k lines, and what stands behind them
abbrev pub lines : ℕ → List ℕ → List ℕ
lines k xs = take (reach xs k) xs

abbrev pub behind : ℕ → List ℕ → List ℕ
behind k xs = drop (reach xs k) xs

-- R7: a is exactly k lines, with nothing behind the last line feed
pub record Whole (k : ℕ) (a : List ℕ) : Type 0 where
  pub many : feeds a ≡ k
  pub ends : reach a k ≡ length a

-- no line feed stands in a
unfoldable pub Plain : List ℕ → Type 0
Plain a = feeds a ≡ 0
