-- R13, R42 to R46: which counts there are, and what a group's count comes to: its elements, lines and cells.
use Rattle.std.specs.Prelude.{Bool, cond, ℕ, zero, suc, ◌+◌, ◌-◌, ◌*◌, ◌/◌, ◌<◌, ◌≤◌, leb}
use Rattle.base.specs.Every.{has}
use Rattle.rules.specs.declared.Rules.{Rules}
use Rattle.rules.specs.declared.Counting.{Counting}
use Rattle.rules.specs.declared.Counting.TheVariants.{Elements, Entries}
use Rattle.form.specs.declared.Form.{Form}
use Rattle.form.specs.Table.{listed_as, row_of}

-- R23, R129: a count is what three columns of an index hold, 0 to 999
abbrev pub most_count : ℕ
most_count = 999

abbrev pub is_count : ℕ → Bool
is_count n = leb n most_count

-- R13: the form is group 40's, which no other group has: its count is a matter of the rules
unfoldable pub is_segments : Form → Bool
is_segments f = has (listed_as f).groups 40

-- R13: the elements of group 40: as many as its count or, where that counts entries, six for each entry but the last, which has one; a
-- count of 0 has none
unfoldable pub segment_elements : ℕ → Counting → ℕ
segment_elements zero k = 0
segment_elements (suc n) Elements = suc n
segment_elements (suc n) Entries = 6 * n + 1

-- n divided by p, rounded up: the lines that n elements take, p to a line
unfoldable pub rounded_up : (n p : ℕ) → ℕ
rounded_up n p = (n + (p - 1)) / p

module _ (ρ : Rules) where
  -- R42: a count is the number of elements, but for group 40, where the rules say what it counts
  unfoldable pub elements_of : Form → ℕ → ℕ
  elements_of f count = cond (is_segments f) (segment_elements count ρ.counting) count

  -- R43: as many lines as the elements need; no elements, no lines, and no empty line behind full ones
  unfoldable pub lines_of : Form → ℕ → ℕ
  lines_of f count = rounded_up (elements_of f count) (row_of f).per_line

  -- R46: each element has as many cells as the form's row says
  unfoldable pub cells_of : Form → ℕ → ℕ
  cells_of f count = elements_of f count * (row_of f).cells

-- ---- the same without dividing, to hold the above to (proofs/Counted.antt)

-- R43: k lines are enough for n elements, p to a line, and k - 1 are not
pub record Takes (n p k : ℕ) : Type 0 where
  pub enough : n ≤ k * p
  pub needed : 0 < k → (k - 1) * p < n
