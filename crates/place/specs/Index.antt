-- R21 to R23: an index is two lines with contents of 120 bytes, 40 entries each; an entry is an I3 field that has no minus.
use Rattle.std.specs.Prelude.{◌≡◌, cond, List, [], ◌∷◌, ◌++◌, ℕ, zero, suc, ◌+◌, ◌*◌, ◌<◌, eqb, length, take, drop, Option, Some, None}
use Rattle.rules.specs.declared.Rules.{Rules}
use Rattle.base.specs.Part.{part}
use Rattle.count.specs.Tally.{count_of}
use Rattle.field.specs.Entry.{entry_of, IsEntry}
use Rattle.line.specs.Lines.{lines, behind}
use Rattle.line.specs.Contents.{content_of, HasContent}

-- the counts that entries give, or that one of them, or their line, is misformed
pub data Indexed : Type 0 where
  counts : List ℕ → Indexed
  misformed : Indexed

-- the same as an answer: the counts, or none
abbrev pub indexed : Option (List ℕ) → Indexed
indexed (Some ns) = counts ns
indexed None = misformed

abbrev pub entry_then : Option ℕ → Indexed → Indexed
entry_then (Some n) (counts ns) = counts (n ∷ ns)
entry_then (Some n) misformed = misformed
entry_then None r = misformed

-- R21: so many entries of three columns, one behind the other
unfoldable pub read_entries : ℕ → List ℕ → Indexed
read_entries zero s = counts []
read_entries (suc k) s = entry_then (entry_of (take 3 s)) (read_entries k (drop 3 s))

abbrev pub read_index_content : List ℕ → Option ℕ → Indexed
read_index_content x (Some n) = cond (eqb n 120) (read_entries 40 (part 0 n x)) misformed
read_index_content x None = misformed

-- an index line, with its line feed
unfoldable pub read_index_line : Rules → List ℕ → Indexed
read_index_line ρ x = read_index_content x (content_of ρ x)

abbrev pub both_lines : Indexed → Indexed → Indexed
both_lines (counts a) (counts b) = counts (a ++ b)
both_lines (counts a) misformed = misformed
both_lines misformed r = misformed

module _ (ρ : Rules) where
  -- the first two lines
  unfoldable pub read_index : List ℕ → Indexed
  read_index xs = both_lines (read_index_line ρ (lines 1 xs)) (read_index_line ρ (lines 1 (behind 1 xs)))

  -- ---- the same as a statement (proofs/Indexed.antt)

  -- R21, R23: an index line: its content has 120 bytes, and the columns from 3k to 3k + 3 are an entry of the count that stands behind
  -- `before` others and k more
  pub record IsIndexLine (x ns : List ℕ) (before : ℕ) : Type 0 where
    pub content : List ℕ
    pub is : HasContent ρ x content
    pub wide : length content ≡ 120
    pub each : (k : ℕ) → k < 40 → IsEntry (part (k * 3) (k * 3 + 3) content) (count_of ns (before + k + 1))

  -- R22: the first line of xs has the entries of numbers 1 to 40, the second those of 41 to 80
  pub record IsIndex (xs ns : List ℕ) : Type 0 where
    pub many : length ns ≡ 80
    pub first : IsIndexLine (lines 1 xs) ns 0
    pub second : IsIndexLine (lines 1 (behind 1 xs)) ns 40
