-- R345: the program prints the canonical text of record after record. R346: it stops before the first that is refused, or whose canonical text
-- has more than 8,192 bytes. R341: it takes 65,536 bytes; if there are more, it prints nothing.
use Rattle.std.specs.Prelude.{◌≡◌, cond, List, [], ◌++◌, ℕ, zero, suc, leb, length, Result, Ok, Err}
use Rattle.rules.specs.declared.Rules.{Rules}
use Rattle.rewriting.specs.Record.{rewriting_of, text_at, rewritten_with}
use Rattle.rewriting.specs.declared.Rewritten.{Rewritten}
use Rattle.whole.specs.declared.Unread.{Unread}

-- R347: a table of 8,192 cells always serves: no record has more cells than bytes of canonical text (R111)
abbrev pub program_rewriting : Rules → List ℕ → ℕ → Result Rewritten Unread
program_rewriting ρ s at = rewriting_of ρ s at 8192 8192

-- R346: a record's text, and more behind it; nothing of a record that is refused, and nothing behind it
abbrev pub text_then : List ℕ → (ℕ → List ℕ) → Result Rewritten Unread → List ℕ
text_then text more (Ok w) = text ++ more w.next
text_then text more (Err u) = []

module _ (ρ : Rules) where
  -- from a place on, at most so many records
  unfoldable pub rewritten_from : ℕ → List ℕ → ℕ → List ℕ
  rewritten_from zero s at = []
  rewritten_from (suc k) s at = text_then (text_at ρ s at) (rewritten_from k s) (program_rewriting ρ s at)

  -- a text has fewer records than bytes
  unfoldable pub rewritten : List ℕ → List ℕ
  rewritten s = rewritten_from (length s) s 0

  -- R341: of a longer input nothing
  unfoldable pub printed : List ℕ → List ℕ
  printed s = cond (leb (length s) 65536) (rewritten s) []

  -- ---- record by record, as a program goes

  -- a place behind records from the text's start on that are rewritten with 0, and their texts, one behind the other
  pub data Reached (s : List ℕ) : ℕ → List ℕ → Type 0 where
    start : Reached s 0 []
    one_more : (at bytes next : ℕ) (before : List ℕ) → Reached s at before → program_rewriting ρ s at ≡ Ok (rewritten_with bytes next) → Reached s next (before ++ text_at ρ s at)

  -- where a program may stop: these texts are all that is to be printed
  pub record Stopped (s : List ℕ) (at : ℕ) : Type 0 where
    pub before : List ℕ
    pub reached : Reached s at before
    pub all : before ≡ printed s
