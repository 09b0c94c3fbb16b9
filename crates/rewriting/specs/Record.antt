-- R320: the record at a place, read whole (R271) and written as canonical text. R321 is the order: what placing refuses with; 11; what the first
-- group that is refused is refused with; 0. R323: the group number is that of the group that was being read, and 0 where none was.
use Rattle.std.specs.Prelude.{cond, List, ℕ, leb, ℤ, Result, Ok, Err}
use Rattle.rules.specs.declared.Rules.{Rules}
use Rattle.base.specs.Part.{over}
use Rattle.base.specs.Pieces.{done, bad}
use Rattle.reply.specs.declared.Refusal.TheVariants.{NoRoom}
use Rattle.place.specs.Numbered.{as_checked, placing_reply}
use Rattle.place.specs.Placing.{placing_of, counts_at}
use Rattle.whole.specs.Turn.{Turn, cells_at}
use Rattle.whole.specs.Whole.{unless_refused, whole_read, unread}
use Rattle.writing.specs.Text.{record_text, record_bytes}
use Rattle.rewriting.specs.declared.Rewritten.{Rewritten}
use Rattle.whole.specs.declared.Unread.{Unread}

-- R200: 0, with the bytes that were written and the next place
abbrev pub rewritten_with : ℕ → ℕ → Rewritten
rewritten_with bytes next = record { bytes = bytes; next = next }

module _ (ρ : Rules) where
  -- R322: 11 for want of bytes, by the counts and the output's length alone
  abbrev pub with_output : List ℕ → ℕ → Result Rewritten Unread → Result Rewritten Unread
  with_output ns room r = cond (leb (record_bytes ρ ns) room) r (Err (unread (0, NoRoom)))

  -- R200: 0 has the bytes of the canonical text and the next place; R322, R323: what reading is refused with, 11 for want of cells among it
  abbrev pub rewritten_as : List ℕ → ℕ → Turn → Result Rewritten Unread
  rewritten_as ns next (done cs) = Ok (rewritten_with (record_bytes ρ ns) next)
  rewritten_as ns next (bad u) = Err (unread (u.0, u.1))

  -- R321: over a table of so many cells and an output of so many bytes
  unfoldable pub rewriting_of : List ℕ → ℕ → ℕ → ℕ → Result Rewritten Unread
  rewriting_of s at cells room =
      unless_refused (λ why. Err (unread (0, why))) (as_checked (placing_of ρ s at))
      (with_output (counts_at ρ s at) room (rewritten_as (counts_at ρ s at) (placing_reply (placing_of ρ s at)).next (whole_read ρ s at cells)))

  -- ---- what is lent, afterwards

  -- the canonical text of the record at a place
  abbrev pub text_at : List ℕ → ℕ → List ℕ
  text_at s at = record_text ρ (counts_at ρ s at) (cells_at ρ s at)

  -- R324: under 0 the text stands in the output from the first byte on; R325: a refusal leaves the whole output
  abbrev pub buffer_by : List ℕ → ℕ → Result Rewritten Unread → List ℕ → List ℕ
  buffer_by s at (Ok w) old = over 0 (text_at s at) old
  buffer_by s at (Err u) old = old

  -- R324: and the cells of all groups in the table, from the first cell on; R326: a refusal leaves the whole table
  abbrev pub table_after : List ℕ → ℕ → Result Rewritten Unread → List ℤ → List ℤ
  table_after s at (Ok w) old = over 0 (cells_at ρ s at) old
  table_after s at (Err u) old = old
