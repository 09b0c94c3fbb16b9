-- What is promised of rewriting a record: a refusal keeps the output and the table; 0 has the record's canonical text at the output's front and its
-- cells at the table's, and keeps what stands behind them; a table with a cell for each byte of the output always serves; the next place lies
-- further on; and each answer fills a row of its table, with the group's number or 0 beside it.
-- Assumes nothing.
use Rattle.std.specs.Prelude.{Ok, Result, Err}
use mathlib.Core.Path.{◌≡◌, refl, ◌∙◌, ap}
use mathlib.Core.List.{List, [], ◌∷◌}
use mathlib.Core.Logic.{inl, inr, ⊎_elim}
use Prim.Native.Nat.{ℕ, ◌+◌, ◌<◌, ◌≤◌}
use native.Mathlib.Omega.{arith}
use lib.Dec.{lit<}
use lib.IntN.{ℤ}
use lib.ListN.{length, take, drop}
use Rattle.rules.specs.declared.Rules.{Rules}
use Rattle.count.specs.Tally.{record_cells}
use Rattle.place.specs.Placing.{counts_at}
use Rattle.place.proofs.Placed.{located_long, located_range}
use Rattle.place.proofs.Zero.{is_placed_lem}
use Rattle.reply.specs.Table.{next as nextPlace, bytes as textBytes}
use Rattle.reply.proofs.Replies.{fills, refusal_fills, at_row}
use Rattle.reply.specs.declared.Refusal.{Refusal}
use Rattle.reply.specs.declared.Refusal.TheVariants.{NoRoom}
use Rattle.reply.specs.Refusals.{refusal_reply, rows}
use Rattle.whole.specs.Due as WholeIs
use Rattle.whole.specs.Due.{AllDone}
use Rattle.whole.specs.Numbered.{before_refusals, NumberedWith}
use Rattle.whole.specs.Turn.{cells_at}
use Rattle.whole.proofs.Promises.{refused_numbered_with}
use Rattle.writing.specs.Text.{record_bytes}
use Rattle.writing.specs.Writing.{writing_of}
use Rattle.writing.proofs.Promises.{record_some}
use Rattle.writing.proofs.ReadsBack.{done_bytes}
use Rattle.rewriting.specs.Due.{NoRoomDue, RewrittenDue, RefusedFor, unplaced, broken_rule, no_room, unread, Due}
use Rattle.rewriting.specs.Numbered.{rewriting_reply, rewriting_group, rewriting_row}
use Rattle.rewriting.specs.Record.{rewriting_of, text_at, buffer_by, table_after, rewritten_with}
use Rattle.rewriting.proofs.Cells.{record_cells_lem}
use Rattle.rewriting.proofs.Due.{first_due}
use Rattle.rewriting.proofs.Steps.{over_front}
use Rattle.rewriting.proofs.Whole.{groups_done, whole_length, whole_written}
use Rattle.rewriting.specs.declared.Rewritten.{Rewritten}
use Rattle.whole.specs.declared.Unread.{Unread}

-- ---- a refusal

-- R325: it leaves the whole output
pub refused_rewriting_keeps : (ρ : Rules) (s : List ℕ) (at : ℕ) (r : Result Rewritten Unread) (old : List ℕ) → ((rewriting_reply r).number ≡ 0 → ⊥) → buffer_by ρ s at r old ≡ old
refused_rewriting_keeps ρ s at (Ok w) old n = absurd (n refl)
refused_rewriting_keeps ρ s at (Err u) old n = refl

-- R326: and the whole table
pub refused_keeps_table : (ρ : Rules) (s : List ℕ) (at : ℕ) (r : Result Rewritten Unread) (old : List ℤ) → ((rewriting_reply r).number ≡ 0 → ⊥) → table_after ρ s at r old ≡ old
refused_keeps_table ρ s at (Ok w) old n = absurd (n refl)
refused_keeps_table ρ s at (Err u) old n = refl

-- a table with a cell for each byte of the output always serves: 11 is then given only for the text
pub table_serves : (ρ : Rules) (s : List ℕ) (at cells room : ℕ) → room ≤ cells → NoRoomDue ρ s at cells room → room < record_bytes ρ (counts_at ρ s at)
table_serves ρ s at cells room l d =
    ⊎_elim
    (λ (h : room < record_bytes ρ (counts_at ρ s at)). h)
    (λ (h : cells < record_cells ρ (counts_at ρ s at)). omega (arith, record_cells_lem ρ (counts_at ρ s at)))
    d.short

-- ---- 0

module _ (ρ : Rules) (s : List ℕ) (at cells room bytes next : ℕ) (e : rewriting_of ρ s at cells room ≡ Ok (rewritten_with bytes next)) where
  d : RewrittenDue ρ s at cells room bytes next
  d = (first_due ρ s at cells room (Ok (rewritten_with bytes next))).0 e

  -- all groups read with 0, and what is rewritten is their cells, joined
  pub done_all : AllDone ρ s at (cells_at ρ s at)
  done_all = groups_done ρ s at d.groups

  -- what is written is what writing gives for the counts and the cells that were read
  pub done_writes : writing_of ρ (counts_at ρ s at) (cells_at ρ s at) room ≡ Ok bytes
  done_writes = whole_written ρ s at next d.roomy.placed done_all room d.roomy.text_fits ∙ ap Ok d.written

  -- as many bytes as the reply says, and no more than the output has
  pub done_text : length (text_at ρ s at) ≡ bytes
  done_text = done_bytes ρ (counts_at ρ s at) (cells_at ρ s at) room bytes done_writes

  pub done_within : bytes ≤ room
  done_within = omega (arith, d.roomy.text_fits, d.written)

  -- R324: they stand at the output's front, and what stands behind them stays
  pub done_front : (old : List ℕ) → take bytes (buffer_by ρ s at (Ok (rewritten_with bytes next)) old) ≡ text_at ρ s at
  done_front old = (over_front old (text_at ρ s at) bytes done_text).0

  pub done_keeps_rest : (old : List ℕ) → drop bytes (buffer_by ρ s at (Ok (rewritten_with bytes next)) old) ≡ drop bytes old
  done_keeps_rest old = (over_front old (text_at ρ s at) bytes done_text).1

  -- as many cells as the counts say
  pub done_cells : length (cells_at ρ s at) ≡ record_cells ρ (counts_at ρ s at)
  done_cells = whole_length ρ s at next d.roomy.placed done_all

  -- R324: they stand at the table's front, and what stands behind them stays
  pub done_table_holds : (old : List ℤ) → take (record_cells ρ (counts_at ρ s at)) (table_after ρ s at (Ok (rewritten_with bytes next)) old) ≡ cells_at ρ s at
  done_table_holds old = (over_front old (cells_at ρ s at) (record_cells ρ (counts_at ρ s at)) done_cells).0

  pub done_table_keeps_rest : (old : List ℤ)
      → drop (record_cells ρ (counts_at ρ s at)) (table_after ρ s at (Ok (rewritten_with bytes next)) old) ≡ drop (record_cells ρ (counts_at ρ s at)) old
  done_table_keeps_rest old = (over_front old (cells_at ρ s at) (record_cells ρ (counts_at ρ s at)) done_cells).1

  -- a record has 242 bytes at least
  pub done_further : at + 242 ≤ next
  done_further = located_long ρ s at next (counts_at ρ s at) (is_placed_lem ρ s at next d.roomy.placed).located_at

  pub done_inside : next ≤ length s
  done_inside = located_range ρ s at next (counts_at ρ s at) (is_placed_lem ρ s at next d.roomy.placed).located_at

-- ---- numbered

module _ (ρ : Rules) (s : List ℕ) (at cells room : ℕ) where
  refusal_numbered : (g : ℕ) (r : Refusal) → RefusedFor ρ s at cells room g r → NumberedWith rewriting_row g (refusal_reply r)
  refusal_numbered g r (unplaced q d) = refused_numbered_with ρ s at cells rewriting_row 0 q (WholeIs.unplaced q d)
  refusal_numbered g r (broken_rule h n d) = refused_numbered_with ρ s at cells rewriting_row 0 _ (WholeIs.broken_rule h n d)
  refusal_numbered g r (no_room d) = inl (refl, inr (at_row 7 (rows before_refusals) (refusal_reply NoRoom) (lit< tt) (refusal_fills NoRoom tt)))
  refusal_numbered g r (unread h q d) =
      refused_numbered_with ρ s at cells rewriting_row h q
      (WholeIs.unread h q record { roomy = record { next = d.next; placed = d.roomy.placed; enough = d.roomy.cells_fit }; first = d.first })

  due_numbered : (r : Result Rewritten Unread) → Due ρ s at cells room r → rewriting_of ρ s at cells room ≡ r → NumberedWith rewriting_row (rewriting_group r) (rewriting_reply r)
  due_numbered (Ok w) d e =
      let further = done_further ρ s at cells room w.bytes w.next e in
      inl (refl, inl (fills 0 ((nextPlace, w.next) ∷ (textBytes, w.bytes) ∷ []) (omega (arith, further), (omega (arith, d.written, record_some ρ (counts_at ρ s at)), tt))))
  due_numbered (Err u) d e = refusal_numbered u.group u.why d

  -- the group number is 0 beside 0, what placing refuses with and 11, and one of 1 to 60 beside 8, 9 and 10
  pub rewriting_numbered : NumberedWith rewriting_row (rewriting_group (rewriting_of ρ s at cells room)) (rewriting_reply (rewriting_of ρ s at cells room))
  rewriting_numbered = due_numbered (rewriting_of ρ s at cells room) ((first_due ρ s at cells room (rewriting_of ρ s at cells room)).0 refl) refl
