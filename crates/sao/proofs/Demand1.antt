-- D1, the first demand (specs/Demand1.antt).
-- Assumes nothing.
use Rattle.std.specs.Prelude.{Result, Ok, Err}
use mathlib.Core.Path.{◌≡◌, refl, ap}
use mathlib.Core.List.{List}
use Prim.Native.Nat.{ℕ}
use lib.IntN.{ℤ}
use lib.ListN.{length, drop}
use Rattle.rules.specs.declared.Rules.{Rules}
use Rattle.base.specs.Pieces.{done, bad}
use Rattle.decimal.specs.Writing.{put_bytes}
use Rattle.reply.specs.Refusals.{refusal_reply, checked_reply, answer_reply}
use Rattle.place.proofs.Numbered.{placing_numbered}
use Rattle.reading.specs.Read.{Cells, reading_of, table_by}
use Rattle.reading.proofs.Promises.{refused_read_keeps, done_read_keeps_rest}
use Rattle.group.specs.Text.{read_at}
use Rattle.group.proofs.Numbered.{reading_numbered, found_numbered, characteristic_numbered}
use Rattle.view.specs.With.{read_with}
use Rattle.view.proofs.Numbered as WithRecord
use Rattle.view.proofs.Numbered.{group_numbered, lines_numbered}
use Rattle.listing.specs.Listing.{listing, listed_in}
use Rattle.listing.proofs.Replies.{listed_numbered, listed_keeps, listed_rest}
use Rattle.writing.specs.Writing.{writing_of, output_by}
use Rattle.writing.proofs.Promises.{writing_numbered, refused_write_keeps, done_write_keeps_rest}
use Rattle.rewriting.specs.declared.Rewritten.{Rewritten}
use Rattle.whole.specs.declared.Unread.{Unread}
use Rattle.rewriting.specs.Numbered.{rewriting_reply}
use Rattle.rewriting.specs.Record.{rewriting_of, buffer_by, table_after}
use Rattle.rewriting.proofs.Promises.{rewriting_numbered, refused_rewriting_keeps, refused_keeps_table, done_keeps_rest, done_table_keeps_rest}
use Rattle.count.specs.Tally.{record_cells}
use Rattle.place.specs.Placing.{counts_at}
use Rattle.whole.specs.Whole.{whole_read}
use Rattle.whole.proofs.Promises.{whole_numbered, refused_record_keeps, record_keeps_rest}
use Rattle.since.proofs.Promises.{first_numbered}
use Rattle.salvaging.proofs.Due.{stretch_numbered}
use Rattle.journal.specs.Model.{Call}
use Rattle.journal.specs.Calls.{answer_of, used_by, cells_after, journal_by}
use Rattle.journal.specs.Plays.{replay_of, replayed_open, replayed_cells}
use Rattle.journal.specs.Numbered.{edit_reply}
use Rattle.journal.proofs.Numbered.{call_numbered, replay_numbered}
use Rattle.sao.proofs.Numbers.{answers_told}
use Rattle.sao.specs.Demand1.{NotDone, EndsNumbered, RefusedWriteKeeps, RefusedEditKeeps, KeepsRest, Demand1}
use Rattle.reply.specs.declared.Refusal.{Refusal}

ends_numbered : (ρ : Rules) → EndsNumbered ρ
ends_numbered ρ =
    record {
      told = answers_told;
      placing = placing_numbered ρ;
      reading = reading_numbered ρ;
      lines = found_numbered ρ;
      characteristic = characteristic_numbered ρ;
      record_reading = λ s r g room. group_numbered ρ s r g room;
      record_lines = λ s r g. lines_numbered ρ s r g;
      record_characteristic = λ s r k. WithRecord.characteristic_numbered ρ s r k;
      writing = writing_numbered ρ;
      listed = listed_numbered ρ;
      whole = whole_numbered ρ;
      rewriting = rewriting_numbered ρ;
      first = first_numbered ρ;
      stretch = stretch_numbered ρ;
      call = call_numbered ρ;
      replay = replay_numbered ρ;
    }

listing_keeps : (ρ : Rules) (s out : List ℕ) → NotDone (answer_reply (listed_in (listing ρ s) (length out))) → put_bytes 0 (listing ρ s) out ≡ out
listing_keeps ρ s out refused = by (listed_in (listing ρ s) (length out)) refl refused
  where
    by : (r : Result ℕ Refusal) → listed_in (listing ρ s) (length out) ≡ r → NotDone (answer_reply r) → put_bytes 0 (listing ρ s) out ≡ out
    by (Ok n) e h = absurd (h refl)
    by (Err r) e h = listed_keeps (listing ρ s) out r e

write_keeps : (ρ : Rules) → RefusedWriteKeeps ρ
write_keeps ρ =
    record {
      writing = λ ns cs out. refused_write_keeps ρ ns cs (writing_of ρ ns cs (length out)) out;
      listed = listing_keeps ρ;
      rewriting = λ s at cells out. refused_rewriting_keeps ρ s at (rewriting_of ρ s at cells (length out)) out;
    }

edit_keeps : (ρ : Rules) → RefusedEditKeeps ρ
edit_keeps ρ =
    record {
      cells = λ ns j used c cs n. cells_kept ns j used c cs (answer_of ρ ns j used (length cs) c) n;
      journal = λ ns j used c cs n. journal_kept ns j used c cs (answer_of ρ ns j used (length cs) c) n;
      used = λ ns j used c cs n. used_kept used c (answer_of ρ ns j used (length cs) c) n;
      replay = λ ns j used cs n. replay_kept ns j used cs (replay_of ρ ns j used cs) n;
    }
  where
    cells_kept : (ns j : List ℕ) (used : ℕ) (c : Call) (cs : List ℤ) (a : Result ℕ Refusal) → NotDone (edit_reply a) → cells_after ρ ns j used c cs a ≡ cs
    cells_kept ns j used c cs (Ok k) n = absurd (n refl)
    cells_kept ns j used c cs (Err r) n = refl

    journal_kept : (ns j : List ℕ) (used : ℕ) (c : Call) (cs : List ℤ) (a : Result ℕ Refusal) → NotDone (edit_reply a) → journal_by ρ ns j used c cs a ≡ j
    journal_kept ns j used c cs (Ok k) n = absurd (n refl)
    journal_kept ns j used c cs (Err r) n = refl

    used_kept : (used : ℕ) (c : Call) (a : Result ℕ Refusal) → NotDone (edit_reply a) → used_by used c a ≡ used
    used_kept used c (Ok k) n = absurd (n refl)
    used_kept used c (Err r) n = refl

    replay_kept : (ns j : List ℕ) (used : ℕ) (cs : List ℤ) (a : Result (Unit {0}) Refusal) → NotDone (checked_reply a) → (replayed_cells ρ ns j used cs a ≡ cs) × (replayed_open ρ ns j used cs a ≡ 0)
    replay_kept ns j used cs (Ok _) n = absurd (n refl)
    replay_kept ns j used cs (Err r) n = (refl, refl)

read_rest : (c : Cells) (table : List ℤ) → drop (answer_reply (reading_of c)).written (table_by c table) ≡ drop (answer_reply (reading_of c)).written table
read_rest (done cs) table = done_read_keeps_rest (done cs) table (length cs) refl
read_rest (bad r) table = refl

write_rest : (ρ : Rules) (ns : List ℕ) (cs : List ℤ) (out : List ℕ) (w : Result ℕ Refusal) → writing_of ρ ns cs (length out) ≡ w
    → drop (answer_reply w).written (output_by ρ ns cs w out) ≡ drop (answer_reply w).written out
write_rest ρ ns cs out (Ok n) e = done_write_keeps_rest ρ ns cs out n e
write_rest ρ ns cs out (Err r) e = refl

list_rest : (ρ : Rules) (s out : List ℕ) (r : Result ℕ Refusal) → listed_in (listing ρ s) (length out) ≡ r → drop (answer_reply r).written (put_bytes 0 (listing ρ s) out) ≡ drop (answer_reply r).written out
list_rest ρ s out (Ok n) e = listed_rest (listing ρ s) out n e
list_rest ρ s out (Err r) e = ap (drop (refusal_reply r).written) (listed_keeps (listing ρ s) out r e)

rewrite_rest : (ρ : Rules) (s : List ℕ) (at cells : ℕ) (out : List ℕ) (r : Result Rewritten Unread) → rewriting_of ρ s at cells (length out) ≡ r
    → drop (rewriting_reply r).written (buffer_by ρ s at r out) ≡ drop (rewriting_reply r).written out
rewrite_rest ρ s at cells out (Ok w) e = done_keeps_rest ρ s at cells (length out) w.bytes w.next e out
rewrite_rest ρ s at cells out (Err u) e = refl

rewrite_table_rest : (ρ : Rules) (s : List ℕ) (at room : ℕ) (table : List ℤ) (r : Result Rewritten Unread) → rewriting_of ρ s at (length table) room ≡ r
    → drop (record_cells ρ (counts_at ρ s at)) (table_after ρ s at r table) ≡ drop (record_cells ρ (counts_at ρ s at)) table
rewrite_table_rest ρ s at room table (Ok w) e = done_table_keeps_rest ρ s at (length table) room w.bytes w.next e table
rewrite_table_rest ρ s at room table (Err u) e = refl

keeps_rest : (ρ : Rules) → KeepsRest ρ
keeps_rest ρ =
    record {
      reading = λ s at g table. read_rest (read_at ρ s at g (length table)) table;
      record_reading = λ s r g table. read_rest (read_with ρ s r g (length table)) table;
      whole = λ s at table. record_keeps_rest (whole_read ρ s at (length table)) table;
      writing = λ ns cs out. write_rest ρ ns cs out (writing_of ρ ns cs (length out)) refl;
      listed = λ s out. list_rest ρ s out (listed_in (listing ρ s) (length out)) refl;
      rewriting = λ s at cells out. rewrite_rest ρ s at cells out (rewriting_of ρ s at cells (length out)) refl;
      rewriting_table = λ s at room table. rewrite_table_rest ρ s at room table (rewriting_of ρ s at (length table) room) refl;
    }

pub demand_1 : (ρ : Rules) → Demand1 ρ
demand_1 ρ =
    record {
      numbered = ends_numbered ρ;
      refused_read = record {
        reading = λ s at g table. refused_read_keeps (read_at ρ s at g (length table)) table;
        record_reading = λ s r g table. refused_read_keeps (read_with ρ s r g (length table)) table;
        whole = λ s at table. refused_record_keeps (whole_read ρ s at (length table)) table;
        rewriting = λ s at room table. refused_keeps_table ρ s at (rewriting_of ρ s at (length table) room) table;
      };
      refused_write = write_keeps ρ;
      refused_edit = edit_keeps ρ;
      rest = keeps_rest ρ;
    }
