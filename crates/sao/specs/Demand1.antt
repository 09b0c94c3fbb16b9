-- The first demand, D1: a question always has an answer.
-- D1.1: each question takes whatever text, place, number and table there is. D1.2: it ends, and gives one of the replies R200 to R217 and R222.
-- D1.3: so nothing needs to be tested before asking. D1.4: a refused read leaves each cell of the lent table as it was. D1.5: a refused write
-- leaves each byte of the output as it was.
--
-- D1.1, D1.3 and that a question ends are what the gate proves of each function, none of which has a `requires`. s is a text, out an output; a
-- reply is refused where its number is not 0.
use Rattle.std.specs.Prelude.{◌≡◌, List, ℕ, ℤ, length, drop}
use Rattle.rules.specs.declared.Rules.{Rules}
use Rattle.reply.specs.declared.Reply.{Reply}
use Rattle.reply.specs.Table.{Numbered}
use Rattle.decimal.specs.Writing.{put_bytes}
use Rattle.count.specs.Tally.{record_cells}
use Rattle.place.specs.Placing.{placing_of, counts_at, Carried}
use Rattle.place.specs.Numbered.{placing_reply, placing_rows}
use Rattle.reading.specs.Read.{reading_of, table_by}
use Rattle.reading.specs.Numbered.{reading_rows}
use Rattle.reply.specs.Refusals.{checked_reply, answer_reply}
use Rattle.group.specs.Text.{read_at}
use Rattle.group.specs.Held.{found_at}
use Rattle.group.specs.Numbered.{found_rows, characteristic_reply, characteristic_rows}
use Rattle.group.specs.Characteristics.{characteristic_at}
use Rattle.view.specs.Numbered.{lines_rows, group_rows, told_rows}
use Rattle.view.specs.With.{found_with, read_with, characteristic_with}
use Rattle.listing.specs.Listing.{listing, listed_in}
use Rattle.listing.specs.Numbered.{listing_rows}
use Rattle.writing.specs.Writing.{writing_of, output_by}
use Rattle.writing.specs.Numbered.{writing_rows}
use Rattle.date.specs.declared.Date.{Date}
use Rattle.since.specs.Numbered.{first_reply, place_told, passed_told, NumberedApart}
use Rattle.since.specs.Since.{first_from}
use Rattle.salvaging.specs.Numbered.{stretch_reply, stretch_rows}
use Rattle.salvaging.specs.Stretch.{stretch_of}
use Rattle.whole.specs.Numbered.{record_reply, group_told, NumberedWith, whole_row}
use Rattle.whole.specs.Whole.{whole_read, record_read_of}
use Rattle.rewriting.specs.Record.{rewriting_of, buffer_by, table_after}
use Rattle.rewriting.specs.Numbered.{rewriting_reply, rewriting_group, rewriting_row}
use Rattle.journal.specs.Model.{Call}
use Rattle.journal.specs.Calls.{answer_of, used_by, cells_after, journal_by}
use Rattle.journal.specs.Plays.{replay_of, replayed_open, replayed_cells}
use Rattle.journal.specs.Numbered.{edit_reply, call_rows, replay_rows}
use Rattle.sao.specs.Numbers.{AnswersTold}

-- done is 0, refused is anything else
abbrev pub NotDone : Reply → Type 0
NotDone r = r.number ≡ 0 → ⊥

module _ (ρ : Rules) where
  -- D1.2: the reply fills a row of the question's own table, with each number that the row names and 0 for the others (R230)
  pub record EndsNumbered : Type 0 where
    -- which number each answer has, in figures
    pub told : AnswersTold
    pub placing : (s : List ℕ) (at : ℕ) → Numbered placing_rows (placing_reply (placing_of ρ s at))
    pub reading : (s : List ℕ) (at g room : ℕ) → Numbered reading_rows (answer_reply (reading_of (read_at ρ s at g room)))
    pub lines : (s : List ℕ) (at g : ℕ) → Numbered found_rows (checked_reply (found_at ρ s at g))
    pub characteristic : (s : List ℕ) (at k : ℕ) → Numbered characteristic_rows (characteristic_reply (characteristic_at ρ s at k))
    -- R285, R297: the same questions with a record r, whichever it is
    pub record_reading : (s : List ℕ) (r : Carried) (g room : ℕ) → Numbered group_rows (answer_reply (reading_of (read_with ρ s r g room)))
    pub record_lines : (s : List ℕ) (r : Carried) (g : ℕ) → Numbered lines_rows (checked_reply (found_with ρ s r g))
    pub record_characteristic : (s : List ℕ) (r : Carried) (k : ℕ) → Numbered told_rows (characteristic_reply (characteristic_with ρ s r k))
    pub writing : (ns : List ℕ) (cs : List ℤ) (room : ℕ) → Numbered writing_rows (answer_reply (writing_of ρ ns cs room))
    pub listed : (s : List ℕ) (room : ℕ) → Numbered listing_rows (answer_reply (listed_in (listing ρ s) room))
    -- R272, R323: and the group that is told apart from the reply, one of 1 to 60 beside 8, 9 and 10, 0 beside all others
    pub whole : (s : List ℕ) (at room : ℕ) → NumberedWith whole_row (group_told (record_read_of (whole_read ρ s at room))) (record_reply (record_read_of (whole_read ρ s at room)))
    pub rewriting : (s : List ℕ) (at cells room : ℕ) → NumberedWith rewriting_row (rewriting_group (rewriting_of ρ s at cells room)) (rewriting_reply (rewriting_of ρ s at cells room))
    -- R335: and the place and the records passed, told apart too: the place is 0 beside every refusal, the records passed are 0 beside 10
    pub first : (s : List ℕ) (from : Date) → NumberedApart (place_told (first_from ρ s from)) (passed_told (first_from ρ s from)) (first_reply (first_from ρ s from))
    pub stretch : (s : List ℕ) (at : ℕ) → Numbered stretch_rows (stretch_reply (stretch_of ρ s at))
    -- R550, R540: the calls of the edit journal, and a replay
    pub call : (ns j : List ℕ) (used cells : ℕ) (c : Call) → Numbered (call_rows c) (edit_reply (answer_of ρ ns j used cells c))
    pub replay : (ns j : List ℕ) (used : ℕ) (cs : List ℤ) → Numbered replay_rows (checked_reply (replay_of ρ ns j used cs))

  -- D1.4: after a refused read the table is what it was: a group, by place or with a record (R267); a whole record (R276), also for rewriting it
  -- (R326)
  pub record RefusedReadKeeps : Type 0 where
    pub reading : (s : List ℕ) (at g : ℕ) (table : List ℤ) → NotDone (answer_reply (reading_of (read_at ρ s at g (length table)))) → table_by (read_at ρ s at g (length table)) table ≡ table
    pub record_reading : (s : List ℕ) (r : Carried) (g : ℕ) (table : List ℤ) → NotDone (answer_reply (reading_of (read_with ρ s r g (length table))))
        → table_by (read_with ρ s r g (length table)) table ≡ table
    pub whole : (s : List ℕ) (at : ℕ) (table : List ℤ) → NotDone (record_reply (record_read_of (whole_read ρ s at (length table)))) → table_by (whole_read ρ s at (length table)) table ≡ table
    pub rewriting : (s : List ℕ) (at room : ℕ) (table : List ℤ) → NotDone (rewriting_reply (rewriting_of ρ s at (length table) room))
        → table_after ρ s at (rewriting_of ρ s at (length table) room) table ≡ table

  -- D1.5: after a refused write the output is what it was: writing a record (R307), listing a text (R311), rewriting a record (R325)
  pub record RefusedWriteKeeps : Type 0 where
    pub writing : (ns : List ℕ) (cs : List ℤ) (out : List ℕ) → NotDone (answer_reply (writing_of ρ ns cs (length out))) → output_by ρ ns cs (writing_of ρ ns cs (length out)) out ≡ out
    pub listed : (s out : List ℕ) → NotDone (answer_reply (listed_in (listing ρ s) (length out))) → put_bytes 0 (listing ρ s) out ≡ out
    pub rewriting : (s : List ℕ) (at cells : ℕ) (out : List ℕ) → NotDone (rewriting_reply (rewriting_of ρ s at cells (length out))) → buffer_by ρ s at (rewriting_of ρ s at cells (length out)) out ≡ out

  -- D1.4, D1.5: after a refused call, cells, journal and bytes used are what they were (R518); after a refused replay the cells are, and no
  -- savepoint is told (R542)
  pub record RefusedEditKeeps : Type 0 where
    pub cells : (ns j : List ℕ) (used : ℕ) (c : Call) (cs : List ℤ)
        → NotDone (edit_reply (answer_of ρ ns j used (length cs) c))
        → cells_after ρ ns j used c cs (answer_of ρ ns j used (length cs) c) ≡ cs
    pub journal : (ns j : List ℕ) (used : ℕ) (c : Call) (cs : List ℤ)
        → NotDone (edit_reply (answer_of ρ ns j used (length cs) c))
        → journal_by ρ ns j used c cs (answer_of ρ ns j used (length cs) c) ≡ j
    pub used : (ns j : List ℕ) (n : ℕ) (c : Call) (cs : List ℤ)
        → NotDone (edit_reply (answer_of ρ ns j n (length cs) c))
        → used_by n c (answer_of ρ ns j n (length cs) c) ≡ n
    pub replay : (ns j : List ℕ) (used : ℕ) (cs : List ℤ)
        → NotDone (checked_reply (replay_of ρ ns j used cs))
        → (replayed_cells ρ ns j used cs (replay_of ρ ns j used cs) ≡ cs) × (replayed_open ρ ns j used cs (replay_of ρ ns j used cs) ≡ 0)

  -- R266, R275, R306, R311, R324: what stands behind the cells or bytes that were written stays as it was
  pub record KeepsRest : Type 0 where
    pub reading : (s : List ℕ) (at g : ℕ) (table : List ℤ)
        → drop (answer_reply (reading_of (read_at ρ s at g (length table)))).written (table_by (read_at ρ s at g (length table)) table)
        ≡ drop (answer_reply (reading_of (read_at ρ s at g (length table)))).written table
    pub record_reading : (s : List ℕ) (r : Carried) (g : ℕ) (table : List ℤ)
        → drop (answer_reply (reading_of (read_with ρ s r g (length table)))).written (table_by (read_with ρ s r g (length table)) table)
        ≡ drop (answer_reply (reading_of (read_with ρ s r g (length table)))).written table
    pub whole : (s : List ℕ) (at : ℕ) (table : List ℤ)
        → drop (record_reply (record_read_of (whole_read ρ s at (length table)))).written (table_by (whole_read ρ s at (length table)) table)
        ≡ drop (record_reply (record_read_of (whole_read ρ s at (length table)))).written table
    pub writing : (ns : List ℕ) (cs : List ℤ) (out : List ℕ)
        → drop (answer_reply (writing_of ρ ns cs (length out))).written (output_by ρ ns cs (writing_of ρ ns cs (length out)) out)
        ≡ drop (answer_reply (writing_of ρ ns cs (length out))).written out
    pub listed : (s out : List ℕ)
        → drop (answer_reply (listed_in (listing ρ s) (length out))).written (put_bytes 0 (listing ρ s) out)
        ≡ drop (answer_reply (listed_in (listing ρ s) (length out))).written out
    pub rewriting : (s : List ℕ) (at cells : ℕ) (out : List ℕ)
        → drop (rewriting_reply (rewriting_of ρ s at cells (length out))).written (buffer_by ρ s at (rewriting_of ρ s at cells (length out)) out)
        ≡ drop (rewriting_reply (rewriting_of ρ s at cells (length out))).written out
    -- behind the record's cells, of which rewriting's reply has no number
    pub rewriting_table : (s : List ℕ) (at room : ℕ) (table : List ℤ)
        → drop (record_cells ρ (counts_at ρ s at)) (table_after ρ s at (rewriting_of ρ s at (length table) room) table) ≡ drop (record_cells ρ (counts_at ρ s at)) table

  pub record Demand1 : Type 0 where
    pub numbered : EndsNumbered
    pub refused_read : RefusedReadKeeps
    pub refused_write : RefusedWriteKeeps
    pub refused_edit : RefusedEditKeeps
    pub rest : KeepsRest
