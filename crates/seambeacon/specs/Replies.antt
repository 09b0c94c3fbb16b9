-- R200 to R217 and R222: each question's reply, from the rules (R12) and what is asked: the layers' answers as replies.
use Rattle.std.specs.Prelude.{List, ℕ, ℤ, length, Result}
use Rattle.rules.specs.declared.Rules.{Rules}
use Rattle.reply.specs.declared.Reply.{Reply}
use Rattle.reply.specs.Refusals.{checked_reply, answer_reply}
use Rattle.place.specs.Placing.{placing_of, Carried}
use Rattle.place.specs.Numbered.{placing_reply}
use Rattle.reading.specs.Read.{reading_of}
use Rattle.group.specs.Text.{read_at}
use Rattle.group.specs.Held.{found_at}
use Rattle.group.specs.Characteristics.{characteristic_at}
use Rattle.group.specs.Numbered.{characteristic_reply}
use Rattle.view.specs.With.{found_with, read_with, characteristic_with}
use Rattle.whole.specs.Numbered.{record_reply}
use Rattle.whole.specs.Whole.{whole_read, record_read_of}
use Rattle.date.specs.declared.Date.{Date}
use Rattle.since.specs.Numbered.{first_reply}
use Rattle.since.specs.Since.{first_from}
use Rattle.salvaging.specs.Numbered.{stretch_reply}
use Rattle.salvaging.specs.Stretch.{stretch_of}
use Rattle.writing.specs.Writing.{writing_of}
use Rattle.rewriting.specs.Record.{rewriting_of}
use Rattle.rewriting.specs.Numbered.{rewriting_reply}
use Rattle.journal.specs.Model.{Call}
use Rattle.journal.specs.Calls.{answer_of}
use Rattle.listing.specs.Listing.{listing, listed_in}
use Rattle.reply.specs.declared.Refusal.{Refusal}

abbrev pub place_reply : Rules → List ℕ → ℕ → Reply
place_reply ρ s at = placing_reply (placing_of ρ s at)

-- into a table of so many cells
abbrev pub read_reply : Rules → List ℕ → ℕ → ℕ → ℕ → Reply
read_reply ρ s at g cells = answer_reply (reading_of (read_at ρ s at g cells))

abbrev pub lines_reply : Rules → List ℕ → ℕ → ℕ → Reply
lines_reply ρ s at g = checked_reply (found_at ρ s at g)

abbrev pub characteristic_reply_at : Rules → List ℕ → ℕ → ℕ → Reply
characteristic_reply_at ρ s at k = characteristic_reply (characteristic_at ρ s at k)

-- the same with a record
abbrev pub record_group_reply : Rules → List ℕ → Carried → ℕ → ℕ → Reply
record_group_reply ρ s r g cells = answer_reply (reading_of (read_with ρ s r g cells))

abbrev pub record_lines_reply : Rules → List ℕ → Carried → ℕ → Reply
record_lines_reply ρ s r g = checked_reply (found_with ρ s r g)

abbrev pub record_characteristic_reply : Rules → List ℕ → Carried → ℕ → Reply
record_characteristic_reply ρ s r k = characteristic_reply (characteristic_with ρ s r k)

-- the whole record, into a table of so many cells
abbrev pub whole_reply : Rules → List ℕ → ℕ → ℕ → Reply
whole_reply ρ s at cells = record_reply (record_read_of (whole_read ρ s at cells))

-- the first record from a date on
abbrev pub first_from_reply : Rules → List ℕ → Date → Reply
first_from_reply ρ s from = first_reply (first_from ρ s from)

-- the end of the stretch that begins at a place
abbrev pub stretch_end_reply : Rules → List ℕ → ℕ → Reply
stretch_end_reply ρ s at = stretch_reply (stretch_of ρ s at)

-- into an output of so many bytes
abbrev pub write_reply : Rules → List ℕ → List ℤ → ℕ → Reply
write_reply ρ ns cs room = answer_reply (writing_of ρ ns cs room)

abbrev pub list_reply : Rules → List ℕ → ℕ → Reply
list_reply ρ s room = answer_reply (listed_in (listing ρ s) room)

-- with a table of so many cells, into an output of so many bytes
abbrev pub rewrite_reply : Rules → List ℕ → ℕ → ℕ → ℕ → Reply
rewrite_reply ρ s at cells room = rewriting_reply (rewriting_of ρ s at cells room)

-- what a call of the edit journal answers, on these cells
abbrev pub call_answer : Rules → List ℕ → List ℕ → ℕ → List ℤ → Call → Result ℕ Refusal
call_answer ρ ns j used cs c = answer_of ρ ns j used (length cs) c
