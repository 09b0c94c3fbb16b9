-- R200 to R217 and R222 in figures: what number each answer has, and which numbers stand beside it. The Dues of the second demand say when an
-- answer is given; here stands what is told.
use Rattle.std.specs.Prelude.{◌≡◌, List, ℕ, ℤ, length, Ok, Err}
use Rattle.base.specs.Pieces.{done, bad}
use Rattle.reply.specs.declared.Refusal.{Refusal}
use Rattle.reply.specs.declared.Refusal.TheVariants.{End, Beyond, TooFewLines, Misformed, OtherRelease, FilledVacant, BrokenRule, BadLine, BadField, BadDate}
use Rattle.reply.specs.declared.Refusal.TheVariants.{NoRoom, NoSuchNumber, NoField, OtherLength, NotOpen, AllOpen, BadEntry, BadPart}
use Rattle.reply.specs.declared.Reply.{Reply}
use Rattle.reply.specs.Refusals.{refusal_reply, checked_reply, answer_reply}
use Rattle.place.specs.declared.Placing.TheVariants as P
use Rattle.place.specs.Numbered.{placing_reply}
use Rattle.reading.specs.Read.{reading_of}
use Rattle.group.specs.declared.Characteristic.TheVariants.{Value, NoReading, NotReported, Refused}
use Rattle.group.specs.Numbered.{characteristic_reply}
use Rattle.whole.specs.Numbered.{record_reply, group_told}
use Rattle.since.specs.Numbered.{first_reply, place_told, passed_told}
use Rattle.salvaging.specs.Numbered.{stretch_reply}
use Rattle.journal.specs.Numbered.{edit_reply}
use Rattle.rewriting.specs.Numbered.{rewriting_reply, rewriting_group}

-- a reply: its number, and beside it the next place, what was written, group, line, element, position, savepoint, place of a journal's field
abbrev pub figures : (number next written group line element position savepoint place : ℕ) → Reply
figures number next written group line element position savepoint place =
    record {
      number = number;
      next = next;
      written = written;
      group = group;
      line = line;
      element = element;
      position = position;
      savepoint = savepoint;
      place = place;
    }

-- a refusal, whichever question it is
pub record RefusalTold : Type 0 where
  pub text_end : refusal_reply End ≡ figures 1 0 0 0 0 0 0 0 0
  pub beyond : refusal_reply Beyond ≡ figures 2 0 0 0 0 0 0 0 0
  pub too_few_lines : refusal_reply TooFewLines ≡ figures 3 0 0 0 0 0 0 0 0
  pub misformed : refusal_reply Misformed ≡ figures 4 0 0 0 0 0 0 0 0
  pub other_release : refusal_reply OtherRelease ≡ figures 5 0 0 0 0 0 0 0 0
  pub filled_vacant : (g : ℕ) → refusal_reply (FilledVacant g) ≡ figures 6 0 0 g 0 0 0 0 0
  pub broken_rule : (g : ℕ) → refusal_reply (BrokenRule g) ≡ figures 7 0 0 g 0 0 0 0 0
  pub bad_line : (l : ℕ) → refusal_reply (BadLine l) ≡ figures 8 0 0 0 l 0 0 0 0
  pub bad_field : (l e : ℕ) → refusal_reply (BadField l e) ≡ figures 9 0 0 0 l e 0 0 0
  pub bad_date : (p : ℕ) → refusal_reply (BadDate p) ≡ figures 10 0 0 0 0 0 p 0 0
  pub no_room : refusal_reply NoRoom ≡ figures 11 0 0 0 0 0 0 0 0
  pub no_such_number : refusal_reply NoSuchNumber ≡ figures 12 0 0 0 0 0 0 0 0
  pub no_field : (g e : ℕ) → refusal_reply (NoField g e) ≡ figures 13 0 0 g 0 e 0 0 0
  pub other_length : refusal_reply OtherLength ≡ figures 14 0 0 0 0 0 0 0 0
  pub not_open : refusal_reply NotOpen ≡ figures 15 0 0 0 0 0 0 0 0
  pub all_open : refusal_reply AllOpen ≡ figures 16 0 0 0 0 0 0 0 0
  pub bad_entry : (p : ℕ) → refusal_reply (BadEntry p) ≡ figures 17 0 0 0 0 0 0 0 p
  pub bad_part : refusal_reply BadPart ≡ figures 22 0 0 0 0 0 0 0 0

-- R235: placing's 7 has a next place
pub record PlacingTold : Type 0 where
  pub placed : (n : ℕ) → placing_reply (P.Placed n) ≡ figures 0 n 0 0 0 0 0 0 0
  pub broken_rule : (g n : ℕ) → placing_reply (P.BrokenRule g n) ≡ figures 7 n 0 g 0 0 0 0 0
  pub refused : (r : Refusal) → placing_reply (P.Refused r) ≡ refusal_reply r

-- R200, R281, R290: reading, a group's lines, a characteristic: 0 with its own, else the refusal
pub record GroupTold : Type 0 where
  pub read : (cs : List ℤ) → answer_reply (reading_of (done cs)) ≡ figures 0 0 (length cs) 0 0 0 0 0 0
  pub read_refused : (r : Refusal) → answer_reply (reading_of (bad r)) ≡ refusal_reply r
  pub given : checked_reply (Ok tt) ≡ figures 0 0 0 0 0 0 0 0 0
  pub lines_refused : (r : Refusal) → checked_reply (Err r) ≡ refusal_reply r
  pub value : (z : ℤ) → characteristic_reply (Value z) ≡ figures 0 0 0 0 0 0 0 0 0
  pub no_reading : characteristic_reply NoReading ≡ figures 0 0 0 0 0 0 0 0 0
  pub not_reported : characteristic_reply NotReported ≡ figures 0 0 0 0 0 0 0 0 0
  pub characteristic_refused : (r : Refusal) → characteristic_reply (Refused r) ≡ refusal_reply r

-- R272: a whole record, with the group that was being read apart
pub record WholeTold : Type 0 where
  pub read : (n : ℕ) → (record_reply (Ok n) ≡ figures 0 0 n 0 0 0 0 0 0) × (group_told (Ok n) ≡ 0)
  pub refused : (g : ℕ) (r : Refusal) → (record_reply (Err (record { group = g; why = r })) ≡ refusal_reply r) × (group_told {T = ℕ} (Err (record { group = g; why = r })) ≡ g)

-- R334, R335: the first record from a date on, with its place and the records that were passed apart
pub record FirstTold : Type 0 where
  pub found : (p k : ℕ) → (first_reply (Ok (record { place = p; passed = k })) ≡ figures 0 0 0 0 0 0 0 0 0) × (place_told (Ok (record { place = p; passed = k })) ≡ p) × (passed_told (Ok (record { place = p; passed = k })) ≡ k)
  pub refused : (k : ℕ) (r : Refusal) → (first_reply (Err (record { passed = k; why = r })) ≡ refusal_reply r) × (place_told (Err (record { passed = k; why = r })) ≡ 0) × (passed_told (Err (record { passed = k; why = r })) ≡ k)

-- R352: the end of a stretch, as the next place
pub record StretchTold : Type 0 where
  pub ends : (p : ℕ) → stretch_reply (Ok p) ≡ figures 0 p 0 0 0 0 0 0 0
  pub refused : (r : Refusal) → stretch_reply (Err r) ≡ refusal_reply r

-- R300, R310: writing and listing; R323: and rewriting, with the group that was being read apart
pub record TextTold : Type 0 where
  pub written : (n : ℕ) → answer_reply (Ok n) ≡ figures 0 0 n 0 0 0 0 0 0
  pub write_refused : (r : Refusal) → answer_reply (Err r) ≡ refusal_reply r
  pub rewritten : (n p : ℕ) → (rewriting_reply (Ok (record { bytes = n; next = p })) ≡ figures 0 p n 0 0 0 0 0 0) × (rewriting_group (Ok (record { bytes = n; next = p })) ≡ 0)
  pub rewrite_refused : (g : ℕ) (r : Refusal) → (rewriting_reply (Err (record { group = g; why = r })) ≡ refusal_reply r) × (rewriting_group (Err (record { group = g; why = r })) ≡ g)

-- R516, R540: the calls of the edit journal, of which an open has the savepoint's number; the bytes used, and a replay's open savepoints, are
-- told apart
pub record JournalTold : Type 0 where
  pub call : (k : ℕ) → edit_reply (Ok k) ≡ figures 0 0 0 0 0 0 0 k 0
  pub call_refused : (r : Refusal) → edit_reply (Err r) ≡ refusal_reply r

pub record AnswersTold : Type 0 where
  pub refusals : RefusalTold
  pub placing : PlacingTold
  pub group : GroupTold
  pub whole : WholeTold
  pub first : FirstTold
  pub stretch : StretchTold
  pub text : TextTold
  pub journal : JournalTold
