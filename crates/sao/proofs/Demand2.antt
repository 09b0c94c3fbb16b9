-- D2, the second demand (specs/Demand2.antt).
-- Assumes nothing.
use Rattle.std.specs.Prelude.{Ok}
use mathlib.Core.Path.{◌≡◌, refl, sym, ◌∙◌, subst}
use mathlib.Core.List.{List, ◌++◌}
use Prim.Native.Nat.{ℕ}
use lib.IntN.{ℤ}
use lib.ListN.{length}
use Rattle.rules.specs.declared.Rules.{Rules}
use Rattle.rules.specs.Choice.{ended}
use Rattle.place.specs.Placing.{counts_at}
use Rattle.place.proofs.Due as PlacingDue
use Rattle.place.proofs.Stopped.{walks}
use Rattle.reading.proofs.Promises.{done_read_holds}
use Rattle.group.proofs.Due as GroupDue
use Rattle.group.proofs.Holding.{span_end}
use Rattle.view.proofs.Due as RecordDue
use Rattle.view.proofs.Placed.{placed_answers}
use Rattle.reply.specs.declared.Refusal.{Refusal}
use Rattle.writing.specs.Canonical.{CanonicalRecord}
use Rattle.writing.specs.RoundTrip.{ReadsBack}
use Rattle.writing.specs.Writing.{writing_of}
use Rattle.writing.proofs.Canonical.{canonical_text}
use Rattle.writing.proofs.Due as WritingDue
use Rattle.writing.proofs.ReadsBack.{done_canonical, done_bytes, reads_back}
use Rattle.writing.proofs.Promises.{done_write_begins}
use Rattle.writing.proofs.ReadWrites.{returns_same}
use Rattle.writing.proofs.SameCounting.{record_text_same, writing_same}
use Rattle.listing.specs.Listing.{listing, IsListing}
use Rattle.listing.proofs.Replies as Listed
use Rattle.whole.specs.Turn.{cells_at}
use Rattle.rewriting.specs.Record.{text_at, rewriting_of, buffer_by, table_after}
use Rattle.rewriting.proofs.Due as RewritingDue
use Rattle.journal.proofs.Due as JournalDue
use Rattle.entry.proofs.Codec.{both_ways}
use Rattle.journal.proofs.Made.{journal_is_stack, adds_field, reads_as, replay_same, goes_on}
use Rattle.journal.proofs.Torn.{torn_calls}
use Rattle.journal.proofs.Reopened.{reopened}
use Rattle.rewriting.proofs.Promises.{done_all, done_writes, done_text, done_front, done_table_holds}
use Rattle.rewriting.proofs.Whole.{whole_read_lem}
use Rattle.date.proofs.Asked.{told_asked}
use Rattle.date.proofs.Order.{seven_exactly, not_before_exactly}
use Rattle.since.proofs.Due as FirstDue
use Rattle.since.proofs.Kept.{stops_there}
use Rattle.since.proofs.Walked.{full_walk}
use Rattle.salvaging.proofs.Confined.{damage_confined}
use Rattle.salvaging.proofs.Copies.{salvages}
use Rattle.salvaging.proofs.Due as StretchDue
use Rattle.salvaging.proofs.Pieces.{salvaged_exactly}
use Rattle.whole.proofs.Due as WholeDue
use Rattle.whole.proofs.InTurn.{as_in_turn}
use Rattle.whole.proofs.Promises.{done_record_holds}
use Rattle.rewriting.proofs.Canonical.{canonical_printed, printed_canonical, printed_again}
use Rattle.rewriting.proofs.Ends.{canonical_records_same}
use Rattle.sao.specs.Demand2.{GivenAsDue, Rewrites, LentHolds, OneCanonical, WrittenReadsBack, Edits, Demand2}

pub as_due : (ρ : Rules) → GivenAsDue ρ
as_due ρ =
    record {
      placing = λ s at. PlacingDue.first_due ρ s at;
      counts = λ s at. PlacingDue.counts_first_due ρ s at;
      places = λ s at. PlacingDue.places_first_due ρ s at;
      walk = walks ρ;
      reading = λ s at g room. GroupDue.first_due ρ s at g room;
      lines = λ s at g. GroupDue.found_first_due ρ s at g;
      part = λ s at g. GroupDue.part_first_due ρ s at g;
      part_end_lem = span_end ρ;
      characteristic = λ s at k. GroupDue.characteristic_first_due ρ s at k;
      record_reading = λ s r g room. RecordDue.first_due ρ s r g room;
      record_lines = λ s r g. RecordDue.found_first_due ρ s r g;
      record_part = λ s r g. RecordDue.part_first_due ρ s r g;
      record_part_end = RecordDue.part_length ρ;
      record_characteristic = λ s r k. RecordDue.characteristic_first_due ρ s r k;
      whole = λ s at room. WholeDue.first_due ρ s at room;
      first = λ s from. FirstDue.first_due ρ s from;
      stretch = λ s at. StretchDue.first_due ρ s at;
      writing = λ ns cs room. WritingDue.first_due ρ ns cs room;
      rewriting = λ s at cells room. RewritingDue.first_due ρ s at cells room;
      listed = λ s room. Listed.first_due (listing ρ s) room;
      call = λ ns j used cells c. JournalDue.first_due ρ ns j used cells c;
      call_left = λ ns c k a k' e. JournalDue.left_due ρ ns c k a k' e;
      replay = λ ns j used cs. JournalDue.replay_first_due ρ ns j used cs;
      replay_left = λ ns j used cs a cs' d e. JournalDue.replay_left_due ρ ns j used cs a cs' d e;
      listing_is = λ s x. (λ e. subst (IsListing ρ s) e (Listed.listing_is ρ s), λ h. sym (Listed.is_listing ρ s x h));
    }

rewrites : (ρ : Rules) (s : List ℕ) (at : ℕ) (table : List ℤ) (out : List ℕ) (bytes next : ℕ) → rewriting_of ρ s at (length table) (length out) ≡ Ok (record { bytes = bytes; next = next })
    → Rewrites ρ s at bytes next (buffer_by ρ s at (Ok (record { bytes = bytes; next = next })) out) (table_after ρ s at (Ok (record { bytes = bytes; next = next })) table)
rewrites ρ s at table out bytes next e =
    let cells = length table in
    let placed = ((RewritingDue.first_due ρ s at cells (length out) (Ok (record { bytes = bytes; next = next }))).0 e).roomy.placed in
    let all = done_all ρ s at cells (length out) bytes next e in
    let written = done_writes ρ s at cells (length out) bytes next e in
    record {
      cells = all.cells;
      read = whole_read_lem ρ s at next placed all;
      text = text_at ρ s at;
      canonical = subst (CanonicalRecord ρ (counts_at ρ s at) (text_at ρ s at)) all.all (done_canonical ρ (counts_at ρ s at) (cells_at ρ s at) (length out) bytes written);
      long = done_text ρ s at cells (length out) bytes next e;
      front = done_front ρ s at cells (length out) bytes next e out;
      cells_first = done_table_holds ρ s at cells (length out) bytes next e table ∙ all.all;
    }

lent_holds : (ρ : Rules) → LentHolds ρ
lent_holds ρ =
    record {
      reading = λ s at g table cs e. rw e (done_read_holds Refusal cs table);
      record_reading = λ s r g table cs e. rw e (done_read_holds Refusal cs table);
      whole = λ s at table cs e. rw e (done_record_holds cs table);
      writing = λ ns cs out n e. rw e (done_write_begins ρ ns cs out n e);
      listed = λ s out n e. Listed.listed_begins (listing ρ s) out n e;
      rewriting = λ s at table out bytes next e. rw e (rewrites ρ s at table out bytes next e);
    }

one_canonical : (ρ : Rules) (ns : List ℕ) (cs : List ℤ) (room n : ℕ) → writing_of ρ ns cs room ≡ Ok n → OneCanonical ρ ns cs n
one_canonical ρ ns cs room n e =
    record {
      long = done_bytes ρ ns cs room n e;
      canonical = done_canonical ρ ns cs room n e;
      one = λ x h. canonical_text ρ h;
    }

edits : (ρ : Rules) → Edits ρ
edits ρ =
    record {
      stack = journal_is_stack ρ;
      adds = adds_field ρ;
      codec = both_ways;
      reads_as = reads_as ρ;
      replayed = replay_same ρ;
      goes_on = goes_on ρ;
      torn = torn_calls ρ;
      made = λ ns t k f b r. reopened ρ ns t k.journal k.used f b r;
    }

-- R12: rules that differ in line ends alone write the same, so what one of them wrote the other reads
reads_back_ended : (ρ : Rules) → WrittenReadsBack ρ
reads_back_ended ρ ns cs room n w e a b =
    let σ = ended e ρ in
    subst (λ t. ReadsBack σ ns cs n (a ++ (t ++ b)) (length a)) (record_text_same σ ρ refl ns cs) (reads_back σ ns cs room n (writing_same σ ρ refl ns cs room ∙ w) a b)

pub demand_2 : (ρ : Rules) → Demand2 ρ
demand_2 ρ =
    record {
      due = as_due ρ;
      lent = lent_holds ρ;
      records = record { exactly = RecordDue.bad_part_exactly ρ; decide = λ s r g f e d room. RecordDue.lines_decide ρ s r g room f e d; placed = placed_answers ρ };
      in_turn_lem = as_in_turn ρ;
      first_record = record { full_walk = full_walk ρ; stops_there = stops_there ρ; order = seven_exactly; told_right = told_asked; at_or_after = not_before_exactly };
      salvaging = record { exactly = λ s. salvaged_exactly ρ s; covers = salvages ρ; confined = damage_confined ρ };
      canonical = one_canonical ρ;
      reads_back = reads_back_ended ρ;
      edits = edits ρ;
      read_writes = record {
        record_returns = λ {ds} s at next cells r h out enough. returns_same ρ r h out enough;
        text_returns = λ s c few e. canonical_printed (ended e ρ) s (canonical_records_same ρ (ended e ρ) refl s c) few;
        printed_returns = λ s few. (printed_canonical ρ s, printed_again ρ s few);
      };
    }
