-- What a caller learns of each question is what is due: the contracts themselves (`Learnt`) are tied to the demands, so that no contract can
-- speak of another text, place, number or table than the one asked about.
-- Assumes nothing.
use Rattle.std.specs.Prelude.{Result, Ok, Err}
use mathlib.Core.Path.{◌≡◌, refl, sym, ◌∙◌, ap}
use mathlib.Core.List.{List}
use Prim.Native.Nat.{ℕ, ◌+◌}
use lib.IntN.{ℤ}
use lib.ListN.{length}
use Rattle.rules.specs.declared.Rules.{Rules}
use Rattle.decimal.specs.Writing.{put_bytes}
use Rattle.place.specs.Due as PlacingIs
use Rattle.group.specs.Due as GroupIs
use Rattle.group.specs.Held.{moved, part_start, part_at}
use Rattle.place.specs.Placing.{carried, carried_by, carried_at}
use Rattle.view.specs.Due as RecordIs
use Rattle.view.specs.With.{start_with, part_with, read_with}
use Rattle.group.specs.Text.{read_at}
use Rattle.reading.specs.Read.{Cells, reading_of, table_by}
use Rattle.writing.specs.Due as WritingIs
use Rattle.writing.specs.Writing.{output_by}
use Rattle.since.specs.Due as FirstIs
use Rattle.salvaging.specs.Due as StretchIs
use Rattle.whole.specs.Due as WholeIs
use Rattle.whole.specs.Turn.{Turn}
use Rattle.whole.specs.Whole.{whole_read, record_read_of}
use Rattle.rewriting.specs.Due as RewritingIs
use Rattle.rewriting.specs.Record.{table_after, buffer_by}
use Rattle.listing.specs.Listing.{listing, IsListing, ListingDue}
use Rattle.sao.specs.Outcome.{Gives}
use Rattle.sao.proofs.Demand2.{as_due}
use Rattle.journal.specs.Model.{Call, Sets, Opens, Releases, Undoes, by_answer}
use Rattle.journal.specs.Runs.{Kept, kept, answer_to, left_by}
use Rattle.journal.specs.Due as JournalIs
use Rattle.sao.specs.contracts.set_cell
use Rattle.sao.proofs.set_cell.Reads as set_cell_reads
use Rattle.sao.specs.contracts.open_savepoint
use Rattle.sao.proofs.open_savepoint.Reads as open_savepoint_reads
use Rattle.sao.specs.contracts.release_savepoint
use Rattle.sao.proofs.release_savepoint.Reads as release_savepoint_reads
use Rattle.sao.specs.contracts.undo_to_savepoint
use Rattle.sao.proofs.undo_to_savepoint.Reads as undo_to_savepoint_reads
use Rattle.sao.specs.contracts.replay
use Rattle.sao.proofs.replay.Reads as replay_reads
use Rattle.sao.specs.contracts.place
use Rattle.sao.proofs.place.Reads as place_reads
use Rattle.sao.specs.contracts.read_group
use Rattle.sao.proofs.read_group.Reads as read_group_reads
use Rattle.sao.specs.contracts.group_lines_at
use Rattle.sao.proofs.group_lines_at.Reads as group_lines_at_reads
use Rattle.sao.specs.contracts.group_lines
use Rattle.sao.proofs.group_lines.Reads as group_lines_reads
use Rattle.sao.specs.contracts.characteristic
use Rattle.sao.proofs.characteristic.Reads as characteristic_reads
use Rattle.sao.specs.contracts.record_group
use Rattle.sao.proofs.record_group.Reads as record_group_reads
use Rattle.sao.specs.contracts.record_lines_at
use Rattle.sao.proofs.record_lines_at.Reads as record_lines_at_reads
use Rattle.sao.specs.contracts.record_lines
use Rattle.sao.proofs.record_lines.Reads as record_lines_reads
use Rattle.sao.specs.contracts.record_characteristic
use Rattle.sao.proofs.record_characteristic.Reads as record_characteristic_reads
use Rattle.sao.specs.contracts.read_record
use Rattle.sao.proofs.read_record.Reads as read_record_reads
use Rattle.sao.specs.contracts.first_from
use Rattle.sao.proofs.first_from.Reads as first_from_reads
use Rattle.sao.specs.contracts.stretch_end
use Rattle.sao.proofs.stretch_end.Reads as stretch_end_reads
use Rattle.sao.specs.contracts.write_record
use Rattle.sao.proofs.write_record.Reads as write_record_reads
use Rattle.sao.specs.contracts.list
use Rattle.sao.proofs.list.Reads as list_reads
use Rattle.sao.specs.contracts.rewrite_record
use Rattle.sao.proofs.rewrite_record.Reads as rewrite_record_reads
use Rattle.reply.specs.declared.Refusal.{Refusal}

pub place_due : Gives place.ended place_reads.Learnt
    (λ κs a r v. PlacingIs.Due a.0 a.1.0.now a.1.1.0 r.answer × PlacingIs.CountsDue a.0 a.1.0.now a.1.1.0 r.counts ×
    PlacingIs.PlacesDue a.0 a.1.0.now a.1.1.0 r.starts r.ends)
place_due κs (ρ, (text, (at, _))) r v l =
    let s = text.now in (
      ((as_due ρ).placing s at r.answer).0 (sym l.0),
      ((as_due ρ).counts s at r.counts).0 (sym l.1.0),
      ((as_due ρ).places s at r.starts r.ends).0 (sym l.1.1.0, sym l.1.1.1),
    )

-- R288: so the record that a caller has of it carries what is said of records that were placed
pub place_carries : Gives place.ended place_reads.Learnt (λ κs a r v. carried_by r ≡ carried_at a.0 a.1.0.now a.1.1.0)
place_carries κs a r v l = λ i. carried (l.1.0 i) (l.1.1.0 i) (l.1.1.1 i)

-- the cells that are due, told and in the table
pub read_group_due : Gives read_group.ended read_group_reads.Learnt
    (λ κs a r v. (c : Cells) × GroupIs.Due a.0 a.1.0.now a.1.1.0 a.1.1.1.0 (length a.1.1.1.1.0.now) c × (r ≡ reading_of c) ×
    (v.1.1.1.1.0 ≡ table_by c a.1.1.1.1.0.now))
read_group_due κs (ρ, (text, (at, (g, (table, _))))) r v l =
    let c = read_at ρ text.now at g (length table.now) in
    (c, ((as_due ρ).reading text.now at g (length table.now) c).0 refl, l.0, l.1)

-- where the lines stand
pub group_lines_at_due : Gives group_lines_at.ended group_lines_at_reads.Learnt
    (λ κs a r v. GroupIs.FoundDue a.0 a.1.0.now a.1.1.0 a.1.1.1.0 r.found ×
    ((x : List ℕ) × GroupIs.PartDue a.0 a.1.0.now a.1.1.0 a.1.1.1.0 r.from x × (r.to ≡ r.from + length x)))
group_lines_at_due κs (ρ, (text, (at, (g, _)))) r v l =
    let s = text.now in (
      ((as_due ρ).lines s at g r.found).0 (sym l.0),
      (part_at ρ s at g, ((as_due ρ).part s at g r.from (part_at ρ s at g)).0 (sym l.1.0, refl), l.1.1 ∙ (as_due ρ).part_end_lem s at g ∙ ap (λ n. n + length (part_at ρ s at g)) (sym l.1.0)),
    )

-- the caller's own text there: `from` places behind its address
pub group_lines_due : Gives group_lines.ended group_lines_reads.Learnt
    (λ κs a r v. (from : ℕ) × GroupIs.PartDue a.0 a.1.0.now a.1.1.0 a.1.1.1.0 from r.now × (r.ref_ptr ≡ moved a.1.0.ref_ptr from))
group_lines_due κs (ρ, (text, (at, (g, _)))) r v l =
    let s = text.now in
    (part_start ρ s at g, ((as_due ρ).part s at g (part_start ρ s at g) r.now).0 (refl, sym l.0), l.1)

pub characteristic_due : Gives characteristic.ended characteristic_reads.Learnt (λ κs a r v. GroupIs.CharacteristicDue a.0 a.1.0.now a.1.1.0 a.1.1.1.0 r)
characteristic_due κs (ρ, (text, (at, (k, _)))) r v l = ((as_due ρ).characteristic text.now at k r).0 (sym l)

-- ---- with a record

pub record_group_due : Gives record_group.ended record_group_reads.Learnt
    (λ κs a r v. (c : Cells) × RecordIs.Due a.0 a.1.0.now (carried_by a.1.1.0) a.1.1.1.0 (length a.1.1.1.1.0.now) c × (r ≡ reading_of c) ×
    (v.1.1.1.1.0 ≡ table_by c a.1.1.1.1.0.now))
record_group_due κs (ρ, (text, (lent, (g, (table, _))))) r v l =
    let c = read_with ρ text.now (carried_by lent) g (length table.now) in
    (c, ((as_due ρ).record_reading text.now (carried_by lent) g (length table.now) c).0 refl, l.0, l.1)

pub record_lines_at_due : Gives record_lines_at.ended record_lines_at_reads.Learnt
    (λ κs a r v. RecordIs.LinesDue a.0 a.1.0.now (carried_by a.1.1.0) a.1.1.1.0 r.found ×
    ((x : List ℕ) × RecordIs.PartWithDue a.0 a.1.0.now (carried_by a.1.1.0) a.1.1.1.0 r.from x × (r.to ≡ r.from + length x)))
record_lines_at_due κs (ρ, (text, (lent, (g, _)))) r v l =
    let s = text.now in
    let c = carried_by lent in
    let x = part_with ρ s c g in (
      ((as_due ρ).record_lines s c g r.found).0 (sym l.0),
      (x, ((as_due ρ).record_part s c g r.from x).0 (sym l.1.0, refl), l.1.1 ∙ (as_due ρ).record_part_end s c g ∙ ap (λ n. n + length x) (sym l.1.0)),
    )

pub record_lines_due : Gives record_lines.ended record_lines_reads.Learnt
    (λ κs a r v. (from : ℕ) × RecordIs.PartWithDue a.0 a.1.0.now (carried_by a.1.1.0) a.1.1.1.0 from r.now × (r.ref_ptr ≡ moved a.1.0.ref_ptr from))
record_lines_due κs (ρ, (text, (lent, (g, _)))) r v l =
    let s = text.now in
    (start_with ρ s (carried_by lent) g, ((as_due ρ).record_part s (carried_by lent) g (start_with ρ s (carried_by lent) g) r.now).0 (refl, sym l.0), l.1)

pub record_characteristic_due : Gives record_characteristic.ended record_characteristic_reads.Learnt
    (λ κs a r v. RecordIs.ToldWithDue a.0 a.1.0.now (carried_by a.1.1.0) a.1.1.1.0 r)
record_characteristic_due κs (ρ, (text, (lent, (k, _)))) r v l = ((as_due ρ).record_characteristic text.now (carried_by lent) k r).0 (sym l)

-- ---- a whole record

pub read_record_due : Gives read_record.ended read_record_reads.Learnt
    (λ κs a r v. (t : Turn) × WholeIs.Due a.0 a.1.0.now a.1.1.0 (length a.1.1.1.0.now) t × (r ≡ record_read_of t) × (v.1.1.1.0 ≡ table_by t a.1.1.1.0.now))
read_record_due κs (ρ, (text, (at, (table, _)))) r v l =
    let t = whole_read ρ text.now at (length table.now) in
    (t, ((as_due ρ).whole text.now at (length table.now) t).0 refl, l.0, l.1)

-- ---- the first record from a date on

pub first_from_due : Gives first_from.ended first_from_reads.Learnt (λ κs a r v. FirstIs.Due a.0 a.1.0.now a.1.1.0 r)
first_from_due κs (ρ, (text, (from, _))) r v l = ((as_due ρ).first text.now from r).0 (sym l)

-- ---- the end of a stretch

pub stretch_end_due : Gives stretch_end.ended stretch_end_reads.Learnt (λ κs a r v. StretchIs.Due a.0 a.1.0.now a.1.1.0 r)
stretch_end_due κs (ρ, (text, (at, _))) r v l = ((as_due ρ).stretch text.now at r).0 (sym l)

-- ---- writing, listing, rewriting

pub write_record_due : Gives write_record.ended write_record_reads.Learnt
    (λ κs a r v. WritingIs.Due a.0 a.1.0.now a.1.1.0.now (length a.1.1.1.0.now) r ×
    (v.1.1.1.0 ≡ output_by a.0 a.1.0.now a.1.1.0.now r a.1.1.1.0.now))
write_record_due κs (ρ, (counts, (cells, (out, _)))) r v l = (((as_due ρ).writing counts.now cells.now (length out.now) r).0 (sym l.0), l.1)

pub list_due : Gives list.ended list_reads.Learnt
    (λ κs a r v. (x : List ℕ) × IsListing a.0 a.1.0.now x × ListingDue x (length a.1.1.0.now) r × (v.1.1.0 ≡ put_bytes 0 x a.1.1.0.now))
list_due κs (ρ, (text, (out, _))) r v l =
    let x = listing ρ text.now in
    (x, ((as_due ρ).listing_is text.now x).0 refl, ((as_due ρ).listed text.now (length out.now) r).0 (sym l.0), l.1)

pub rewrite_record_due : Gives rewrite_record.ended rewrite_record_reads.Learnt
    (λ κs a r v. RewritingIs.Due a.0 a.1.0.now a.1.1.0 (length a.1.1.1.0.now) (length a.1.1.1.1.0.now) r ×
    (v.1.1.1.0 ≡ table_after a.0 a.1.0.now a.1.1.0 r a.1.1.1.0.now) × (v.1.1.1.1.0 ≡ buffer_by a.0 a.1.0.now a.1.1.0 r a.1.1.1.1.0.now))
rewrite_record_due κs (ρ, (text, (at, (table, (out, _))))) r v l = (((as_due ρ).rewriting text.now at (length table.now) (length out.now) r).0 (sym l.0), l.1.0, l.1.1)

-- ---- the edit journal: the reply that is due, and what is due to be left: bytes used, cells and journal

abbrev CallDue : Rules → List ℕ → Call → Kept → Result ℕ Refusal → Kept → Type 0
CallDue ρ ns c k a k' = JournalIs.Due ρ ns k.journal k.used (length k.cells) c a × JournalIs.LeftDue ρ ns c k a k'

call_due : (ρ : Rules) (ns : List ℕ) (c : Call) (k : Kept) (a : Result ℕ Refusal) (k' : Kept) → a ≡ answer_to ρ ns c k → k' ≡ left_by ρ ns c k a → CallDue ρ ns c k a k'
call_due ρ ns c k a k' e q = (((as_due ρ).call ns k.journal k.used (length k.cells) c a).0 (sym e), ((as_due ρ).call_left ns c k a k' (sym e)).0 (sym q))

-- cells that are not lent to be altered
same_cells : (t : List ℤ) (a : Result ℕ Refusal) → t ≡ by_answer a t t
same_cells t (Ok n) = refl
same_cells t (Err r) = refl

pub set_cell_due : Gives set_cell.ended set_cell_reads.Learnt
    (λ κs a r v.
    CallDue a.0 a.1.0.now (Sets a.1.1.1.1.1.0 a.1.1.1.1.1.1.0 a.1.1.1.1.1.1.1.0) (kept a.1.1.0.now a.1.1.1.0.now a.1.1.1.1.0) r.answer
    (kept v.1.1.0 v.1.1.1.0 r.used))
set_cell_due κs (ρ, (counts, (cells, (journal, (used, (g, (i, (z, _)))))))) r v l =
    call_due ρ counts.now (Sets g i z) (kept cells.now journal.now used) r.answer (kept v.1.1.0 v.1.1.1.0 r.used) l.0
    (λ x. kept (l.1.1.0 x) (l.1.1.1 x) (l.1.0 x))

pub open_savepoint_due : Gives open_savepoint.ended open_savepoint_reads.Learnt
    (λ κs a r v.
    CallDue a.0 a.1.0.now Opens (kept a.1.1.0.now a.1.1.1.0.now a.1.1.1.1.0) r.answer (kept a.1.1.0.now v.1.1.1.0 r.used))
open_savepoint_due κs (ρ, (counts, (cells, (journal, (used, _))))) r v l =
    call_due ρ counts.now Opens (kept cells.now journal.now used) r.answer (kept cells.now v.1.1.1.0 r.used) l.0
    (λ x. kept (same_cells cells.now r.answer x) (l.1.1 x) (l.1.0 x))

pub release_savepoint_due : Gives release_savepoint.ended release_savepoint_reads.Learnt
    (λ κs a r v.
    CallDue a.0 a.1.0.now (Releases a.1.1.1.1.1.0) (kept a.1.1.0.now a.1.1.1.0.now a.1.1.1.1.0) r.answer (kept a.1.1.0.now v.1.1.1.0 r.used))
release_savepoint_due κs (ρ, (counts, (cells, (journal, (used, (n, _)))))) r v l =
    call_due ρ counts.now (Releases n) (kept cells.now journal.now used) r.answer (kept cells.now v.1.1.1.0 r.used) l.0
    (λ x. kept (same_cells cells.now r.answer x) (l.1.1 x) (l.1.0 x))

pub undo_to_savepoint_due : Gives undo_to_savepoint.ended undo_to_savepoint_reads.Learnt
    (λ κs a r v.
    CallDue a.0 a.1.0.now (Undoes a.1.1.1.1.1.0) (kept a.1.1.0.now a.1.1.1.0.now a.1.1.1.1.0) r.answer (kept v.1.1.0 v.1.1.1.0 r.used))
undo_to_savepoint_due κs (ρ, (counts, (cells, (journal, (used, (n, _)))))) r v l =
    call_due ρ counts.now (Undoes n) (kept cells.now journal.now used) r.answer (kept v.1.1.0 v.1.1.1.0 r.used) l.0
    (λ x. kept (l.1.1.0 x) (l.1.1.1 x) (l.1.0 x))

pub replay_due : Gives replay.ended replay_reads.Learnt
    (λ κs a r v. JournalIs.ReplayDue a.0 a.1.0.now a.1.1.1.0.now a.1.1.1.1.0 a.1.1.0.now r.answer ×
    JournalIs.ReplayLeftDue a.0 a.1.0.now a.1.1.1.0.now a.1.1.1.1.0 a.1.1.0.now r.answer v.1.1.0 r.«open»)
replay_due κs (ρ, (counts, (cells, (journal, (used, _))))) r v l = (
  ((as_due ρ).replay counts.now journal.now used cells.now r.answer).0 (sym l.0),
  ((as_due ρ).replay_left counts.now journal.now used cells.now r.answer v.1.1.0 r.«open» (sym l.0)).0 (sym l.1.1, sym l.1.0),
)
