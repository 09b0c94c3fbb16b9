-- R420, R421: one outcome, of each question's contract itself, as its caller learns it (`Learnt`). A contract that leaves open a part of the
-- answer or of what is lent has no proof here.
-- Assumes nothing.
use mathlib.Core.Path.{◌≡◌, sym, ◌∙◌, ap}
use Rattle.sao.specs.Outcome.{OneOutcome, OneUpTo}
use Rattle.writing.specs.Writing.{output_by}
use Rattle.rewriting.specs.Record.{table_after, buffer_by}
use Rattle.journal.specs.Model.{Sets, Opens, Releases, Undoes}
use Rattle.journal.specs.Calls.{used_by, cells_after, journal_by}
use Rattle.journal.specs.Plays.{replayed_open, replayed_cells}
use Rattle.sao.specs.contracts.set_cell
use Rattle.sao.proofs.set_cell.Reads as set_cell_reads
use Rattle.sao.specs.contracts.open_savepoint
use Rattle.sao.proofs.open_savepoint.Reads as open_savepoint_reads
use Rattle.sao.specs.contracts.release_savepoint
use Rattle.sao.proofs.release_savepoint.Reads as release_savepoint_reads
use Rattle.sao.specs.contracts.undo_to_savepoint
use Rattle.sao.proofs.undo_to_savepoint.Reads as undo_to_savepoint_reads
use Rattle.sao.specs.contracts.replay
use Rattle.sao.proofs.replay.Reads as replay_reads
use Rattle.sao.specs.contracts.place
use Rattle.sao.proofs.place.Reads as place_reads
use Rattle.sao.specs.contracts.read_group
use Rattle.sao.proofs.read_group.Reads as read_group_reads
use Rattle.sao.specs.contracts.group_lines_at
use Rattle.sao.proofs.group_lines_at.Reads as group_lines_at_reads
use Rattle.sao.specs.contracts.group_lines
use Rattle.sao.proofs.group_lines.Reads as group_lines_reads
use Rattle.sao.specs.contracts.characteristic
use Rattle.sao.proofs.characteristic.Reads as characteristic_reads
use Rattle.sao.specs.contracts.record_group
use Rattle.sao.proofs.record_group.Reads as record_group_reads
use Rattle.sao.specs.contracts.record_lines_at
use Rattle.sao.proofs.record_lines_at.Reads as record_lines_at_reads
use Rattle.sao.specs.contracts.record_lines
use Rattle.sao.proofs.record_lines.Reads as record_lines_reads
use Rattle.sao.specs.contracts.record_characteristic
use Rattle.sao.proofs.record_characteristic.Reads as record_characteristic_reads
use Rattle.sao.specs.contracts.read_record
use Rattle.sao.proofs.read_record.Reads as read_record_reads
use Rattle.sao.specs.contracts.first_from
use Rattle.sao.proofs.first_from.Reads as first_from_reads
use Rattle.sao.specs.contracts.stretch_end
use Rattle.sao.proofs.stretch_end.Reads as stretch_end_reads
use Rattle.sao.specs.contracts.write_record
use Rattle.sao.proofs.write_record.Reads as write_record_reads
use Rattle.sao.specs.contracts.list
use Rattle.sao.proofs.list.Reads as list_reads
use Rattle.sao.specs.contracts.rewrite_record
use Rattle.sao.proofs.rewrite_record.Reads as rewrite_record_reads

pub place_one : OneOutcome place.ended place_reads.Learnt
place_one κs a r q v w l k =
    let answer = l.0 ∙ sym k.0 in
    let counts = l.1.0 ∙ sym k.1.0 in
    let starts = l.1.1.0 ∙ sym k.1.1.0 in
    let ends = l.1.1.1 ∙ sym k.1.1.1 in
    (λ i. record { answer = answer i; counts = counts i; starts = starts i; ends = ends i }, λ i. (tt, (tt, (tt, tt))))

pub read_group_one : OneOutcome read_group.ended read_group_reads.Learnt
read_group_one κs a r q v w l k =
    let table = l.1 ∙ sym k.1 in
    (l.0 ∙ sym k.0, λ i. (tt, (tt, (tt, (tt, (table i, tt))))))

pub group_lines_at_one : OneOutcome group_lines_at.ended group_lines_at_reads.Learnt
group_lines_at_one κs a r q v w l k =
    let found = l.0 ∙ sym k.0 in
    let from = l.1.0 ∙ sym k.1.0 in
    let to = l.1.1 ∙ sym k.1.1 in
    (λ i. record { found = found i; from = from i; to = to i }, λ i. (tt, (tt, (tt, (tt, tt)))))

-- the part's bytes, and where in the caller's text they stand
pub group_lines_one : OneUpTo group_lines.ended (λ κs r q. (r.now ≡ q.now) × (r.ref_ptr ≡ q.ref_ptr)) group_lines_reads.Learnt
group_lines_one κs a r q v w l k = ((l.0 ∙ sym k.0, l.1 ∙ sym k.1), λ i. (tt, (tt, (tt, (tt, tt)))))

pub characteristic_one : OneOutcome characteristic.ended characteristic_reads.Learnt
characteristic_one κs a r q v w l k = (l ∙ sym k, λ i. (tt, (tt, (tt, (tt, tt)))))

-- ---- with a record

pub record_group_one : OneOutcome record_group.ended record_group_reads.Learnt
record_group_one κs a r q v w l k =
    let table = l.1 ∙ sym k.1 in
    (l.0 ∙ sym k.0, λ i. (tt, (tt, (tt, (tt, (table i, tt))))))

pub record_lines_at_one : OneOutcome record_lines_at.ended record_lines_at_reads.Learnt
record_lines_at_one κs a r q v w l k =
    let found = l.0 ∙ sym k.0 in
    let from = l.1.0 ∙ sym k.1.0 in
    let to = l.1.1 ∙ sym k.1.1 in
    (λ i. record { found = found i; from = from i; to = to i }, λ i. (tt, (tt, (tt, (tt, tt)))))

pub record_lines_one : OneUpTo record_lines.ended (λ κs r q. (r.now ≡ q.now) × (r.ref_ptr ≡ q.ref_ptr)) record_lines_reads.Learnt
record_lines_one κs a r q v w l k = ((l.0 ∙ sym k.0, l.1 ∙ sym k.1), λ i. (tt, (tt, (tt, (tt, tt)))))

pub record_characteristic_one : OneOutcome record_characteristic.ended record_characteristic_reads.Learnt
record_characteristic_one κs a r q v w l k = (l ∙ sym k, λ i. (tt, (tt, (tt, (tt, tt)))))

-- ---- a whole record

pub read_record_one : OneOutcome read_record.ended read_record_reads.Learnt
read_record_one κs a r q v w l k =
    let table = l.1 ∙ sym k.1 in
    (l.0 ∙ sym k.0, λ i. (tt, (tt, (tt, (table i, tt)))))

-- ---- the first record from a date on

pub first_from_one : OneOutcome first_from.ended first_from_reads.Learnt
first_from_one κs a r q v w l k = (l ∙ sym k, λ i. (tt, (tt, (tt, tt))))

-- ---- the end of a stretch

pub stretch_end_one : OneOutcome stretch_end.ended stretch_end_reads.Learnt
stretch_end_one κs a r q v w l k = (l ∙ sym k, λ i. (tt, (tt, (tt, tt))))

-- ---- writing, listing, rewriting

pub write_record_one : OneOutcome write_record.ended write_record_reads.Learnt
write_record_one κs (ρ, (counts, (cells, (out, _)))) r q v w l k =
    let answer = l.0 ∙ sym k.0 in
    let bytes = l.1 ∙ ap (λ p. output_by ρ counts.now cells.now p out.now) answer ∙ sym k.1 in
    (answer, λ i. (tt, (tt, (tt, (bytes i, tt)))))

pub list_one : OneOutcome list.ended list_reads.Learnt
list_one κs a r q v w l k =
    let bytes = l.1 ∙ sym k.1 in
    (l.0 ∙ sym k.0, λ i. (tt, (tt, (bytes i, tt))))

pub rewrite_record_one : OneOutcome rewrite_record.ended rewrite_record_reads.Learnt
rewrite_record_one κs (ρ, (text, (at, (table, (out, _))))) r q v w l k =
    let answer = l.0 ∙ sym k.0 in
    let cells = l.1.0 ∙ ap (λ p. table_after ρ text.now at p table.now) answer ∙ sym k.1.0 in
    let bytes = l.1.1 ∙ ap (λ p. buffer_by ρ text.now at p out.now) answer ∙ sym k.1.1 in
    (answer, λ i. (tt, (tt, (tt, (cells i, (bytes i, tt))))))

-- ---- the edit journal

pub set_cell_one : OneOutcome set_cell.ended set_cell_reads.Learnt
set_cell_one κs (ρ, (counts, (cells, (journal, (used, (g, (i, (z, _)))))))) r q v w l k =
    let answer = l.0 ∙ sym k.0 in
    let bytes = l.1.0 ∙ ap (used_by used (Sets g i z)) answer ∙ sym k.1.0 in
    let table = l.1.1.0 ∙ ap (cells_after ρ counts.now journal.now used (Sets g i z) cells.now) answer ∙ sym k.1.1.0 in
    let text = l.1.1.1 ∙ ap (journal_by ρ counts.now journal.now used (Sets g i z) cells.now) answer ∙ sym k.1.1.1 in
    (λ i. record { answer = answer i; used = bytes i }, λ i. (tt, (tt, (table i, (text i, (tt, (tt, (tt, (tt, tt)))))))))

pub open_savepoint_one : OneOutcome open_savepoint.ended open_savepoint_reads.Learnt
open_savepoint_one κs (ρ, (counts, (cells, (journal, (used, _))))) r q v w l k =
    let answer = l.0 ∙ sym k.0 in
    let bytes = l.1.0 ∙ ap (used_by used Opens) answer ∙ sym k.1.0 in
    let text = l.1.1 ∙ ap (journal_by ρ counts.now journal.now used Opens cells.now) answer ∙ sym k.1.1 in
    (λ i. record { answer = answer i; used = bytes i }, λ i. (tt, (tt, (tt, (text i, (tt, tt))))))

pub release_savepoint_one : OneOutcome release_savepoint.ended release_savepoint_reads.Learnt
release_savepoint_one κs (ρ, (counts, (cells, (journal, (used, (n, _)))))) r q v w l k =
    let answer = l.0 ∙ sym k.0 in
    let bytes = l.1.0 ∙ ap (used_by used (Releases n)) answer ∙ sym k.1.0 in
    let text = l.1.1 ∙ ap (journal_by ρ counts.now journal.now used (Releases n) cells.now) answer ∙ sym k.1.1 in
    (λ i. record { answer = answer i; used = bytes i }, λ i. (tt, (tt, (tt, (text i, (tt, (tt, tt)))))))

pub undo_to_savepoint_one : OneOutcome undo_to_savepoint.ended undo_to_savepoint_reads.Learnt
undo_to_savepoint_one κs (ρ, (counts, (cells, (journal, (used, (n, _)))))) r q v w l k =
    let answer = l.0 ∙ sym k.0 in
    let bytes = l.1.0 ∙ ap (used_by used (Undoes n)) answer ∙ sym k.1.0 in
    let table = l.1.1.0 ∙ ap (cells_after ρ counts.now journal.now used (Undoes n) cells.now) answer ∙ sym k.1.1.0 in
    let text = l.1.1.1 ∙ ap (journal_by ρ counts.now journal.now used (Undoes n) cells.now) answer ∙ sym k.1.1.1 in
    (λ i. record { answer = answer i; used = bytes i }, λ i. (tt, (tt, (table i, (text i, (tt, (tt, tt)))))))

pub replay_one : OneOutcome replay.ended replay_reads.Learnt
replay_one κs (ρ, (counts, (cells, (journal, (used, _))))) r q v w l k =
    let answer = l.0 ∙ sym k.0 in
    let opened = l.1.0 ∙ ap (replayed_open ρ counts.now journal.now used cells.now) answer ∙ sym k.1.0 in
    let table = l.1.1 ∙ ap (replayed_cells ρ counts.now journal.now used cells.now) answer ∙ sym k.1.1 in
    (λ i. record { answer = answer i; «open» = opened i }, λ i. (tt, (tt, (table i, (tt, (tt, tt))))))
