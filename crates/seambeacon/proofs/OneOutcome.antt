-- R420, R421: one outcome, of each exported function's contract itself (`Learnt`): the number, the numbers beside it, and all else that is
-- lent.
-- Assumes nothing.
use mathlib.Core.Path.{sym, ◌∙◌}
use Rattle.sao.specs.Outcome.{OneOutcome}
use Rattle.seambeacon.specs.contracts.seambeacon_place_apart as place
use Rattle.seambeacon.proofs.seambeacon_place_apart.Reads as place_reads
use Rattle.seambeacon.specs.contracts.seambeacon_read_group as read_group
use Rattle.seambeacon.proofs.seambeacon_read_group.Reads as read_group_reads
use Rattle.seambeacon.specs.contracts.seambeacon_group_lines as group_lines
use Rattle.seambeacon.proofs.seambeacon_group_lines.Reads as group_lines_reads
use Rattle.seambeacon.specs.contracts.seambeacon_characteristic as characteristic
use Rattle.seambeacon.proofs.seambeacon_characteristic.Reads as characteristic_reads
use Rattle.seambeacon.specs.contracts.seambeacon_record_group_apart as record_group
use Rattle.seambeacon.proofs.seambeacon_record_group_apart.Reads as record_group_reads
use Rattle.seambeacon.specs.contracts.seambeacon_record_lines_apart as record_lines
use Rattle.seambeacon.proofs.seambeacon_record_lines_apart.Reads as record_lines_reads
use Rattle.seambeacon.specs.contracts.seambeacon_record_characteristic_apart as record_characteristic
use Rattle.seambeacon.proofs.seambeacon_record_characteristic_apart.Reads as record_characteristic_reads
use Rattle.seambeacon.specs.contracts.seambeacon_write_record as write_record
use Rattle.seambeacon.proofs.seambeacon_write_record.Reads as write_record_reads
use Rattle.seambeacon.specs.contracts.seambeacon_list as list
use Rattle.seambeacon.proofs.seambeacon_list.Reads as list_reads
use Rattle.seambeacon.specs.contracts.seambeacon_read_record as read_record
use Rattle.seambeacon.proofs.seambeacon_read_record.Reads as read_record_reads
use Rattle.seambeacon.specs.contracts.seambeacon_first_from as first_from
use Rattle.seambeacon.proofs.seambeacon_first_from.Reads as first_from_reads
use Rattle.seambeacon.specs.contracts.seambeacon_stretch_end as stretch_end
use Rattle.seambeacon.proofs.seambeacon_stretch_end.Reads as stretch_end_reads
use Rattle.seambeacon.specs.contracts.seambeacon_rewrite_record as rewrite_record
use Rattle.seambeacon.proofs.seambeacon_rewrite_record.Reads as rewrite_record_reads
use Rattle.seambeacon.specs.contracts.seambeacon_set_cell as set_cell
use Rattle.seambeacon.proofs.seambeacon_set_cell.Reads as set_cell_reads
use Rattle.seambeacon.specs.contracts.seambeacon_open_savepoint as open_savepoint
use Rattle.seambeacon.proofs.seambeacon_open_savepoint.Reads as open_savepoint_reads
use Rattle.seambeacon.specs.contracts.seambeacon_release_savepoint as release_savepoint
use Rattle.seambeacon.proofs.seambeacon_release_savepoint.Reads as release_savepoint_reads
use Rattle.seambeacon.specs.contracts.seambeacon_undo_to_savepoint as undo_to_savepoint
use Rattle.seambeacon.proofs.seambeacon_undo_to_savepoint.Reads as undo_to_savepoint_reads
use Rattle.seambeacon.specs.contracts.seambeacon_replay as replay
use Rattle.seambeacon.proofs.seambeacon_replay.Reads as replay_reads

pub place_one : OneOutcome place.ended place_reads.Learnt
place_one κs a n m v w l k =
    let beside = l.0.besides ∙ sym k.0.besides in
    let counts = l.1.0 ∙ sym k.1.0 in
    let starts = l.1.1.0 ∙ sym k.1.1.0 in
    let ends = l.1.1.1 ∙ sym k.1.1.1 in
    (l.0.number ∙ sym k.0.number, λ i. (tt, (tt, (tt, (counts i, (starts i, (ends i, (beside i, tt))))))))

pub read_group_one : OneOutcome read_group.ended read_group_reads.Learnt
read_group_one κs a n m v w l k =
    let beside = l.0.besides ∙ sym k.0.besides in
    let table = l.1 ∙ sym k.1 in
    (l.0.number ∙ sym k.0.number, λ i. (tt, (tt, (tt, (tt, (table i, (beside i, tt)))))))

pub group_lines_one : OneOutcome group_lines.ended group_lines_reads.Learnt
group_lines_one κs a n m v w l k =
    let beside = l.0.besides ∙ sym k.0.besides in
    let part = l.1 ∙ sym k.1 in
    (l.0.number ∙ sym k.0.number, λ i. (tt, (tt, (tt, (tt, (part i, (beside i, tt)))))))

pub characteristic_one : OneOutcome characteristic.ended characteristic_reads.Learnt
characteristic_one κs a n m v w l k =
    let beside = l.0.besides ∙ sym k.0.besides in
    let kind = l.1.0 ∙ sym k.1.0 in
    let value = l.1.1 ∙ sym k.1.1 in
    (l.0.number ∙ sym k.0.number, λ i. (tt, (tt, (tt, (tt, (kind i, (value i, (beside i, tt))))))))

-- ---- with a record

pub record_group_one : OneOutcome record_group.ended record_group_reads.Learnt
record_group_one κs a n m v w l k =
    let beside = l.0.besides ∙ sym k.0.besides in
    let table = l.1 ∙ sym k.1 in
    (l.0.number ∙ sym k.0.number, λ i. (tt, (tt, (tt, (tt, (tt, (tt, (table i, (beside i, tt)))))))))

pub record_lines_one : OneOutcome record_lines.ended record_lines_reads.Learnt
record_lines_one κs a n m v w l k =
    let beside = l.0.besides ∙ sym k.0.besides in
    let part = l.1 ∙ sym k.1 in
    (l.0.number ∙ sym k.0.number, λ i. (tt, (tt, (tt, (tt, (tt, (tt, (part i, (beside i, tt)))))))))

pub record_characteristic_one : OneOutcome record_characteristic.ended record_characteristic_reads.Learnt
record_characteristic_one κs a n m v w l k =
    let beside = l.0.besides ∙ sym k.0.besides in
    let kind = l.1.0 ∙ sym k.1.0 in
    let value = l.1.1 ∙ sym k.1.1 in
    (l.0.number ∙ sym k.0.number, λ i. (tt, (tt, (tt, (tt, (tt, (tt, (kind i, (value i, (beside i, tt))))))))))

-- ---- a whole record

pub read_record_one : OneOutcome read_record.ended read_record_reads.Learnt
read_record_one κs a n m v w l k =
    let beside = l.0.besides ∙ sym k.0.besides in
    let unread = l.1.0 ∙ sym k.1.0 in
    let table = l.1.1 ∙ sym k.1.1 in
    (l.0.number ∙ sym k.0.number, λ i. (tt, (tt, (tt, (table i, (unread i, (beside i, tt)))))))

-- ---- the first record from a date on

pub first_from_one : OneOutcome first_from.ended first_from_reads.Learnt
first_from_one κs a n m v w l k =
    let beside = l.0.besides ∙ sym k.0.besides in
    let place = l.1.0 ∙ sym k.1.0 in
    let passed = l.1.1 ∙ sym k.1.1 in
    (l.0.number ∙ sym k.0.number, λ i. (tt, (tt, (tt, (place i, (passed i, (beside i, tt)))))))

-- ---- the end of a stretch

pub stretch_end_one : OneOutcome stretch_end.ended stretch_end_reads.Learnt
stretch_end_one κs a n m v w l k =
    let beside = l.besides ∙ sym k.besides in
    (l.number ∙ sym k.number, λ i. (tt, (tt, (tt, (beside i, tt)))))

-- ---- writing, listing, rewriting

pub write_record_one : OneOutcome write_record.ended write_record_reads.Learnt
write_record_one κs a n m v w l k =
    let beside = l.0.besides ∙ sym k.0.besides in
    let out = l.1 ∙ sym k.1 in
    (l.0.number ∙ sym k.0.number, λ i. (tt, (tt, (tt, (out i, (beside i, tt))))))

pub list_one : OneOutcome list.ended list_reads.Learnt
list_one κs a n m v w l k =
    let beside = l.0.besides ∙ sym k.0.besides in
    let out = l.1 ∙ sym k.1 in
    (l.0.number ∙ sym k.0.number, λ i. (tt, (tt, (out i, (beside i, tt)))))

pub rewrite_record_one : OneOutcome rewrite_record.ended rewrite_record_reads.Learnt
rewrite_record_one κs a n m v w l k =
    let beside = l.0.besides ∙ sym k.0.besides in
    let unread = l.1.0 ∙ sym k.1.0 in
    let table = l.1.1.0 ∙ sym k.1.1.0 in
    let out = l.1.1.1 ∙ sym k.1.1.1 in
    (l.0.number ∙ sym k.0.number, λ i. (tt, (tt, (tt, (table i, (out i, (unread i, (beside i, tt))))))))

-- ---- the edit journal

pub set_cell_one : OneOutcome set_cell.ended set_cell_reads.Learnt
set_cell_one κs a n m v w l k =
    let beside = l.0.besides ∙ sym k.0.besides in
    let used = l.1.0 ∙ sym k.1.0 in
    let cells = l.1.1.0 ∙ sym k.1.1.0 in
    let journal = l.1.1.1 ∙ sym k.1.1.1 in
    (l.0.number ∙ sym k.0.number, λ i. (tt, (tt, (cells i, (journal i, (used i, (tt, (tt, (tt, (beside i, tt))))))))))

pub open_savepoint_one : OneOutcome open_savepoint.ended open_savepoint_reads.Learnt
open_savepoint_one κs a n m v w l k =
    let beside = l.0.besides ∙ sym k.0.besides in
    let used = l.1.0 ∙ sym k.1.0 in
    let journal = l.1.1 ∙ sym k.1.1 in
    (l.0.number ∙ sym k.0.number, λ i. (tt, (tt, (tt, (journal i, (used i, (beside i, tt)))))))

pub release_savepoint_one : OneOutcome release_savepoint.ended release_savepoint_reads.Learnt
release_savepoint_one κs a n m v w l k =
    let beside = l.0.besides ∙ sym k.0.besides in
    let used = l.1.0 ∙ sym k.1.0 in
    let journal = l.1.1 ∙ sym k.1.1 in
    (l.0.number ∙ sym k.0.number, λ i. (tt, (tt, (tt, (journal i, (used i, (tt, (beside i, tt))))))))

pub undo_to_savepoint_one : OneOutcome undo_to_savepoint.ended undo_to_savepoint_reads.Learnt
undo_to_savepoint_one κs a n m v w l k =
    let beside = l.0.besides ∙ sym k.0.besides in
    let used = l.1.0 ∙ sym k.1.0 in
    let cells = l.1.1.0 ∙ sym k.1.1.0 in
    let journal = l.1.1.1 ∙ sym k.1.1.1 in
    (l.0.number ∙ sym k.0.number, λ i. (tt, (tt, (cells i, (journal i, (used i, (tt, (beside i, tt))))))))

pub replay_one : OneOutcome replay.ended replay_reads.Learnt
replay_one κs a n m v w l k =
    let beside = l.0.besides ∙ sym k.0.besides in
    let opened = l.1.0 ∙ sym k.1.0 in
    let cells = l.1.1 ∙ sym k.1.1 in
    (l.0.number ∙ sym k.0.number, λ i. (tt, (tt, (cells i, (tt, (tt, (opened i, (beside i, tt))))))))
