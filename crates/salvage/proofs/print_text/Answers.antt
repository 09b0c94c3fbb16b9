-- `salvage::print_text` meets its contract.
-- Assumes nothing.
use Rattle.std.proofs.Common.{arith, refl}
use Rattle.salvaging.proofs.Printing.{printing_none, printing_ended, printing_range}
use Rattle.words.proofs.Fronts.{on_error}
use Rattle.salvage.proofs.Writing.{writing_first, none_copied, none_reported, printing_of, all_copied, all_reported, writing_more, copied_part, reported_part}
use Rattle.salvage.proofs.print_text.Goals as goal

pub returns-then-text-gt65536-clause-passed : goal.returns-then-text-gt65536-clause-passed
returns-then-text-gt65536-clause-passed g c = printing_none c.args.rules c.args.text.now c.if-text-gt65536.true

pub returns-then-text-gt65536-clause-copied : goal.returns-then-text-gt65536-clause-copied
returns-then-text-gt65536-clause-copied g c = none_copied c.args.rules c.args.text.now c.if-text-gt65536.true _

pub returns-then-text-gt65536-clause-reported : goal.returns-then-text-gt65536-clause-reported
returns-then-text-gt65536-clause-reported g c = none_reported c.args.rules c.args.text.now c.if-text-gt65536.true _

pub loop-at-init : goal.loop-at-init
loop-at-init g c = writing_first c.args.rules c.args.text.now _ _

-- the piece that was asked for ends further on, in the text
pub print_piece-requires : goal.print_piece-requires
print_piece-requires g c =
    (printing_range c.args.rules c.args.text.now (printing_of c.args.rules c.args.text.now c.loop-at.invariant) c.loop-at-test.true c.piece_at-piece.ensures refl).1

pub loop-at-smaller : goal.loop-at-smaller
loop-at-smaller g c =
    let r =
    printing_range c.args.rules c.args.text.now (printing_of c.args.rules c.args.text.now c.loop-at.invariant) c.loop-at-test.true c.piece_at-piece.ensures
    c.in_ok-at.ensures.end
    in
    omega (arith, r.0, r.1)

pub loop-at-preserved : goal.loop-at-preserved
loop-at-preserved g c =
    writing_more c.args.rules c.args.text.now c.loop-at.invariant c.loop-at-test.true c.piece_at-piece.ensures c.in_ok-at.ensures.end
    c.in_ok-at.ensures.copied c.in_ok-at.ensures.reported

-- the piece at hand was not printed whole
pub returns-in_err-at-clause-copied_front : goal.returns-in_err-at-clause-copied_front
returns-in_err-at-clause-copied_front g c =
    on_error _
    (copied_part c.args.rules c.args.text.now c.loop-at.invariant (omega arith) c.loop-at-test.true c.piece_at-piece.ensures _ c.in_err-at.ensures.copied_front)

pub returns-in_err-at-clause-reported_front : goal.returns-in_err-at-clause-reported_front
returns-in_err-at-clause-reported_front g c =
    on_error _
    (reported_part c.args.rules c.args.text.now c.loop-at.invariant (omega arith) c.loop-at-test.true c.piece_at-piece.ensures _ c.in_err-at.ensures.reported_front)

pub returns-clause-passed : goal.returns-clause-passed
returns-clause-passed g c =
    printing_ended c.args.rules c.args.text.now (printing_of c.args.rules c.args.text.now c.loop-at.invariant) (omega arith) (omega arith)

pub returns-clause-copied : goal.returns-clause-copied
returns-clause-copied g c = all_copied c.args.rules c.args.text.now c.loop-at.invariant (omega arith) (omega arith)

pub returns-clause-reported : goal.returns-clause-reported
returns-clause-reported g c = all_reported c.args.rules c.args.text.now c.loop-at.invariant (omega arith) (omega arith)
