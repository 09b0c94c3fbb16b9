-- `rewrite::print_text` meets its contract.
-- Assumes nothing.
use Rattle.std.proofs.Common.{rules, ◌≡◌, ℕ, arith}
use Rattle.rewriting.proofs.Printing.{printing_none, printing_ended, printing_stop, printing_room, printing_further}
use Rattle.words.proofs.Fronts.{on_error}
use Rattle.rewrite.proofs.Writing.{writing_first, none_written, printing_of, ended_written, stopped_written, writing_more, written_part}
use Rattle.rewrite.proofs.print_text.Goals as goal

pub returns-then-text-gt65536-clause-stopped : goal.returns-then-text-gt65536-clause-stopped
returns-then-text-gt65536-clause-stopped g c = printing_none c.args.rules c.args.text.now c.if-text-gt65536.true

pub returns-then-text-gt65536-clause-written : goal.returns-then-text-gt65536-clause-written
returns-then-text-gt65536-clause-written g c = none_written c.args.rules c.args.text.now c.if-text-gt65536.true _

pub loop-at-init : goal.loop-at-init
loop-at-init g c = (c.requires.table, c.requires.page, writing_first c.args.rules c.args.text.now _)

pub returns-in_default-clause-stopped : goal.returns-in_default-clause-stopped
returns-in_default-clause-stopped g c =
    let i = c.loop-at.invariant in
    printing_stop c.args.rules c.args.text.now c.loop-at.at (printing_of c.args.rules c.args.text.now i.2) i.0 i.1 _ c.rewrite_record.ensures.answer
    (omega arith)
    (λ bytes next e. let z : ◌≡◌ {A = ℕ} 0 1 = cc in absurd (omega arith))

pub returns-in_default-clause-written : goal.returns-in_default-clause-written
returns-in_default-clause-written g c =
    let i = c.loop-at.invariant in
    stopped_written c.args.rules c.args.text.now i.2 i.0 i.1 _ c.rewrite_record.ensures.answer (omega arith)
    (λ bytes next e. let z : ◌≡◌ {A = ℕ} 0 1 = cc in absurd (omega arith))

pub slice_bounds-put_all-end : goal.slice_bounds-put_all-end
slice_bounds-put_all-end g c =
    let i = c.loop-at.invariant in
    let l =
    printing_room c.args.rules c.args.text.now c.loop-at.at (printing_of c.args.rules c.args.text.now i.2) i.0 i.1 _ c.rewrite_record.ensures.answer
    _ _ c.in-Ok.is
    in
    search rules

pub slice_bounds-put_all-end-in-loop-at : goal.slice_bounds-put_all-end-in-loop-at
slice_bounds-put_all-end-in-loop-at g c =
    let i = c.loop-at.invariant in
    let l =
    printing_room c.args.rules c.args.text.now c.loop-at.at (printing_of c.args.rules c.args.text.now i.2) i.0 i.1 _ c.rewrite_record.ensures.answer
    _ _ c.in-Ok.is
    in
    search rules

-- the record's text was not printed whole
pub returns-in_err-put_all-clause-front : goal.returns-in_err-put_all-clause-front
returns-in_err-put_all-clause-front g c =
    let i = c.loop-at.invariant in
    on_error _
    (written_part c.args.rules c.args.text.now i.2 i.0 i.1 _ c.rewrite_record.ensures.answer _ _ c.in-Ok.is (omega arith) _ c.rewrite_record.ensures.output
    _ c.in_err-put_all.ensures.front)

pub loop-at-smaller : goal.loop-at-smaller
loop-at-smaller g c =
    let i = c.loop-at.invariant in
    let l =
    printing_further c.args.rules c.args.text.now c.loop-at.at (printing_of c.args.rules c.args.text.now i.2) i.0 i.1 _
    c.rewrite_record.ensures.answer _ _ c.in-Ok.is
    in
    search rules

pub loop-at-preserved : goal.loop-at-preserved
loop-at-preserved g c =
    let i = c.loop-at.invariant in (
      search rules,
      search rules,
      writing_more c.args.rules c.args.text.now i.2 i.0 i.1 _ c.rewrite_record.ensures.answer _ _ c.in-Ok.is _ c.rewrite_record.ensures.output
          c.in_ok-put_all.ensures.all,
    )

pub returns-clause-stopped : goal.returns-clause-stopped
returns-clause-stopped g c =
    printing_ended c.args.rules c.args.text.now (omega arith) c.loop-at.at (printing_of c.args.rules c.args.text.now c.loop-at.invariant.2) (omega arith)

pub returns-clause-written : goal.returns-clause-written
returns-clause-written g c = ended_written c.args.rules c.args.text.now c.loop-at.invariant.2 (omega arith) (omega arith)
