-- `place::with_lines` meets its contract: one group's lines after the other's. The invariant: the first k groups have their places.
-- Assumes nothing.
use native.Mathlib.Omega.{arith}
use mathlib.Core.Path.{◌≡◌, refl}
use Prim.Native.Nat.{◌+◌}
use lib.ListN.{get_or}
use Rattle.std.proofs.Common.{Some, None}
use Rattle.std.proofs.lemmas.Grind.{common_steps}
use Rattle.form.specs.Table.{form_of}
use Rattle.line.specs.Places.{behind_at}
use Rattle.count.specs.Tally.{lines_by}
use Rattle.place.proofs.Spans.{shared_none, shared_few, shared_more, shared_all, all_begun, all_ended}
use Rattle.place.proofs.with_lines.Goals as goal

pub loop-k-init : goal.loop-k-init
loop-k-init c = shared_none _ _ _ _

pub returns-in_err-next : goal.returns-in_err-next
returns-in_err-next c =
    let l = c.loop-k in let o = c.args in
    let t : behind_at o.text.now l.at (lines_by o.rules (form_of (l.k + 1)) (get_or o.counts l.k 0)) ≡ None = grind (arith, common_steps) in
    let e = shared_few o.rules o.text.now o.from o.counts l.k l.at l.starts l.ends l.invariant _ c.loop-k-test.true refl t in
    grind (arith, common_steps)

pub loop-k-preserved : goal.loop-k-preserved
loop-k-preserved c =
    let l = c.loop-k in let o = c.args in
    let t : behind_at o.text.now l.at (lines_by o.rules (form_of (l.k + 1)) (get_or o.counts l.k 0)) ≡ Some c.in_ok-next.next = grind (arith, common_steps) in
    shared_more o.rules o.text.now o.from o.counts l.k l.at l.starts l.ends l.invariant _ c.loop-k-test.true refl _ t

pub returns : goal.returns
returns c =
    let l = c.loop-k in let o = c.args in
    let all : l.k ≡ 60 = omega (arith, l.invariant.few) in
    rw (shared_all o.rules o.text.now o.from o.counts l.k l.at l.starts l.ends l.invariant all)
    record {
      placing = rw (← c.ruling_of.ensures) c.ruled_at-answer.ensures;
      beside = refl;
      begin = all_begun o.rules o.text.now o.from o.counts l.k l.at l.starts l.ends l.invariant all;
      end = all_ended o.rules o.text.now o.from o.counts l.k l.at l.starts l.ends l.invariant all;
    }
