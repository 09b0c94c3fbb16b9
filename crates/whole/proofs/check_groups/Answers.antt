-- `whole::check_groups` meets its contract. The invariant: before a group, the groups from it on decide as all do.
-- Assumes nothing.
use native.Mathlib.Omega.{arith}
use mathlib.Core.Path.{◌≡◌, ◌∙◌, ap}
use Prim.Native.Nat.{◌+◌}
use Rattle.std.proofs.Common.{Result, Ok, Err}
use Rattle.std.proofs.lemmas.Grind.{common_steps}
use Rattle.place.specs.Placing.{carried}
use Rattle.reply.specs.declared.Refusal.{Refusal}
use Rattle.reading.specs.Read.{verdict_of}
use Rattle.whole.specs.Whole.{unread, groups_of, all_by}
use Rattle.whole.proofs.Passes.{Checking, group_lent, checking_all, checking_refused, checking_more}
use Rattle.whole.proofs.check_groups.Goals as goal

pub returns-in_err-map_err : goal.returns-in_err-map_err
returns-in_err-map_err c =
    let p = c.args.placed in
    let its = carried p.counts.now p.starts.now p.ends.now in
    let verdict = c.check_kept.ensures ∙ ap verdict_of (group_lent c.args.rules p.text.now its c.loop-number.number c.kept.ensures c.lines-lines.ensures) in
    let refused : (q : Refusal) → c.check_kept.result ≡ Err q → Err (unread (c.loop-number.number, q)) ≡ groups_of (all_by c.args.rules p.text.now its) =
    λ q e. checking_refused c.args.rules p.text.now its c.loop-number.invariant (omega arith) verdict e in
    grind (arith, common_steps)

pub loop-number-preserved : goal.loop-number-preserved
loop-number-preserved c =
    let p = c.args.placed in
    let its = carried p.counts.now p.starts.now p.ends.now in
    let verdict = c.check_kept.ensures ∙ ap verdict_of (group_lent c.args.rules p.text.now its c.loop-number.number c.kept.ensures c.lines-lines.ensures) in
    let more : c.check_kept.result ≡ Ok tt → Checking c.args.rules p.text.now its (c.loop-number.number + 1) =
    λ e. checking_more c.args.rules p.text.now its c.loop-number.invariant (omega arith) verdict e in
    more (grind (arith, common_steps))

pub returns : goal.returns
returns c = checking_all c.args.rules c.args.placed.text.now (carried c.args.placed.counts.now c.args.placed.starts.now c.args.placed.ends.now) c.loop-number.invariant (omega arith)
