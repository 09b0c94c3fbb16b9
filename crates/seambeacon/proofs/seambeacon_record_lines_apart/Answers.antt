-- `seambeacon::seambeacon_record_lines_apart` meets its contract: the reply in numbers, and where the part starts with its length.
-- Assumes nothing.
use mathlib.Core.Path.{◌≡◌, refl, ◌∙◌, ap}
use native.Mathlib.Omega.{arith}
use Prim.Native.Nat.{◌-◌}
use lib.ListN.{length}
use Rattle.place.specs.Placing.{carried}
use Rattle.reply.specs.Refusals.{checked_reply}
use Rattle.view.specs.With.{start_with, end_with, part_with}
use Rattle.view.proofs.Due.{with_range, part_length}
use Rattle.seambeacon.specs.Flags.{flagged}
use Rattle.seambeacon.proofs.Telling.{told_as}
use Rattle.seambeacon.proofs.seambeacon_record_lines_apart.Goals as goal

pub overflow_sub-part : goal.overflow_sub-part
overflow_sub-part c =
    let a = c.args in
    let e-from = rw c.rules_of.ensures at c.lines_with-named.ensures.from in
    let e-to = rw c.rules_of.ensures at c.lines_with-named.ensures.to in
    omega (arith, (with_range (flagged a.rules) a.text.now (carried a.counts.now a.starts.now a.ends.now) a.group).0, e-from, e-to)

pub returns : goal.returns
returns c =
    let a = c.args in
    let ρ = flagged a.rules in
    let r = carried a.counts.now a.starts.now a.ends.now in
    let e-found = rw c.rules_of.ensures at c.lines_with-named.ensures.found in
    let e-from = rw c.rules_of.ensures at c.lines_with-named.ensures.from in
    let e-to = rw c.rules_of.ensures at c.lines_with-named.ensures.to in
    let long : end_with ρ a.text.now r a.group - start_with ρ a.text.now r a.group ≡ length (part_with ρ a.text.now r a.group) =
    omega (arith, part_length ρ a.text.now r a.group) in record {
      reply = told_as (c.from.ensures ∙ ap checked_reply e-found) c.tell.ensures;
      part = rw (e-from, e-to, long) refl;
    }
