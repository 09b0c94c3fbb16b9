-- `seambeacon::seambeacon_group_lines` meets its contract: the reply in numbers, and where the part starts with its length.
-- Assumes nothing.
use mathlib.Core.Path.{refl, ◌∙◌, ap}
use native.Mathlib.Omega.{arith}
use Rattle.reply.specs.Refusals.{checked_reply}
use Rattle.group.proofs.Holding.{span_range, span_length}
use Rattle.seambeacon.specs.Flags.{flagged}
use Rattle.seambeacon.proofs.Telling.{told_as}
use Rattle.seambeacon.proofs.seambeacon_group_lines.Goals as goal

pub overflow_sub-part : goal.overflow_sub-part
overflow_sub-part c =
    let a = c.args in
    let e-from = rw c.rules_of.ensures at c.group_lines_at-lines.ensures.from in
    let e-to = rw c.rules_of.ensures at c.group_lines_at-lines.ensures.to in
    omega (arith, (span_range (flagged a.rules) a.text.now a.at a.group).0, e-from, e-to)

pub returns : goal.returns
returns c =
    let a = c.args in
    let e-found = rw c.rules_of.ensures at c.group_lines_at-lines.ensures.found in
    let e-from = rw c.rules_of.ensures at c.group_lines_at-lines.ensures.from in
    let e-to = rw c.rules_of.ensures at c.group_lines_at-lines.ensures.to in
    let length = span_length (flagged a.rules) a.text.now a.at a.group in record {
      reply = told_as (c.from.ensures ∙ ap checked_reply e-found) c.tell.ensures;
      part = rw (e-from, e-to, length) refl;
    }
