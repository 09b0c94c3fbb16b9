-- `place::find` meets its contract: where both index lines are right, what stands behind them decides.
-- Assumes nothing.
use native.Mathlib.Omega.{arith}
use mathlib.Core.Path.{◌≡◌}
use Prim.Native.Nat.{◌<◌}
use lib.ListN.{length}
use Rattle.std.proofs.Common.{Some}
use Rattle.std.proofs.lemmas.Grind.{common_steps}
use Rattle.base.specs.Part.{part}
use Rattle.line.specs.Places.{behind_at}
use Rattle.place.specs.Index.{counts, read_index_line}
use Rattle.place.proofs.Steps.{index_end, with_index}
use Rattle.place.proofs.find.Goals as goal

pub returns : goal.returns
returns c =
    let ρ = c.args.rules in let s = c.args.text.now in let at = c.args.at in
    let second = c.in_ok-second.second in let end = c.in_ok-end.end in
    let inside : at < length s = omega arith in
    let f : behind_at s at 1 ≡ Some second = grind (arith, common_steps) in
    let g : behind_at s second 1 ≡ Some end = grind (arith, common_steps) in
    let a : read_index_line ρ (part at second s) ≡ counts c.in_ok-first.first = grind (arith, common_steps) in
    let b : read_index_line ρ (part second end s) ≡ counts c.in_ok-last.last = grind (arith, common_steps) in
    rw (← index_end ρ s at inside second f end g, with_index ρ s at inside second f end g _ _ a b, ← c.joined.ensures) c.with_counts.ensures
