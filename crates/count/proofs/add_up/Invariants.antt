-- `count::add_up` meets its contract. The invariant: the totals are those before group `number`, and so small that none overflows.
-- Assumes nothing.
use Prim.Native.Nat.{◌*◌, ◌≤◌}
use Rattle.count.specs.Tally.{Before}
use Rattle.count.proofs.add_up.Given as goal

abbrev pub invariant-loop-number : goal.invariant-loop-number
invariant-loop-number l = record {
  few_lines : l.totals.lines ≤ 65537 * l.number;
  few_cells : l.totals.cells ≤ 7864200 * l.number;
  before : Before l.rules l.counts l.number l.totals.lines l.totals.cells;
}
