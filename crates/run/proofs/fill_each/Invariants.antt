-- `run::fill_each` meets its contract. The invariant: the cells of the fields so far stand there.
use Rattle.std.proofs.Common.{◌≡◌, ℕ, List, ℤ, length, take, map}
use Rattle.base.specs.Part.{over}
use Rattle.run.proofs.fill_each.Given as goal

abbrev pub invariant-loop-i : goal.invariant-loop-i
invariant-loop-i g l = (h : List ℕ → ℤ)
    → ((s : _) (z : ℤ) → length s.now ≡ g.row.W → goal.F-post g l.cell_of s z → z ≡ h s.now)
    → l.table ≡ over l.cell (map h (take l.i l.fields)) l.initial.table
