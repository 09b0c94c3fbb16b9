-- `sao::set_cell` meets its contract: it is the layer's, and the machine keeps the value.
-- Assumes nothing.
use borrow.Author.Rules.{rules}
use mathlib.Core.Path.{◌≡◌}
use mir.Syntax.{w64}
use mir.Val.{to_z, of_z}
use Rattle.sao.proofs.set_cell.Goals as goal

pub returns : goal.returns
returns c =
    let e : to_z w64 (of_z w64 c.args.value) ≡ c.args.value = search rules in
    record {
      answer = rw e at c.set_cell.ensures.answer;
      used = c.set_cell.ensures.used;
      cells = rw e at c.set_cell.ensures.cells;
      journal = rw e at c.set_cell.ensures.journal;
    }
