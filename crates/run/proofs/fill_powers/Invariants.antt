-- `run::fill_powers` meets its contract. The invariant: the cells of the fields so far, two of each, stand there.
use Rattle.std.proofs.Common.{◌≡◌, [], ◌∷◌, ◌+◌, ◌*◌, take}
use Rattle.std.specs.List.{flat_map}
use Rattle.base.specs.Part.{over}
use Rattle.run.specs.Columns.{power_first, power_second}
use Rattle.run.proofs.fill_powers.Given as goal

abbrev pub invariant-loop-s : goal.invariant-loop-s
invariant-loop-s g l =
    record {
      place : l.at ≡ l.cell + l.s-index * 2;
      stored : l.table ≡ over l.cell (flat_map (λ s. power_first l.c l.d s ∷ power_second l.c l.d s ∷ []) (take l.s-index l.fields)) l.initial.table;
    }
