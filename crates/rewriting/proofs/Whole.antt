-- A record all of whose groups read with 0: it was read whole, its cells are those of the groups, joined, and so writing them gives 0.
-- Assumes nothing.
use Rattle.std.specs.Prelude.{Ok}
use mathlib.Core.Path.{◌≡◌, sym, ◌∙◌, ap}
use mathlib.Core.List.{List}
use Prim.Native.Nat.{ℕ, ◌≤◌}
use native.Mathlib.Omega.{arith}
use lib.IntN.{ℤ}
use lib.ListN.{length}
use Rattle.rules.specs.declared.Rules.{Rules}
use Rattle.base.specs.Pieces.{done, cells_got}
use Rattle.count.specs.Tally.{cells_in, record_cells}
use Rattle.place.specs.declared.Placing.TheVariants.{Placed}
use Rattle.place.specs.Placing.{placing_of, counts_at}
use Rattle.whole.specs.Due.{GroupDone, AllDone, ReadDue}
use Rattle.whole.specs.Turn.{group_read, cells_at}
use Rattle.whole.proofs.Due as Whole
use Rattle.whole.proofs.InTurn.{turn_size}
use Rattle.whole.proofs.Turns.{read_all}
use Rattle.writing.specs.RoundTrip.{ReadWhole}
use Rattle.writing.specs.Text.{record_bytes}
use Rattle.writing.specs.Writing.{writing_of}
use Rattle.writing.proofs.ReadWrites.{read_writes}

module _ (ρ : Rules) (s : List ℕ) (at : ℕ) where
  -- the cells at the place are those of the groups, if each of them reads with 0
  pub groups_done : ((g : ℕ) → 1 ≤ g → g ≤ 60 → GroupDone ρ s at g) → AllDone ρ s at (cells_at ρ s at)
  groups_done d =
      let cells : ℕ → List ℤ = λ g. cells_got (group_read ρ s at g) in
      let each : (g : ℕ) → 1 ≤ g → g ≤ 60 → group_read ρ s at g ≡ done (cells g) = λ g low high. let x = d g low high in x.reads ∙ ap done (sym (ap cells_got x.reads)) in
      record { cells = cells; each = each; all = ap cells_got (read_all (group_read ρ s at) cells 1 60 (λ g low high. each g low (omega arith))) }

  -- and they are what was read
  pub read_cells : (room : ℕ) (cs : List ℤ) → ReadDue ρ s at room cs → cs ≡ cells_at ρ s at
  read_cells room cs d = sym (ap cells_got ((Whole.turn_all_done ρ s at cs).1 d.groups))

  module _ (next : ℕ) (placed : placing_of ρ s at ≡ Placed next) (all : AllDone ρ s at (cells_at ρ s at)) where
    pub whole_read_lem : ReadWhole ρ s at next all.cells
    whole_read_lem = record { placed = placed; room = cells_in ρ (counts_at ρ s at); groups = all.each }

    pub whole_length : length (cells_at ρ s at) ≡ record_cells ρ (counts_at ρ s at)
    whole_length = turn_size ρ s at placed (cells_at ρ s at) ((Whole.turn_all_done ρ s at (cells_at ρ s at)).1 all)

    pub whole_written : (room : ℕ) → record_bytes ρ (counts_at ρ s at) ≤ room → writing_of ρ (counts_at ρ s at) (cells_at ρ s at) room ≡ Ok (record_bytes ρ (counts_at ρ s at))
    whole_written room enough = ap (λ cs. writing_of ρ (counts_at ρ s at) cs room) all.all ∙ read_writes ρ whole_read_lem room enough
