-- R9: a record that the strict rule reads whole with 0 is read so under each that counts alike: the same cells.
-- Assumes nothing.
use mathlib.Core.Path.{◌≡◌, sym, ◌∙◌, ap}
use mathlib.Core.List.{List}
use mathlib.Core.Logic.{inl}
use Prim.Native.Nat.{ℕ, ◌≤◌}
use native.Mathlib.Omega.{arith}
use lib.IntN.{ℤ}
use Rattle.rules.specs.declared.LineEnds.TheVariants.{Strict}
use Rattle.rules.specs.declared.Rules.{Rules}
use Rattle.base.specs.Pieces.{done}
use Rattle.count.specs.Tally.{cells_in, record_cells}
use Rattle.count.proofs.SameCounting as Counted
use Rattle.place.specs.declared.Placing.TheVariants.{Placed}
use Rattle.place.specs.Numbered.{placing_reply}
use Rattle.place.specs.Placing.{placing_of, counts_at}
use Rattle.place.specs.Walk.{PlacedAt}
use Rattle.place.proofs.Ends.{strict_placing}
use Rattle.group.specs.Text.{read_at}
use Rattle.group.proofs.Ends.{strict_read}
use Rattle.whole.specs.Due.{GroupDone, ReadDue}
use Rattle.whole.specs.Turn.{group_read, all_in_turn}
use Rattle.whole.specs.Whole.{whole_read}
use Rattle.whole.proofs.Due.{first_due, turn_all_done, whole_roomy}
use Rattle.whole.proofs.Turns.{turn_same}

-- σ places the record with 0 and reads each of its groups so
module _ (σ ρ : Rules) (only : σ.ends ≡ Strict) (alike : σ.counting ≡ ρ.counting) (s : List ℕ) (at : ℕ) {next : ℕ} (placed : placing_of σ s at ≡ Placed next)
    (groups : (g : ℕ) → 1 ≤ g → g ≤ 60 → GroupDone σ s at g) where
  stands : PlacedAt σ s at
  stands = inl (ap (λ p. (placing_reply p).number) placed)

  pub strict_placed : placing_of ρ s at ≡ Placed next
  strict_placed = (strict_placing σ ρ only alike s at stands).0 ∙ placed

  pub strict_counts : counts_at ρ s at ≡ counts_at σ s at
  strict_counts = ap (λ c. c.counts_of) (strict_placing σ ρ only alike s at stands).1

  pub strict_cells : record_cells ρ (counts_at ρ s at) ≡ record_cells σ (counts_at σ s at)
  strict_cells = ap (record_cells ρ) strict_counts ∙ Counted.record_cells_same ρ σ (sym alike) (counts_at σ s at)

  pub strict_group : (g : ℕ) → 1 ≤ g → g ≤ 60 → group_read ρ s at g ≡ group_read σ s at g
  strict_group g low high =
      let d = groups g low high in
      let ns = counts_at σ s at in
      ap (λ ms. read_at ρ s at g (cells_in ρ ms g)) strict_counts
      ∙ ap (read_at ρ s at g) (Counted.cells_same ρ σ (sym alike) ns g)
      ∙ strict_read σ ρ only alike s at g (cells_in σ ns g) d.cells d.reads
      ∙ sym d.reads

  pub strict_turn : all_in_turn ρ s at ≡ all_in_turn σ s at
  strict_turn = turn_same (group_read ρ s at) (group_read σ s at) 1 60 (λ g low high. strict_group g low (omega arith))

pub strict_whole : (σ ρ : Rules) → σ.ends ≡ Strict → σ.counting ≡ ρ.counting → (s : List ℕ) (at room : ℕ) (cs : List ℤ) → whole_read σ s at room ≡ done cs → whole_read ρ s at room ≡ done cs
strict_whole σ ρ only alike s at room cs e =
    let d : ReadDue σ s at room cs = (first_due σ s at room (done cs)).0 e in
    let r = d.roomy in
    let each : (g : ℕ) → 1 ≤ g → g ≤ 60 → GroupDone σ s at g = λ g low high. record { cells = d.groups.cells g; reads = d.groups.each g low high } in
    whole_roomy ρ s at room record {
      next = r.next;
      placed = strict_placed σ ρ only alike s at r.placed each;
      enough = omega (arith, strict_cells σ ρ only alike s at r.placed each, r.enough);
    }
    ∙ strict_turn σ ρ only alike s at r.placed each
    ∙ (turn_all_done σ s at cs).1 d.groups
