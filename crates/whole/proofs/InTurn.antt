-- R274: one call for a whole record is equal to asking for its groups in turn, each with room enough (specs/InTurn.antt).
-- Assumes nothing.
use mathlib.Core.Path.{◌≡◌, sym, ◌∙◌, ap}
use mathlib.Core.List.{List}
use Prim.Native.Nat.{ℕ, suc, ◌+◌, ◌≤◌}
use native.Mathlib.Omega.{arith}
use lib.IntN.{ℤ}
use lib.ListN.{length}
use Rattle.rules.specs.declared.Rules.{Rules}
use Rattle.base.specs.Pieces.{done}
use Rattle.form.proofs.Table.{group_form}
use Rattle.count.specs.Tally.{cells_in, cells_before, record_cells}
use Rattle.count.proofs.Tallied.{cells_has, cells_first, cells_next}
use Rattle.place.specs.Parts.{group_part}
use Rattle.place.specs.declared.Placing.TheVariants.{Placed}
use Rattle.place.specs.Placing.{placing_of, counts_at, carried_at}
use Rattle.place.proofs.Zero.{IsPlaced, is_placed_lem}
use Rattle.reading.specs.Read.{read_group}
use Rattle.reading.proofs.GroupRead.{read_size}
use Rattle.reading.proofs.Promises.{read_room}
use Rattle.group.specs.Text.{read_at}
use Rattle.group.proofs.Texts.{read_located}
use Rattle.whole.specs.InTurn.{RoomEnough, AsInTurn}
use Rattle.whole.specs.Turn.{group_read, all_in_turn}
use Rattle.whole.proofs.Due.{first_due, whole_roomy}
use Rattle.whole.proofs.Passes.{all_size}
use Rattle.whole.proofs.Placed.{all_by_lem}
use Rattle.whole.proofs.Turns.{turn_same, turn_stands}

module _ (ρ : Rules) (s : List ℕ) (at : ℕ) where
  abbrev ns : List ℕ
  ns = counts_at ρ s at

  module _ {next : ℕ} (placed : placing_of ρ s at ≡ Placed next) where
    here : IsPlaced ρ s at next
    here = is_placed_lem ρ s at next placed

    by_lines : (g room : ℕ) → read_at ρ s at g room ≡ read_group ρ ns g (group_part ρ s at ns g) room
    by_lines g room = read_located ρ s at g room next ns here.located_at

    -- R264: each table with room gives the same
    enough_same : (rooms : ℕ → ℕ) → RoomEnough ρ s at rooms → (g : ℕ) → 1 ≤ g → g ≤ 60 → read_at ρ s at g (rooms g) ≡ group_read ρ s at g
    enough_same rooms enough g low high =
        let f = group_form g low high in
        let c = cells_has ρ ns g f.0 f.1 in
        by_lines g (rooms g)
        ∙ read_room ρ ns g (group_part ρ s at ns g) (rooms g) (cells_in ρ ns g) f.0 f.1 (λ k. (omega (arith, c, enough g low high), omega (arith, c)))
        ∙ sym (by_lines g (cells_in ρ ns g))

    -- a group that is read has as many cells as its count says
    group_size : (g : ℕ) (cs : List ℤ) → group_read ρ s at g ≡ done cs → length cs ≡ cells_in ρ ns g
    group_size g cs e = read_size ρ ns g (group_part ρ s at ns g) (cells_in ρ ns g) cs (sym (by_lines g (cells_in ρ ns g)) ∙ e)

    sized : (g : ℕ) → 1 ≤ g → g ≤ 60 → (cs : List ℤ) → group_read ρ s at g ≡ done cs → cells_before ρ ns g + length cs ≡ cells_before ρ ns (suc g)
    sized g low high cs e =
        let n : cells_before ρ ns (g + 1) ≡ cells_before ρ ns (suc g) = ap (cells_before ρ ns) (omega arith) in
        omega (arith, group_size g cs e, cells_next ρ ns g low (omega arith), n)

    -- R47: and all together have as many as the counts say
    pub turn_size : (cs : List ℤ) → all_in_turn ρ s at ≡ done cs → length cs ≡ record_cells ρ ns
    turn_size cs e = all_size ρ s (carried_at ρ s at) cs (all_by_lem ρ s at next placed ∙ e)

  pub as_in_turn : AsInTurn ρ s at
  as_in_turn = record {
    equal = λ room roomy rooms enough.
        whole_roomy ρ s at room roomy
        ∙ turn_same (group_read ρ s at) (λ g. read_at ρ s at g (rooms g)) 1 60 (λ g low high. sym (enough_same roomy.placed rooms enough g low (omega arith)));
    stands = λ room cs e rooms enough g low high.
        let roomy = ((first_due ρ s at room (done cs)).0 e).roomy in
        enough_same roomy.placed rooms enough g low high
        ∙ turn_stands (group_read ρ s at) (cells_before ρ ns) (cells_first ρ ns) (sized roomy.placed) cs (sym (whole_roomy ρ s at room roomy) ∙ e) g low high;
    many = λ room cs e. let roomy = ((first_due ρ s at room (done cs)).0 e).roomy in turn_size roomy.placed cs (sym (whole_roomy ρ s at room roomy) ∙ e);
  }
