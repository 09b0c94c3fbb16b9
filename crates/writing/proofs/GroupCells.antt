-- The groups of a record as pieces, each with its own cells: group g among the others; cells that are told group by group.
-- Assumes nothing.
use mathlib.Core.Path.{◌≡◌, sym, ◌∙◌, ap, subst}
use mathlib.Core.List.{List, ◌++◌}
use Prim.Native.Nat.{ℕ, zero, suc, ◌+◌, ◌-◌, ◌<◌, ◌≤◌}
use native.Mathlib.Nat.{sub-zero}
use native.Mathlib.Numerals.{add-one}
use native.Mathlib.Omega.{arith}
use lib.IntN.{ℤ}
use lib.ListN.{length, take, get_or}
use lib.Seq.{take_all}
use Rattle.rules.specs.declared.Rules.{Rules}
use Rattle.base.specs.Every.{up_from}
use Rattle.base.specs.Part.{part}
use Rattle.base.specs.Pieces.{Each}
use Rattle.base.specs.Sum
use Rattle.base.proofs.Each.{each_cells, Among, among}
use Rattle.base.proofs.Mapped.{map_take}
use Rattle.base.proofs.Part.{part_middle}
use Rattle.base.proofs.Taken.{drop_none}
use Rattle.base.proofs.UpFrom.{length_up, get_d_up, flat_same, parts_flat}
use Rattle.count.specs.Tally
use Rattle.count.specs.Tally.{cells_in, cell_tally, cells_before, record_cells, group_cells, joined}
use Rattle.count.proofs.Tallied.{before_groups, all_cells, cells_next, cells_below}

-- group g, with what stands before it and behind it
pub record GroupAmong (ρ : Rules) (ns : List ℕ) (P : ℕ → List ℕ → List ℤ → Type 0) (s : List ℕ) (cs : List ℤ) (g : ℕ) : Type 0 where
  pub first : List ℕ
  pub itself : List ℕ
  pub rest : List ℕ
  pub first_cells : List ℤ
  pub before : Each P (take (g - 1) (up_from 1 60)) first first_cells
  pub holds : P g itself (group_cells ρ ns cs g)
  pub text : s ≡ first ++ (itself ++ rest)

module _ (ρ : Rules) (ns : List ℕ) {P : ℕ → List ℕ → List ℤ → Type 0} (sized : (g : ℕ) (x : List ℕ) (c : List ℤ) → P g x c → length c ≡ cells_in ρ ns g) (s : List ℕ) (cs : List ℤ)
    (h : Each P (up_from 1 60) s cs) where
  module _ (k : ℕ) (few : k < 60) where
    m : Among P (up_from 1 60) k (get_or (up_from 1 60) k 0) s cs
    m = among 0 (up_from 1 60) k s cs (omega (arith, length_up 1 60)) h

    it : P (suc k) m.itself m.cells
    it =
        let e : get_or (up_from 1 60) k 0 ≡ suc k = get_d_up 1 60 k 0 few ∙ omega arith in
        subst (λ g. P g m.itself m.cells) e m.holds

    before_cells : length m.first_cells ≡ cells_before ρ ns (suc k)
    unfolding Tally.cells_before Tally.cell_tally Sum.sum
    before_cells =
        each_cells (cells_in ρ ns) sized (take k (up_from 1 60)) m.first m.first_cells m.before
        ∙ rw (← map_take (cells_in ρ ns) k (up_from 1 60)) (omega arith)

    its_cells : group_cells ρ ns cs (suc k) ≡ m.cells
    its_cells =
        let e : cells_before ρ ns (suc (suc k)) ≡ length m.first_cells + length m.cells =
        rw (add-one (suc k)) at (cells_next ρ ns (suc k) (omega arith) (omega arith)) ∙ omega (arith, before_cells, sized (suc k) m.itself m.cells it) in
        ap (part (cells_before ρ ns (suc k)) (cells_before ρ ns (suc (suc k)))) m.all
        ∙ rw (e, ← before_cells) (part_middle m.first_cells m.cells m.rest_cells)

  pub group_among : (g : ℕ) → 1 ≤ g → g ≤ 60 → GroupAmong ρ ns P s cs g
  group_among zero low high = absurd (omega arith)
  group_among (suc k) low high =
      let few : k < 60 = omega arith in
      let a = m k few in
      let e : suc k - 1 ≡ k = omega arith in
      record {
        first = a.first;
        itself = a.itself;
        rest = a.rest;
        first_cells = a.first_cells;
        before = rw e a.before;
        holds = rw (its_cells k few) (it k few);
        text = a.text;
      }

-- cells are those of all groups, joined
pub cells_joined : (ρ : Rules) (ns : List ℕ) (cs : List ℤ) (cells : ℕ → List ℤ) → length cs ≡ record_cells ρ ns → ((g : ℕ) → 1 ≤ g → g ≤ 60 → group_cells ρ ns cs g ≡ cells g) → cs ≡ joined cells
cells_joined ρ ns cs cells n e =
    sym
    (flat_same cells (group_cells ρ ns cs) 1 60 (λ g low high. sym (e g low (omega arith)))
    ∙ parts_flat (cells_before ρ ns) cs (λ g. cells_below ρ ns g (suc g) (omega arith)) 1 60
    ∙ whole)
  where
    whole : part (cells_before ρ ns 1) (cells_before ρ ns 61) cs ≡ cs
    whole = rw (← (before_groups ρ ns).cells_are, all_cells ρ ns, sub-zero (record_cells ρ ns), drop_none cs) (take_all (record_cells ρ ns) cs (omega arith))
