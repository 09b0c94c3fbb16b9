-- A record that is placed with 0 carries a part of the text for each group, and that is the group's lines.
-- Assumes nothing.
use Rattle.std.specs.Prelude.{Ok}
use mathlib.Core.Path.{◌≡◌, refl, sym, ◌∙◌, ap, subst}
use mathlib.Core.List.{List}
use Prim.Native.Nat.{ℕ, suc, ◌-◌, ◌<◌, ◌≤◌}
use native.Mathlib.Omega.{arith}
use lib.ListN.{length, get_or}
use Rattle.rules.specs.declared.Rules.{Rules}
use Rattle.place.specs.Parts
use Rattle.place.specs.Parts.{start, group_part}
use Rattle.place.specs.Parted.{Parted, lines_named}
use Rattle.place.specs.declared.Placing.{Placing}
use Rattle.place.specs.declared.Placing.TheVariants.{Placed, BrokenRule, Refused}
use Rattle.place.specs.declared.Record.{Record}
use Rattle.place.specs.Numbered.{as_checked}
use Rattle.place.specs.Placing.{Carried, placing_of, counts_at, starts_at, ends_at, carried_by, carried_at}
use Rattle.place.proofs.Placed.{located_range}
use Rattle.place.proofs.Spans.{starts_length, ends_length, start_at, end_at_lem}
use Rattle.place.proofs.Tiling.{start_mono, start_within}
use Rattle.place.proofs.Zero.{IsPlaced, is_placed_lem}

-- what a record names for a group: both places are among those that are lent, and what stands between them is a part of the text
module _ {s : List ℕ} {r : Carried} (p : Parted s r) {g : ℕ} (low : 1 ≤ g) (high : g ≤ 60) where
  pub named : ((g - 1 < length r.starts_of) × (g - 1 < length r.ends_of))
      × ((get_or r.starts_of (g - 1) 0 ≤ get_or r.ends_of (g - 1) 0) × (get_or r.ends_of (g - 1) 0 ≤ length s))
  named = ((omega (arith, p.listed.0), omega (arith, p.listed.1)), p.within (g - 1) (omega arith))

module _ (ρ : Rules) (s : List ℕ) (at next : ℕ) (placed : placing_of ρ s at ≡ Placed next) where
  abbrev ns : List ℕ
  ns = counts_at ρ s at

  here : IsPlaced ρ s at next
  here = is_placed_lem ρ s at next placed

  begins : (g : ℕ) → 1 ≤ g → g ≤ 60 → get_or (starts_at ρ s at) (g - 1) 0 ≡ start ρ s at ns g
  begins g low high = start_at ρ s at next ns here.located_at g low high

  stops : (g : ℕ) → 1 ≤ g → g ≤ 60 → get_or (ends_at ρ s at) (g - 1) 0 ≡ start ρ s at ns (suc g)
  stops g low high = end_at_lem ρ s at next ns here.located_at g low high

  pub parted_at : Parted s (carried_at ρ s at)
  parted_at = record {
    kept = here.kept;
    listed = (omega (arith, starts_length ρ s at), omega (arith, ends_length ρ s at));
    within = λ i few.
        let e : suc i - 1 ≡ i = omega arith in
        let b = sym (ap (λ k. get_or (starts_at ρ s at) k 0) e) ∙ begins (suc i) (omega arith) (omega arith) in
        let d = sym (ap (λ k. get_or (ends_at ρ s at) k 0) e) ∙ stops (suc i) (omega arith) (omega arith) in
        let inside = start_within ρ s at next ns here.located_at (suc (suc i)) (omega arith) in (
          omega (arith, b, d, start_mono ρ s at ns (suc i) (suc (suc i)) (omega arith)),
          omega (arith, d, inside, located_range ρ s at next ns here.located_at),
        );
  }

  pub named_lines : (g : ℕ) → 1 ≤ g → g ≤ 60 → lines_named s (carried_at ρ s at) g ≡ group_part ρ s at ns g
  unfolding Parts.group_part
  named_lines g low high = rw (begins g low high, stops g low high)

-- a record as placing gives it, where its answer is 0
pub placed_parted : (ρ : Rules) (s : List ℕ) (at : ℕ) (r : Record) → r.answer ≡ placing_of ρ s at → r.counts ≡ counts_at ρ s at → r.starts ≡ starts_at ρ s at → r.ends ≡ ends_at ρ s at
    → as_checked r.answer ≡ Ok tt → Parted s (carried_by r)
placed_parted ρ s at r a n b e zero = by r.answer refl zero
  where
    carries : carried_by r ≡ carried_at ρ s at
    carries = rw (n, b, e) refl

    by : (p : Placing) → r.answer ≡ p → as_checked p ≡ Ok tt → Parted s (carried_by r)
    by (Placed next) u z = subst (Parted s) (sym carries) (parted_at ρ s at next (sym a ∙ u))
    by (BrokenRule g next) u z = let z : ◌≡◌ {A = ℕ} 0 1 = cc in absurd (omega arith)
    by (Refused why) u z = let z : ◌≡◌ {A = ℕ} 0 1 = cc in absurd (omega arith)
