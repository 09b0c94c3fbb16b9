-- Counts and cells that were checked: how many they are, and that the index and the groups behind it are the text.
-- Assumes nothing.
use Rattle.std.specs.Prelude.{Ok}
use mathlib.Core.Path.{◌≡◌, sym, ◌∙◌}
use mathlib.Core.List.{List}
use Prim.Native.Nat.{ℕ, ◌+◌, ◌≤◌}
use native.Mathlib.Omega.{arith}
use lib.IntN.{ℤ}
use lib.ListN.{length, length-append}
use Rattle.rules.specs.declared.Rules.{Rules}
use Rattle.base.specs.Part.{over}
use Rattle.base.proofs.Part.{over_then}
use Rattle.count.specs.Check.{checked_of}
use Rattle.count.specs.Tally.{cells_before}
use Rattle.count.proofs.Tallied.{all_cells}
use Rattle.writing.specs.Fitting.{fit_of}
use Rattle.writing.specs.Text.{index_text, groups_text, record_text, record_bytes}
use Rattle.count.proofs.Due as Counts
use Rattle.writing.proofs.Lengths.{index_length, record_length}

module _ (ρ : Rules) (ns : List ℕ) (cs : List ℤ) (old : List ℕ) where
  module _ (c : checked_of ρ ns (length cs) ≡ Ok tt) where
    pub all_needed : length cs ≡ cells_before ρ ns 61
    all_needed = ((Counts.first_due ρ ns (length cs) (Ok tt)).0 c).needed ∙ sym (all_cells ρ ns)

    pub all_there : length ns ≡ 80
    all_there = ((Counts.first_due ρ ns (length cs) (Ok tt)).0 c).rules.released.counts.many

    module _ (fit : fit_of ρ ns cs ≡ Ok tt) (room : record_bytes ρ ns ≤ length old) where
      whole : 244 + length (groups_text ρ ns cs) ≡ record_bytes ρ ns
      unfolding record_text
      whole = omega (arith, record_length ρ ns cs all_there fit, length-append (index_text ns) (groups_text ρ ns cs), index_length ns all_there)

      pub index_room : 244 ≤ length old
      index_room = omega (arith, whole)

      pub groups_room : 244 + length (groups_text ρ ns cs) ≤ length old
      groups_room = omega (arith, whole)

      pub index_groups : (mid new : List ℕ) → mid ≡ over 0 (index_text ns) old → new ≡ over 244 (groups_text ρ ns cs) mid → new ≡ over 0 (record_text ρ ns cs) old
      unfolding record_text
      index_groups mid new p q = over_then old (index_text ns) (groups_text ρ ns cs) 0 244 (omega (arith, index_length ns all_there), index_room) p q
