-- A canonical record, wherever it stands in whatever text: it is located there with its counts, and the part of each group is the group's own
-- canonical text, with the group's own cells.
-- Assumes nothing.
use Rattle.std.specs.Prelude.{Ok}
use mathlib.Core.Path.{◌≡◌, sym, ◌∙◌, ap, subst}
use mathlib.Core.List.{List, ◌++◌, map, append_assoc}
use Prim.Native.Nat.{ℕ, zero, suc, ◌+◌, ◌-◌, ◌≤◌}
use native.Mathlib.Omega.{arith}
use lib.IntN.{ℤ}
use lib.ListN.{length, take, drop, length-append}
use lib.Seq.{drop-append_seam}
use Rattle.rules.specs.declared.Rules.{Rules}
use Rattle.base.specs.Every.{up_from}
use Rattle.base.specs.Sum
use Rattle.base.specs.Sum.{sum}
use Rattle.base.proofs.Mapped.{map_take}
use Rattle.line.proofs.Pieces.{each_whole}
use Rattle.line.specs.Lines.{feeds, Whole}
use Rattle.line.proofs.Feeds.{feeds_le}
use Rattle.line.proofs.Whole.{whole_append, reach_whole, lines_whole, behind_whole, feeds_whole}
use Rattle.count.specs.Tally
use Rattle.count.specs.Tally.{lines_in, lines_before, record_lines, group_cells}
use Rattle.count.specs.Rules.{release_of}
use Rattle.count.proofs.Tallied.{line_entry, record_two}
use Rattle.place.specs.Index.{counts, read_index}
use Rattle.place.specs.Placing.{located, locate}
use Rattle.place.specs.Parts.{group_part}
use Rattle.place.proofs.Placed.{is_located}
use Rattle.place.proofs.Tiling.{part_lines}
use Rattle.writing.specs.Canonical.{CanonicalGroup, CanonicalRecord}
use Rattle.writing.proofs.CanonicalIndex.{index_whole, index_read}
use Rattle.writing.proofs.GroupCells.{GroupAmong, group_among}
use Rattle.writing.proofs.Canonical.{group_whole, group_cells_lem, canonical_whole}

-- the index and the groups before group g
lines_before_lem : (ρ : Rules) (ns : List ℕ) (g : ℕ) → 1 ≤ g → lines_before ρ ns g ≡ 2 + sum (map (lines_in ρ ns) (take (g - 1) (up_from 1 60)))
unfolding Tally.lines_before Tally.line_tally Sum.sum
lines_before_lem ρ ns zero low = absurd (omega arith)
lines_before_lem ρ ns (suc k) low =
    let e : suc k - 1 ≡ k = omega arith in
    rw (e, map_take (lines_in ρ ns) k (up_from 1 60))

module _ (ρ : Rules) {ns x : List ℕ} {cs : List ℤ} (h : CanonicalRecord ρ ns x cs) (a b : List ℕ) where
  abbrev pub in_text : List ℕ
  in_text = a ++ (x ++ b)

  pub standing_located : release_of ns ≡ Ok tt → locate ρ in_text (length a) ≡ located (length a + length x) ns
  standing_located five =
      let u : Whole (record_lines ρ ns) x = canonical_whole ρ h in
      let d : drop (length a) in_text ≡ x ++ b = drop-append_seam a (x ++ b) in
      let n : feeds (x ++ b) ≡ record_lines ρ ns + feeds b = feeds_whole b u in
      let i : read_index ρ (x ++ b) ≡ counts ns =
      rw (h.is, append_assoc (h.first ++ h.second) h.groups b) (index_read ρ ns h.first h.second h.many h.first_line h.second_line (h.groups ++ b)) in
      is_located ρ in_text (length a) (length a + length x) ns record {
        inside = omega (arith, length-append a (x ++ b), feeds_le (x ++ b), record_two ρ ns);
        head = rw d (omega (arith, record_two ρ ns));
        index = rw d i;
        release = five;
        many = rw d (omega arith);
        next = rw d (ap (λ k. length a + k) (sym (reach_whole b u)));
      }

  -- a group is found behind the lines of the groups before it
  module _ (g : ℕ) (low : 1 ≤ g) (high : g ≤ 60) where
    m : GroupAmong ρ ns (CanonicalGroup ρ ns) h.groups cs g
    m = group_among ρ ns (group_cells_lem ρ ns) h.groups cs h.each g low high

    before_lines : Whole (lines_before ρ ns g) ((h.first ++ h.second) ++ m.first)
    before_lines =
        subst (λ k. Whole k ((h.first ++ h.second) ++ m.first)) (sym (lines_before_lem ρ ns g low))
        (whole_append (index_whole ρ ns h.first h.second h.many h.first_line h.second_line)
        (each_whole (lines_in ρ ns) (group_whole ρ ns) (take (g - 1) (up_from 1 60)) m.first m.first_cells m.before))

    its_lines : group_part ρ in_text (length a) ns g ≡ m.itself
    its_lines =
        let t : x ++ b ≡ ((h.first ++ h.second) ++ m.first) ++ (m.itself ++ (m.rest ++ b)) = ap (λ y. y ++ b) (h.is ∙ ap (λ y. (h.first ++ h.second) ++ y) m.text) ∙ simp append_assoc in
        part_lines ρ in_text (length a) ns g (omega arith)
        ∙ rw (line_entry ρ ns g low (omega arith), drop-append_seam a (x ++ b), t, behind_whole (m.itself ++ (m.rest ++ b)) before_lines)
        (lines_whole (m.rest ++ b) (group_whole ρ ns g m.itself (group_cells ρ ns cs g) m.holds))

    pub standing_group : CanonicalGroup ρ ns g (group_part ρ in_text (length a) ns g) (group_cells ρ ns cs g)
    standing_group = rw its_lines m.holds
