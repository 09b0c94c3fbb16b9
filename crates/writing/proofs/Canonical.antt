-- A canonical record: each canonical record is the text that is written for its counts and cells, so that these have no second one; and
-- wherever it stands in whatever text, its counts are found, and the lines of each group read as the group's own cells.
-- Assumes nothing.
use Rattle.std.specs.Prelude.{Option, Some, None}
use mathlib.Core.Path.{◌≡◌, sym, ◌∙◌, ap₂, subst}
use mathlib.Core.List.{List, ◌++◌, map}
use Prim.Native.Nat.{ℕ}
use native.Mathlib.Nat.{zero-add}
use lib.IntN.{ℤ}
use lib.ListN.{length, take, drop}
use Rattle.rules.specs.declared.Rules.{Rules}
use Rattle.base.specs.Every.{up_from}
use Rattle.base.specs.Pieces.{done}
use Rattle.base.specs.Sum
use Rattle.base.specs.Sum.{sum}
use Rattle.base.proofs.Each.{each_cells, each_emit}
use Rattle.form.specs.declared.Form.{Form}
use Rattle.form.specs.Table.{form_of}
use Rattle.line.proofs.Pieces.{each_whole}
use Rattle.line.specs.Lines.{Whole}
use Rattle.line.proofs.Whole.{whole_append}
use Rattle.count.specs.Tally
use Rattle.count.specs.Tally.{count_of, lines_by, cells_by, lines_in, cells_in, record_lines, record_cells}
use Rattle.reading.specs.Blanks.{may_be_short}
use Rattle.reading.specs.Read.{read_lines}
use Rattle.writing.specs.Text.{group_text_by, group_text, groups_text, index_text, record_text}
use Rattle.writing.specs.Canonical.{CanonicalGroupBy, CanonicalGroup, CanonicalRecord}
use Rattle.writing.proofs.CanonicalGroups as Lines
use Rattle.writing.proofs.CanonicalIndex.{index_line_text, index_whole}

-- ---- a group, by its form

module _ (ρ : Rules) (count : ℕ) (x : List ℕ) (c : List ℤ) where
  by_whole : (h : Option Form) → CanonicalGroupBy ρ h count x c → Whole (lines_by ρ h count) x
  by_whole (Some f) p = Lines.lines_whole ρ f count x c p
  by_whole None p = absurd p

  by_cells : (h : Option Form) → CanonicalGroupBy ρ h count x c → length c ≡ cells_by ρ h count
  by_cells (Some f) p = Lines.lines_cells ρ f count x c p
  by_cells None p = absurd p

  by_text : (h : Option Form) → CanonicalGroupBy ρ h count x c → x ≡ group_text_by ρ h count c
  by_text (Some f) p = Lines.lines_text_lem ρ f count x c p
  by_text None p = absurd p

module _ (ρ : Rules) (ns : List ℕ) where
  pub group_whole : (g : ℕ) (x : List ℕ) (c : List ℤ) → CanonicalGroup ρ ns g x c → Whole (lines_in ρ ns g) x
  unfolding Tally.lines_in
  group_whole g x c p = by_whole ρ (count_of ns g) x c (form_of g) p

  pub group_cells_lem : (g : ℕ) (x : List ℕ) (c : List ℤ) → CanonicalGroup ρ ns g x c → length c ≡ cells_in ρ ns g
  unfolding Tally.cells_in
  group_cells_lem g x c p = by_cells ρ (count_of ns g) x c (form_of g) p

  group_text_lem : (g : ℕ) (x : List ℕ) (c : List ℤ) → CanonicalGroup ρ ns g x c → x ≡ group_text ρ ns g c
  unfolding group_text
  group_text_lem g x c p = by_text ρ (count_of ns g) x c (form_of g) p

  pub group_read_lem : (g : ℕ) (f : Form) (x : List ℕ) (c : List ℤ) → form_of g ≡ Some f → CanonicalGroup ρ ns g x c → read_lines ρ f (may_be_short g) (count_of ns g) x ≡ done c
  group_read_lem g f x c e p = Lines.lines_read ρ f (count_of ns g) x c (rw e at p) (may_be_short g)

-- ---- canonical text is one

module _ (ρ : Rules) {ns x : List ℕ} {cs : List ℤ} (h : CanonicalRecord ρ ns x cs) where
  -- a canonical record is what is written for its counts and cells
  pub canonical_text : x ≡ record_text ρ ns cs
  unfolding record_text index_text groups_text
  canonical_text =
      h.is
      ∙ ap₂ ◌++◌
      (ap₂ ◌++◌ (index_line_text ρ (take 40 ns) h.first h.first_line) (index_line_text ρ (drop 40 ns) h.second h.second_line))
      (each_emit (cells_in ρ ns) (group_text ρ ns) (λ g y c p. (group_text_lem ρ ns g y c p, group_cells_lem ρ ns g y c p)) (up_from 1 60) h.groups cs h.each)

  pub canonical_cells : length cs ≡ record_cells ρ ns
  unfolding Tally.cell_tally Sum.sum
  canonical_cells = each_cells (cells_in ρ ns) (group_cells_lem ρ ns) (up_from 1 60) h.groups cs h.each ∙ sym (zero-add (sum (map (cells_in ρ ns) (up_from 1 60))))

  pub canonical_whole : Whole (record_lines ρ ns) x
  unfolding Tally.line_tally Sum.sum
  canonical_whole =
      subst (Whole (record_lines ρ ns)) (sym h.is)
      (whole_append (index_whole ρ ns h.first h.second h.many h.first_line h.second_line) (each_whole (lines_in ρ ns) (group_whole ρ ns) (up_from 1 60) h.groups cs h.each))

-- the same counts and cells have one canonical record and no second
pub canonical_one : (ρ : Rules) (ns x y : List ℕ) (cs : List ℤ) → CanonicalRecord ρ ns x cs → CanonicalRecord ρ ns y cs → x ≡ y
canonical_one ρ ns x y cs p q = canonical_text ρ p ∙ sym (canonical_text ρ q)
