-- What is written for counts and cells that fit is canonical: each entry and index line, each field, line and group, and the record.
-- Assumes nothing.
use Rattle.std.specs.Prelude.{Option, Some, None, Ok}
use mathlib.Core.Path.{◌≡◌, refl, sym, ◌∙◌}
use mathlib.Core.Bool.{◌&&◌}
use mathlib.Core.List.{List, [], ◌∷◌, ◌++◌, map}
use Prim.Native.Nat.{ℕ}
use native.Mathlib.Nat.{zero-add}
use native.Mathlib.Omega.{arith}
use lib.Dec.{T, leb, leb→le}
use lib.IntN.{ℤ}
use lib.ListN.{length, take, drop}
use Rattle.rules.specs.declared.Rules.{Rules}
use Rattle.base.specs.Every
use Rattle.base.specs.Every.{every, up_from}
use Rattle.base.specs.Pieces.{Each, none, more}
use Rattle.base.specs.Sum
use Rattle.base.specs.Sum.{sum}
use Rattle.base.proofs.Choice.{and_left, and_right}
use Rattle.base.proofs.Each.{each_imply, each_passed, own_each}
use Rattle.base.proofs.Every.{every_take, every_drop}
use Rattle.base.proofs.UpFrom.{sum_up_same}
use Rattle.form.specs.declared.Form.{Form}
use Rattle.form.specs.Table.{row_of, form_of}
use Rattle.form.specs.Count
use Rattle.form.specs.Count.{is_count, elements_of, cells_of}
use Rattle.field.specs.Entry.{index_entry_text}
use Rattle.field.specs.Write.{fits_of, field_text}
use Rattle.field.proofs.Entries.{entry_canonical}
use Rattle.field.proofs.Laws.{lawful}
use Rattle.count.specs.Tally
use Rattle.count.specs.Tally.{count_of, cells_by, cells_in, record_cells}
use Rattle.form.proofs.Table.{has_form}
use Rattle.reading.specs.Plan
use Rattle.reading.specs.Plan.{Line, plan_of, elements_in}
use Rattle.writing.specs.Text.{line_end, entries_text, index_text, line_cells, fields_text, line_text, many_text, lines_text, group_text_by, group_text, groups_text, record_text}
use Rattle.writing.specs.Fitting.{Fitted, group_fit_by, group_fit, fit_of}
use Rattle.writing.specs.Canonical.{EntryOf, CanonicalIndexLine, CanonicalLine, CanonicalLines, CanonicalGroupBy, CanonicalGroup, CanonicalRecord}
use Rattle.writing.proofs.Fitting.{elements_fitted, fitted_own, lines_own, groups_own}
use Rattle.writing.proofs.Lengths.{plan_cells}

-- ---- the index

entries_canonical : (ns : List ℕ) → T (every is_count ns) → Each EntryOf ns (entries_text ns) ns
unfolding entries_text
entries_canonical [] t = none
entries_canonical (n ∷ ns) t =
    more (index_entry_text n) (n ∷ []) (entry_canonical n (and_left (is_count n) (every is_count ns) t), refl) (entries_canonical ns (and_right (is_count n) (every is_count ns) t))

index_line_canonical : (ns : List ℕ) → T (every is_count ns) → CanonicalIndexLine ns (entries_text ns ++ line_end)
index_line_canonical ns t = record { content = entries_text ns; good = entries_canonical ns t; is = refl }

-- ---- a line

module _ (ρ : Rules) (f : Form) where
  line_canonical : (l : Line) (c : List ℤ) → length c ≡ line_cells f l → Fitted f l.many c → CanonicalLine f l (line_text f l c) c
  unfolding line_text fields_text
  line_canonical l c n h =
      let size : ℕ → ℕ = λ e. (row_of f).cells in
      record {
        content = fields_text f l c;
        good = own_each size (λ e c. field_text f c) (λ e c. T (fits_of f c)) (λ e c n t. (lawful f).canonical c t) (elements_in l) c
            (n ∙ sym (sum_up_same (row_of f).cells l.first l.many)) (fitted_own f l.first l.many c h);
        is = refl;
      }

  -- ---- a group

  lines_canonical : (count : ℕ) (cs : List ℤ) → length cs ≡ cells_of ρ f count → Fitted f (elements_of ρ f count) cs → CanonicalLines ρ f count (lines_text ρ f count cs) cs
  unfolding lines_text many_text Plan.plan_of Count.cells_of
  lines_canonical count cs n h =
      own_each (line_cells f) (line_text f) (λ l c. Fitted f l.many c) line_canonical (plan_of ρ f count) cs (n ∙ sym (plan_cells ρ f count (row_of f).cells)) (lines_own ρ f count cs h)

by_canonical : (ρ : Rules) (h : Option Form) (g count : ℕ) (c : List ℤ) → (h ≡ None → ⊥) → length c ≡ cells_by ρ h count → group_fit_by ρ h g count c ≡ Ok tt
    → CanonicalGroupBy ρ h count (group_text_by ρ h count c) c
by_canonical ρ (Some f) g count c some n e = lines_canonical ρ f count c n (elements_fitted ρ f g count c e)
by_canonical ρ None g count c some n e = some refl

-- ---- a record

pub all_groups : T (every (λ g. leb 1 g && leb g 60) (up_from 1 60))
unfolding Every.up_from
all_groups = tt

module _ (ρ : Rules) (ns : List ℕ) where
  group_canonical : (g : ℕ) (c : List ℤ) → length c ≡ cells_in ρ ns g → group_fit ρ ns g c ≡ Ok tt → T (leb 1 g && leb g 60) → CanonicalGroup ρ ns g (group_text ρ ns g c) c
  unfolding group_text Tally.cells_in
  group_canonical g c n e t =
      let low = leb→le 1 g (and_left (leb 1 g) (leb g 60) t) in
      let high = leb→le g 60 (and_right (leb 1 g) (leb g 60) t) in
      by_canonical ρ (form_of g) g (count_of ns g) c (has_form g low (omega arith)) n e

  groups_canonical : (cs : List ℤ) → length cs ≡ record_cells ρ ns → fit_of ρ ns cs ≡ Ok tt → Each (CanonicalGroup ρ ns) (up_from 1 60) (groups_text ρ ns cs) cs
  unfolding groups_text Tally.cell_tally Sum.sum
  groups_canonical cs n e =
      let size : length cs ≡ sum (map (cells_in ρ ns) (up_from 1 60)) = n ∙ zero-add (sum (map (cells_in ρ ns) (up_from 1 60))) in
      each_imply (λ g x c p. p.1 p.0) (up_from 1 60) (groups_text ρ ns cs) cs
      (each_passed (λ g. leb 1 g && leb g 60) (up_from 1 60) (groups_text ρ ns cs) cs all_groups
      (own_each {P = λ g x c. T (leb 1 g && leb g 60) → CanonicalGroup ρ ns g x c} (cells_in ρ ns) (group_text ρ ns) (λ g c. group_fit ρ ns g c ≡ Ok tt) group_canonical
      (up_from 1 60) cs size (groups_own ρ ns cs e)))

  pub written_canonical : (cs : List ℤ) → length ns ≡ 80 → T (every is_count ns) → length cs ≡ record_cells ρ ns → fit_of ρ ns cs ≡ Ok tt → CanonicalRecord ρ ns (record_text ρ ns cs) cs
  unfolding record_text index_text
  written_canonical cs many small n e =
      record {
        many = many;
        first = entries_text (take 40 ns) ++ line_end;
        second = entries_text (drop 40 ns) ++ line_end;
        groups = groups_text ρ ns cs;
        first_line = index_line_canonical (take 40 ns) (every_take is_count 40 ns small);
        second_line = index_line_canonical (drop 40 ns) (every_drop is_count 40 ns small);
        each = groups_canonical cs n e;
        is = refl;
      }
