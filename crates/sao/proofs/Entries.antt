-- R13: the count rule (specs/Entries.antt).
-- Assumes nothing.
use Rattle.std.specs.Prelude.{Option, Some, None}
use mathlib.Core.Path.{◌≡◌, refl, sym, ◌∙◌, ap, ap₂}
use mathlib.Core.List.{List}
use Prim.Native.Nat.{ℕ, suc, ◌+◌, ◌-◌, ◌*◌, min}
use native.Mathlib.Omega.{arith}
use native.Mathlib.Nat.{zero-mul}
use Rattle.rules.specs.declared.Rules.{Rules}
use Rattle.rules.specs.declared.Counting.TheVariants.{Entries}
use Rattle.rules.specs.Choice.{usual}
use Rattle.form.specs.declared.Form.{Form}
use Rattle.form.specs.declared.Form.TheVariants.{E20}
use Rattle.form.specs.Table
use Rattle.form.specs.Table.{row_of, form_of}
use Rattle.form.specs.Count
use Rattle.form.specs.Count.{elements_of, rounded_up, cells_of}
use Rattle.form.proofs.Segments.{segments_forty, elements_none, elements_other, elements_plain, entries_elements, entries_lines}
use Rattle.count.specs.Tally
use Rattle.count.specs.Tally.{count_of, lines_by, cells_by, lines_in, cells_in}
use Rattle.reading.specs.Values.{planned}
use Rattle.sao.specs.Entries.{CountsEntries, CountRule}

row_forty : ((row_of E20).per_line ≡ 6) × ((row_of E20).cells ≡ 2)
unfolding Table.row_of Table.listed_as
row_forty = (refl, refl)

forty : form_of 40 ≡ Some E20
unfolding Table.form_of Table.form_among Table.listed_as
forty = refl

module _ (ρ : Rules) where
  entries_cells : ρ.counting ≡ Entries → (k : ℕ) → cells_of ρ E20 (suc k) ≡ (6 * k + 1) * 2
  unfolding Count.cells_of
  entries_cells e k = ap₂ ◌*◌ (entries_elements ρ e k) row_forty.1

  no_cells : cells_of ρ E20 0 ≡ 0
  unfolding Count.cells_of
  no_cells = ap (λ n. n * (row_of E20).cells) (elements_none ρ E20) ∙ zero-mul (row_of E20).cells

  counts_entries : ρ.counting ≡ Entries → CountsEntries ρ
  unfolding Tally.lines_in Tally.cells_in
  counts_entries e = record {
    some = λ k. record { elements_are = entries_elements ρ e k; lines_are = entries_lines ρ e (suc k); cells_are = entries_cells e k };
    last_line = λ k. on_line k k ∙ omega arith;
    full_line = λ k j l. on_line k j ∙ omega arith;
    none = record { elements_are = elements_none ρ E20; lines_are = entries_lines ρ e 0; cells_are = no_cells };
    record_lines = λ ns k c. ap (lines_by ρ (form_of 40)) c ∙ ap (λ f. lines_by ρ f (suc k)) forty ∙ entries_lines ρ e (suc k);
    record_cells_lem = λ ns k c. ap (cells_by ρ (form_of 40)) c ∙ ap (λ f. cells_by ρ f (suc k)) forty ∙ entries_cells e k;
  }
    where
      on_line : (k j : ℕ) → (planned ρ E20 (suc k) j).many ≡ min 6 (6 * k + 1 - j * 6)
      on_line k j = rw (row_forty.0, entries_elements ρ e k)

  -- any other group, under these rules and under the usual ones
  as_usual : (g : ℕ) (f : Form) → form_of g ≡ Some f → (g ≡ 40 → ⊥) → (n : ℕ) → elements_of ρ f n ≡ elements_of usual f n
  as_usual g f h other n = let s = segments_forty g f h other in elements_other ρ f n s ∙ sym (elements_other usual f n s)

  other_lines : (ns : List ℕ) (g : ℕ) → (g ≡ 40 → ⊥) → lines_in ρ ns g ≡ lines_in usual ns g
  unfolding Tally.lines_in Count.lines_of
  other_lines ns g other = by (form_of g) refl
    where
      by : (f : Option Form) → form_of g ≡ f → lines_by ρ f (count_of ns g) ≡ lines_by usual f (count_of ns g)
      by (Some f) h = ap (λ e. rounded_up e (row_of f).per_line) (as_usual g f h other (count_of ns g))
      by None h = refl

  other_cells : (ns : List ℕ) (g : ℕ) → (g ≡ 40 → ⊥) → cells_in ρ ns g ≡ cells_in usual ns g
  unfolding Tally.cells_in Count.cells_of
  other_cells ns g other = by (form_of g) refl
    where
      by : (f : Option Form) → form_of g ≡ f → cells_by ρ f (count_of ns g) ≡ cells_by usual f (count_of ns g)
      by (Some f) h = ap (λ e. e * (row_of f).cells) (as_usual g f h other (count_of ns g))
      by None h = refl

  pub count_rule : CountRule ρ
  count_rule = record {
    entries = counts_entries;
    elements = elements_plain ρ;
    others = λ g f h other n. elements_other ρ f n (segments_forty g f h other);
    other_lines = other_lines;
    other_cells = other_cells;
    forty = forty;
  }
