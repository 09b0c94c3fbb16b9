-- The two passes over a group by themselves: what the check finds and what is filled are the reading of the group into a table with just as many
-- cells as it needs. Room is no question then, so lines and date decide.
-- Assumes nothing.
use Rattle.std.specs.Prelude.{Some, None, Ok}
use mathlib.Core.Path.{◌≡◌, refl, sym, ◌∙◌, ap}
use mathlib.Core.List.{List, [], ◌++◌}
use Prim.Native.Nat.{ℕ, ◌+◌, ◌-◌, ◌≤◌}
use native.Mathlib.Omega.{arith}
use borrow.Author.Tests.{le-leb}
use lib.IntN.{ℤ}
use lib.ListN.{length, take, drop}
use Rattle.rules.specs.declared.Rules.{Rules}
use Rattle.base.specs.Part.{part, over}
use Rattle.base.specs.Pieces.{done, cells_got}
use Rattle.base.proofs.Part.{over_all, over_lent, part_length}
use Rattle.form.specs.declared.Form.{Form}
use Rattle.form.specs.Table.{form_of}
use Rattle.form.specs.Count.{cells_of}
use Rattle.form.proofs.Table.{group_form}
use Rattle.count.specs.Rules.{ruling_of}
use Rattle.count.specs.Tally.{count_of, cells_in}
use Rattle.count.proofs.Tallied.{cells_has}
use Rattle.reading.specs.Blanks.{may_be_short}
use Rattle.reading.specs.Read.{Cells, read_lines, dated, read_form, read_group, verdict_of}
use Rattle.reading.proofs.Promises.{no_elements, read_none}
use Rattle.reading.proofs.Sizes.{clean_read, group_size}
use Rattle.reading.proofs.Steps.{clean_cells}

module _ (ρ : Rules) (ns : List ℕ) (g : ℕ) (x : List ℕ) (kept : ruling_of ns ≡ None) where
  abbrev fitting : Cells
  fitting = read_group ρ ns g x (cells_in ρ ns g)

  -- R268: a count of 0
  pub fitting_none : 1 ≤ g → g ≤ 60 → count_of ns g ≡ 0 → (fitting ≡ done []) × (cells_in ρ ns g ≡ 0)
  fitting_none low high none =
      let f = group_form g low high in
      (read_none ρ ns g x (cells_in ρ ns g) f.0 f.1 kept none, cells_has ρ ns g f.0 f.1 ∙ ap (cells_of ρ f.0) none ∙ (no_elements ρ f.0).1)

  module _ (f : Form) (has : form_of g ≡ Some f) {count : ℕ} (its : count ≡ count_of ns g) where
    abbrev lines : Cells
    lines = read_lines ρ f (may_be_short g) count x

    pub fitting_cells : cells_in ρ ns g ≡ cells_of ρ f count
    fitting_cells = cells_has ρ ns g f has ∙ ap (cells_of ρ f) (sym its)

    pub fitting_is : fitting ≡ dated g lines
    unfolding read_group read_form
    fitting_is = rw (has, kept, fitting_cells, ← its, le-leb (cells_of ρ f count) (cells_of ρ f count) (omega arith)) refl

    module _ (clean : verdict_of fitting ≡ Ok tt) where
      dated_clean : verdict_of (dated g lines) ≡ Ok tt
      dated_clean = ap verdict_of (sym fitting_is) ∙ clean

      fitting_lines : fitting ≡ lines
      fitting_lines = fitting_is ∙ clean_cells g lines dated_clean

      pub lines_clean : verdict_of lines ≡ Ok tt
      lines_clean = ap verdict_of (sym fitting_lines) ∙ clean

      -- what was filled in a part of the table that was lent
      pub filled_part : (table : List ℤ) (cell end : ℕ) {new : List ℤ} → end ≡ cell + cells_of ρ f count → end ≤ length table → new ≡ over 0 (cells_got lines) (part cell end table)
          → take cell table ++ (new ++ drop (end - cell) (drop cell table)) ≡ over cell (cells_got fitting) table
      filled_part table cell end {new} e room n =
          let r = clean_read lines lines_clean in
          let size : length (cells_got lines) ≡ cells_of ρ f count = ap (λ y. length (cells_got y)) r.is ∙ group_size ρ f (may_be_short g) count x r.cells r.is in
          let wide : length (part cell end table) ≡ cells_of ρ f count = ap (λ k. length (part cell k table)) e ∙ part_length table cell (cells_of ρ f count) (omega arith) in
          let all : new ≡ cells_got lines = n ∙ over_all (part cell end table) (cells_got lines) (size ∙ sym wide) in
          over_lent table new cell (end - cell) (omega (arith, ap length all, size)) ∙ ap (λ xs. over cell xs table) (all ∙ ap cells_got (sym fitting_lines))
