-- R12: rules that count alike give counts the same lines and cells, and check them alike.
-- Assumes nothing.
use mathlib.Core.Path.{◌≡◌, refl, ap}
use mathlib.Core.Bool.{cond}
use mathlib.Core.List.{List, ◌∷◌}
use Prim.Native.Nat.{ℕ}
use lib.Dec.{eqb}
use lib.ListN.{take}
use Rattle.rules.specs.declared.Rules.{Rules}
use Rattle.base.specs.Every.{up_from}
use Rattle.base.specs.Sum.{sum}
use Rattle.base.proofs.Mapped.{map_same}
use Rattle.form.specs.declared.Form.{Form}
use Rattle.std.proofs.Common.{Option, Some, None, Ok, Err}
use Rattle.form.specs.Table.{form_of}
use Rattle.form.proofs.Segments as Segments
use Rattle.reply.specs.declared.Refusal.TheVariants.{OtherLength}
use Rattle.count.specs.Tally.{count_of, lines_by, cells_by, lines_in, cells_in, line_tally, cell_tally, lines_before, cells_before, record_lines, record_cells}
use Rattle.count.specs.Check.{accepted_of, and_then, checked_of}

module _ (σ ρ : Rules) (alike : σ.counting ≡ ρ.counting) (ns : List ℕ) where
  pub lines_same : (g : ℕ) → lines_in σ ns g ≡ lines_in ρ ns g
  unfolding lines_in
  lines_same g = by (form_of g)
    where
      by : (f : Option Form) → lines_by σ f (count_of ns g) ≡ lines_by ρ f (count_of ns g)
      by (Some f) = Segments.lines_same σ ρ alike f (count_of ns g)
      by None = refl

  pub cells_same : (g : ℕ) → cells_in σ ns g ≡ cells_in ρ ns g
  unfolding cells_in
  cells_same g = by (form_of g)
    where
      by : (f : Option Form) → cells_by σ f (count_of ns g) ≡ cells_by ρ f (count_of ns g)
      by (Some f) = Segments.cells_same σ ρ alike f (count_of ns g)
      by None = refl

  pub line_tally_same : line_tally σ ns ≡ line_tally ρ ns
  unfolding line_tally
  line_tally_same = ap (λ xs. 2 ∷ xs) (map_same (lines_in σ ns) (lines_in ρ ns) lines_same (up_from 1 60))

  pub cell_tally_same : cell_tally σ ns ≡ cell_tally ρ ns
  unfolding cell_tally
  cell_tally_same = ap (λ xs. 0 ∷ xs) (map_same (cells_in σ ns) (cells_in ρ ns) cells_same (up_from 1 60))

  pub lines_before_same : (g : ℕ) → lines_before σ ns g ≡ lines_before ρ ns g
  unfolding lines_before
  lines_before_same g = ap (λ xs. sum (take g xs)) line_tally_same

  pub record_lines_same : record_lines σ ns ≡ record_lines ρ ns
  record_lines_same = ap sum line_tally_same

  pub record_cells_same : record_cells σ ns ≡ record_cells ρ ns
  record_cells_same = ap sum cell_tally_same

  pub cells_before_same : (g : ℕ) → cells_before σ ns g ≡ cells_before ρ ns g
  unfolding cells_before
  cells_before_same g = ap (λ xs. sum (take g xs)) cell_tally_same

  -- R302: so a table is as long as they ask for under each of them or under none
  pub check_same : (cells : ℕ) → checked_of σ ns cells ≡ checked_of ρ ns cells
  unfolding checked_of
  check_same cells = ap (λ n. and_then (accepted_of ns) (cond (eqb cells n) (Ok tt) (Err OtherLength))) record_cells_same
