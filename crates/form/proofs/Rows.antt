-- R48, the rule of the table, by one test over the forms: a line's fields take at most 120 columns, and every number of a row is 1 to 120, and so
-- are the cells of a full line.
-- Assumes nothing.
use mathlib.Core.Bool.{Bool, ◌&&◌}
use Prim.Native.Nat.{◌*◌, ◌≤◌}
use lib.Dec.{T, leb, leb→le}
use Rattle.base.specs.Every.{every}
use Rattle.base.proofs.Choice.{and_left, and_right}
use Rattle.form.specs.declared.Row.{Row}
use Rattle.form.specs.declared.Form.{Form}
use Rattle.form.specs.Table.{listed_as, row_of, forms}
use Rattle.form.proofs.Table.{each_form}

abbrev fits : Row → Bool
fits r = leb (r.width * r.per_line) 120 && (leb 1 r.width && (leb 1 r.per_line && (leb r.per_line 120 && (leb 1 r.cells && leb (r.per_line * r.cells) 120))))

pub record RowFits (r : Row) : Type 0 where
  pub columns : r.width * r.per_line ≤ 120
  pub wide : 1 ≤ r.width
  pub some : 1 ≤ r.per_line
  pub few : r.per_line ≤ 120
  pub one_cell : 1 ≤ r.cells
  pub few_cells : r.per_line * r.cells ≤ 120

passed : (r : Row) → T (fits r) → RowFits r
passed r t =
    let a = leb (r.width * r.per_line) 120 in
    let b = leb 1 r.width in
    let c = leb 1 r.per_line in
    let d = leb r.per_line 120 in
    let e = leb 1 r.cells in
    let f = leb (r.per_line * r.cells) 120 in
    let t1 = and_right a (b && (c && (d && (e && f)))) t in
    let t2 = and_right b (c && (d && (e && f))) t1 in
    let t3 = and_right c (d && (e && f)) t2 in
    let t4 = and_right d (e && f) t3 in
    record {
      columns = leb→le _ _ (and_left a (b && (c && (d && (e && f)))) t);
      wide = leb→le _ _ (and_left b (c && (d && (e && f))) t1);
      some = leb→le _ _ (and_left c (d && (e && f)) t2);
      few = leb→le _ _ (and_left d (e && f) t3);
      one_cell = leb→le _ _ (and_left e f t4);
      few_cells = leb→le _ _ (and_right e f t4);
    }

all_fit : T (every (λ f. fits (row_of f)) forms)
unfolding row_of listed_as
all_fit = tt

pub row_fits : (f : Form) → RowFits (row_of f)
row_fits f = passed (row_of f) (each_form (λ g. fits (row_of g)) all_fit f)
