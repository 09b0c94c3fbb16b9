-- `reading::is_field_at` meets its contract: the bytes that are lent are those of the field that the content has.
-- Assumes nothing.
use native.Mathlib.Omega.{arith}
use Prim.Native.Nat.{◌*◌, ◌≤◌}
use Rattle.reading.proofs.Checking.{columns_few}
use Rattle.reading.proofs.is_field_at.Goals as goal

pub overflow_mul-k : goal.overflow_mul-k
overflow_mul-k c =
    let few : c.args.k * c.row_of-width.result.width ≤ 120 * 120 = rw c.row_of-width.ensures (columns_few c.args.form.fields c.args.k c.requires.few) in
    omega (arith, few)

pub overflow_add-at : goal.overflow_add-at
overflow_add-at c =
    let few : c.args.k * c.row_of-width.result.width ≤ 120 * 120 = rw c.row_of-width.ensures (columns_few c.args.form.fields c.args.k c.requires.few) in
    omega (arith, few)
