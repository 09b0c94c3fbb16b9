-- R70 to R86 of fields of one form that stand one behind the other: each is a field of the form, and their cells.
use Rattle.std.specs.Prelude.{Bool, ℕ, suc, ◌*◌, ℤ}
use mathlib.Core.List.{List, flat_map}
use Rattle.base.specs.Every.{every, up_from}
use Rattle.base.specs.Part.{part}
use Rattle.form.specs.declared.Form.{Form}
use Rattle.form.specs.Table.{row_of}
use Rattle.field.specs.Read.{field_of, value_cells, formed}

-- field i, from 0 on: each takes as many columns as the form's row says
abbrev pub run_field : Form → List ℕ → ℕ → List ℕ
run_field f s i = part (i * (row_of f).width) (suc i * (row_of f).width) s

-- each of the k fields is one of the form
unfoldable pub run_formed : Form → ℕ → List ℕ → Bool
run_formed f k s = every (λ i. formed (field_of f (run_field f s i))) (up_from 0 k)

-- their cells, one field's behind the other's
unfoldable pub run_cells : Form → ℕ → List ℕ → List ℤ
run_cells f k s = flat_map (λ i. value_cells (run_field f s i) (field_of f (run_field f s i))) (up_from 0 k)
