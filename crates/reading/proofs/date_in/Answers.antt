-- `reading::date_in` meets its contract: the letters that decide the date are the first bytes of the lines.
-- Assumes nothing.
use native.Mathlib.Omega.{arith}
use mathlib.Core.Path.{◌≡◌, ◌∙◌}
use Prim.Native.Nat.{min}
use Rattle.form.specs.declared.Form.TheVariants.{A1}
use Rattle.form.specs.Table.{row_of}
use Rattle.form.specs.Count.{elements_of}
use Rattle.reading.proofs.Dates.{letters_inside, line_dated}
use Rattle.reading.proofs.date_in.Goals as goal

pub slice_bounds-new-end : goal.slice_bounds-new-end
slice_bounds-new-end c =
    let first-many : c.min-first.result ≡ min (row_of A1).per_line (elements_of c.args.rules A1 c.args.count) =
    c.min-first.ensures ∙ rw (c.row_of.ensures, c.elements-elements.ensures) in
    omega (arith, letters_inside c.args.rules c.args.count c.args.lines.now c.requires.clean c.requires.date c.min-first.result (first-many))

pub returns : goal.returns
returns c =
    let first-many : c.min-first.result ≡ min (row_of A1).per_line (elements_of c.args.rules A1 c.args.count) =
    c.min-first.ensures ∙ rw (c.row_of.ensures, c.elements-elements.ensures) in
    c.new.ensures ∙ line_dated c.args.rules c.args.count c.args.lines.now c.requires.clean c.requires.date c.min-first.result (first-many)
