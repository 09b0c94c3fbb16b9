-- R285, R297: what the questions with a record refuse with, in their order, and their rows.
use Rattle.std.specs.Prelude.{List, [], ◌∷◌, ◌++◌}
use Rattle.reply.specs.declared.Refusal.{Refusal}
use Rattle.reply.specs.declared.Refusal.TheVariants.{NoSuchNumber, BadPart}
use Rattle.reply.specs.Table.{Row, row, cells}
use Rattle.reply.specs.Refusals.{rows, line_refusals}
use Rattle.count.specs.Numbered.{counts_refusals}
use Rattle.reading.specs.Numbered.{given_refusals}

-- 12; 4, 5, 6 and 7; 22
abbrev pub with_refusals : List Refusal
with_refusals = NoSuchNumber ∷ (counts_refusals ++ (BadPart ∷ []))

abbrev pub lines_rows : List Row
lines_rows = row 0 [] ∷ rows with_refusals

-- and then 11; 8 and 9; 10
abbrev pub group_rows : List Row
group_rows = row 0 (cells ∷ []) ∷ rows (with_refusals ++ given_refusals)

-- of group 4 neither 10 nor 11
abbrev pub told_rows : List Row
told_rows = row 0 [] ∷ rows (with_refusals ++ line_refusals)
