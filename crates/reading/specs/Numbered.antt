-- R260: what reading a group refuses with, in its order, and its rows.
use Rattle.std.specs.Prelude.{List, [], ◌∷◌, ◌++◌}
use Rattle.reply.specs.declared.Refusal.{Refusal}
use Rattle.reply.specs.declared.Refusal.TheVariants.{NoRoom, BadDate}
use Rattle.reply.specs.Table.{Row, row, cells}
use Rattle.reply.specs.Refusals.{rows, asked_refusals, line_refusals}

-- what a group's own lines are refused with: 8 and 9; 10
abbrev pub group_refusals : List Refusal
group_refusals = line_refusals ++ (BadDate 0 ∷ [])

-- what comes once the lines are given: 11, and then these
abbrev pub given_refusals : List Refusal
given_refusals = NoRoom ∷ group_refusals

-- 12 and the refusals of placing, and then these
abbrev pub reading_refusals : List Refusal
reading_refusals = asked_refusals ++ given_refusals

abbrev pub reading_rows : List Row
reading_rows = row 0 (cells ∷ []) ∷ rows reading_refusals
