-- R301: what writing refuses with, in its order, and its rows.
use Rattle.std.specs.Prelude.{List, [], ◌∷◌, ◌++◌}
use Rattle.reply.specs.declared.Refusal.{Refusal}
use Rattle.reply.specs.declared.Refusal.TheVariants.{NoField, BadDate, NoRoom}
use Rattle.reply.specs.Table.{Row, row, bytes}
use Rattle.reply.specs.Refusals.{rows}
use Rattle.count.specs.Numbered.{check_refusals}

abbrev pub writing_refusals : List Refusal
writing_refusals = check_refusals ++ (NoField 0 0 ∷ BadDate 0 ∷ NoRoom ∷ [])

abbrev pub writing_rows : List Row
writing_rows = row 0 (bytes ∷ []) ∷ rows writing_refusals
