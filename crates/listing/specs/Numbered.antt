-- R310: the rows of listing: 0 with its bytes, or 11.
use Rattle.std.specs.Prelude.{List, [], ◌∷◌}
use Rattle.reply.specs.declared.Refusal.TheVariants.{NoRoom}
use Rattle.reply.specs.Table.{Row, row, bytes}
use Rattle.reply.specs.Refusals.{rows}

abbrev pub listing_rows : List Row
listing_rows = row 0 (bytes ∷ []) ∷ rows (NoRoom ∷ [])
