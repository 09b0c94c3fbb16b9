-- R281, R290, R294: what the questions about a group at a place refuse with, their rows, and a characteristic's reply.
use Rattle.std.specs.Prelude.{List, [], ◌∷◌, ◌++◌}
use Rattle.reply.specs.declared.Reply.{Reply}
use Rattle.reply.specs.Table.{told, Row, row}
use Rattle.reply.specs.Refusals.{refusal_reply, rows, asked_refusals, line_refusals}
use Rattle.group.specs.declared.Characteristic.{Characteristic}
use Rattle.group.specs.declared.Characteristic.TheVariants.{Value, NoReading, NotReported, Refused}

-- R281: the lines of a group: 12, and what placing refuses with
abbrev pub found_rows : List Row
found_rows = row 0 [] ∷ rows asked_refusals

-- R290: no number stands beside 0
abbrev pub characteristic_reply : Characteristic → Reply
characteristic_reply (Value z) = told 0 []
characteristic_reply NoReading = told 0 []
characteristic_reply NotReported = told 0 []
characteristic_reply (Refused r) = refusal_reply r

-- R294: 12, and what group 4 is refused with where there is room, so neither 10 nor 11
abbrev pub characteristic_rows : List Row
characteristic_rows = row 0 [] ∷ rows (asked_refusals ++ line_refusals)
