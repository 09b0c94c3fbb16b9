-- R352: each answer's number, with the place beside 0; the rows of the question.
use Rattle.std.specs.Prelude.{List, [], ◌∷◌, ℕ, Result, Ok, Err}
use Rattle.reply.specs.declared.Reply.{Reply}
use Rattle.reply.specs.declared.Refusal.TheVariants.{End, Beyond}
use Rattle.reply.specs.Refusals.{refusal_reply, rows}
use Rattle.reply.specs.Table.{told, Row, row, next}
use Rattle.reply.specs.declared.Refusal.{Refusal}

abbrev pub stretch_reply : Result ℕ Refusal → Reply
stretch_reply (Ok place) = told 0 ((next, place) ∷ [])
stretch_reply (Err r) = refusal_reply r

abbrev pub stretch_rows : List Row
stretch_rows = row 0 (next ∷ []) ∷ rows (End ∷ Beyond ∷ [])
