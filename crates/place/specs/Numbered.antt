-- R200 to R207: each answer's number, with the numbers beside it.
use Rattle.std.specs.Prelude.{Bool, ◌||◌, List, [], ◌∷◌, ℕ, eqb, Result, Ok, Err}
use Rattle.reply.specs.declared.Reply.{Reply}
use Rattle.reply.specs.declared.Refusal.TheVariants as R
use Rattle.reply.specs.Table.{told, Row, row, next, group}
use Rattle.place.specs.declared.Placing.{Placing}
use Rattle.place.specs.declared.Placing.TheVariants.{Placed, BrokenRule, Refused}
use Rattle.reply.specs.Refusals.{refusal_reply, rows, unplaced_refusals}
use Rattle.reply.specs.declared.Refusal.{Refusal}

abbrev pub placing_reply : Placing → Reply
placing_reply (Placed n) = told 0 ((next, n) ∷ [])
placing_reply (BrokenRule g n) = told 7 ((group, g) ∷ (next, n) ∷ [])
placing_reply (Refused r) = refusal_reply r

-- the rows of placing: 7 has its next place too (R235)
abbrev pub placing_rows : List Row
placing_rows = row 0 (next ∷ []) ∷ row 7 (group ∷ next ∷ []) ∷ rows unplaced_refusals

-- R235: the answer as that of a question that goes no further: 7 has its group, and no next place
abbrev pub as_checked : Placing → Result (Unit {0}) Refusal
as_checked (Placed n) = Ok tt
as_checked (BrokenRule g n) = Err (R.BrokenRule g)
as_checked (Refused r) = Err r

-- R253: the test of a reply's number for what `PlacedAt` of Walk says: 0 or 7
abbrev pub is_placed : ℕ → Bool
is_placed number = eqb number 0 || eqb number 7
