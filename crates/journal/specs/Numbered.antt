-- R516, R540, R550: what the calls and a replay refuse with, in their order, their rows, and a call's reply.
use Rattle.std.specs.Prelude.{ℕ, List, [], ◌∷◌, ◌++◌, Result, Ok, Err}
use Rattle.reply.specs.declared.Reply.{Reply}
use Rattle.reply.specs.declared.Refusal.{Refusal}
use Rattle.reply.specs.declared.Refusal.TheVariants.{NoRoom, BadEntry}
use Rattle.reply.specs.Table.{Beside, told, Row, row, savepoint}
use Rattle.reply.specs.Refusals.{refusal_reply, rows}
use Rattle.count.specs.Numbered.{check_refusals}
use Rattle.journal.specs.Model.{Call, Sets, Opens, Releases, Undoes, refusal_of}

-- R516: 0 of an open has the savepoint's number
abbrev pub edit_reply : Result ℕ Refusal → Reply
edit_reply (Ok k) = told 0 ((savepoint, k) ∷ [])
edit_reply (Err r) = refusal_reply r

-- R540: 4, 5, 6, 7 and 14, and then 17
abbrev pub replay_refusals : List Refusal
replay_refusals = check_refusals ++ (BadEntry 0 ∷ [])

abbrev pub replay_rows : List Row
replay_rows = row 0 [] ∷ rows replay_refusals

-- R550: and then 12, 15 or 16, by the call; 11
abbrev pub call_refusals : Call → List Refusal
call_refusals c = replay_refusals ++ (refusal_of c ∷ NoRoom ∷ [])

abbrev pub beside_done : Call → List Beside
beside_done (Sets g c v) = []
beside_done Opens = savepoint ∷ []
beside_done (Releases k) = []
beside_done (Undoes k) = []

abbrev pub call_rows : Call → List Row
call_rows c = row 0 (beside_done c) ∷ rows (call_refusals c)
