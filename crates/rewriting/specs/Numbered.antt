-- R200 to R211: each answer's number, with the numbers beside it; R323: the number of the group that was being read, apart from them. Which
-- replies there are, and beside which of them the group is 0, is said with reading a whole record (`NumberedWith` in whole); the row of 0 is here.
use Rattle.std.specs.Prelude.{[], ◌∷◌, ℕ, Result, Ok, Err}
use Rattle.reply.specs.declared.Reply.{Reply}
use Rattle.reply.specs.Table.{told, Row, row, next, bytes}
use Rattle.reply.specs.Refusals.{refusal_reply}
use Rattle.rewriting.specs.declared.Rewritten.{Rewritten}
use Rattle.whole.specs.declared.Unread.{Unread}
use Rattle.whole.specs.Numbered.{group_told}

-- R200: 0 has both the next place and the bytes that were written
abbrev pub rewriting_reply : Result Rewritten Unread → Reply
rewriting_reply (Ok w) = told 0 ((next, w.next) ∷ (bytes, w.bytes) ∷ [])
rewriting_reply (Err u) = refusal_reply u.why

-- R323: apart from the reply, as when a whole record is read (R272)
abbrev pub rewriting_group : Result Rewritten Unread → ℕ
rewriting_group = group_told

abbrev pub rewriting_row : Row
rewriting_row = row 0 (next ∷ bytes ∷ [])
