-- R200 to R211: each answer's number, with the numbers beside it; R272: the number of the group that was being read, apart from them.
use Rattle.std.specs.Prelude.{◌≡◌, List, [], ◌∷◌, ◌++◌, ◌⊎◌, ℕ, ◌≤◌, Result, Ok, Err}
use Rattle.reply.specs.declared.Reply.{Reply}
use Rattle.reply.specs.declared.Refusal.{Refusal}
use Rattle.reply.specs.declared.Refusal.TheVariants.{NoRoom}
use Rattle.reply.specs.Table.{Numbered, told, Row, row, cells}
use Rattle.reply.specs.Refusals.{refusal_reply, rows, placing_refusals}
use Rattle.reading.specs.Numbered.{group_refusals}
use Rattle.whole.specs.declared.Unread.{Unread}

abbrev pub record_reply : Result ℕ Unread → Reply
record_reply (Ok n) = told 0 ((cells, n) ∷ [])
record_reply (Err u) = refusal_reply u.why

-- R272, R323: a refusal of placing may have a group of its own beside it; this one is told apart, whatever was read
abbrev pub group_told : {T : Type 0} → Result T Unread → ℕ
group_told (Ok x) = 0
group_told (Err u) = u.group

-- R272: what is refused with before a group is read: as placing does, and 11
abbrev pub before_refusals : List Refusal
before_refusals = placing_refusals ++ (NoRoom ∷ [])

-- each reply fills a row: the group number is 0 beside 0 and beside those, and one of 1 to 60 beside 8, 9 and 10; the row of 0 is the question's own
abbrev pub NumberedWith : Row → ℕ → Reply → Type 0
NumberedWith zeroth g r = ((g ≡ 0) × Numbered (zeroth ∷ rows before_refusals) r) ⊎ (((1 ≤ g) × (g ≤ 60)) × Numbered (rows group_refusals) r)

abbrev pub whole_row : Row
whole_row = row 0 (cells ∷ [])
