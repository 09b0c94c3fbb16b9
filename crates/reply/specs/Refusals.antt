-- R200 to R217 and R222: each refusal's number, with the numbers beside it; which refusals several questions share.
use Rattle.std.specs.Prelude.{List, [], ◌∷◌, ◌++◌, map, ℕ, Result, Ok, Err}
use Rattle.reply.specs.declared.Reply.{Reply}
use Rattle.reply.specs.declared.Refusal.{Refusal}
use Rattle.reply.specs.declared.Refusal.TheVariants.{End, Beyond, TooFewLines, Misformed, OtherRelease, FilledVacant, BrokenRule, BadLine, BadField}
use Rattle.reply.specs.declared.Refusal.TheVariants.{BadDate, NoRoom, NoSuchNumber, NoField, OtherLength}
use Rattle.reply.specs.declared.Refusal.TheVariants.{NotOpen, AllOpen, BadEntry, BadPart}
use Rattle.reply.specs.Table.{Given, told, kinds_of, Row, row, bytes, group, line, element, position, place}

-- R201 to R217 and R222
abbrev pub refusal_number : Refusal → ℕ
refusal_number End = 1
refusal_number Beyond = 2
refusal_number TooFewLines = 3
refusal_number Misformed = 4
refusal_number OtherRelease = 5
refusal_number (FilledVacant g) = 6
refusal_number (BrokenRule g) = 7
refusal_number (BadLine l) = 8
refusal_number (BadField l e) = 9
refusal_number (BadDate p) = 10
refusal_number NoRoom = 11
refusal_number NoSuchNumber = 12
refusal_number (NoField g e) = 13
refusal_number OtherLength = 14
refusal_number NotOpen = 15
refusal_number AllOpen = 16
refusal_number (BadEntry p) = 17
refusal_number BadPart = 22

-- R206, R207, R208, R209, R210, R213, R217; beside the others nothing stands
abbrev pub beside_of : Refusal → Given
beside_of End = []
beside_of Beyond = []
beside_of TooFewLines = []
beside_of Misformed = []
beside_of OtherRelease = []
beside_of (FilledVacant g) = (group, g) ∷ []
beside_of (BrokenRule g) = (group, g) ∷ []
beside_of (BadLine l) = (line, l) ∷ []
beside_of (BadField l e) = (line, l) ∷ (element, e) ∷ []
beside_of (BadDate p) = (position, p) ∷ []
beside_of NoRoom = []
beside_of NoSuchNumber = []
beside_of (NoField g e) = (group, g) ∷ (element, e) ∷ []
beside_of OtherLength = []
beside_of NotOpen = []
beside_of AllOpen = []
beside_of (BadEntry p) = (place, p) ∷ []
beside_of BadPart = []

abbrev pub refusal_reply : Refusal → Reply
refusal_reply r = told (refusal_number r) (beside_of r)

-- R200: 0, with nothing beside it, or with how many cells or bytes were written; which of both, the question says, and its row
abbrev pub checked_reply : Result (Unit {0}) Refusal → Reply
checked_reply (Ok done) = told 0 []
checked_reply (Err r) = refusal_reply r

abbrev pub answer_reply : Result ℕ Refusal → Reply
answer_reply (Ok n) = told 0 ((bytes, n) ∷ [])
answer_reply (Err r) = refusal_reply r

-- ---- the rows of refusals; in a list of variants the numbers beside them stand for any

-- the row of a refusal
abbrev pub refusal_row : Refusal → Row
refusal_row r = row (refusal_number r) (kinds_of (beside_of r))

-- R251: what placing refuses with, and places nothing
abbrev pub unplaced_refusals : List Refusal
unplaced_refusals = End ∷ Beyond ∷ TooFewLines ∷ Misformed ∷ OtherRelease ∷ FilledVacant 0 ∷ []

-- R235: a question that goes no further has these and 7, without its next place
abbrev pub placing_refusals : List Refusal
placing_refusals = unplaced_refusals ++ (BrokenRule 0 ∷ [])

-- R260, R281: 12, and then what placing refuses with
abbrev pub asked_refusals : List Refusal
asked_refusals = NoSuchNumber ∷ placing_refusals

-- R262: what the lines of a group are refused with
abbrev pub line_refusals : List Refusal
line_refusals = BadLine 0 ∷ BadField 0 0 ∷ []

abbrev pub rows : List Refusal → List Row
rows rs = map refusal_row rs
