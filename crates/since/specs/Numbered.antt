-- R334: each answer's number, with the numbers beside it; R335: the place that was found and the records that were passed, apart from them.
use Rattle.std.specs.Prelude.{◌≡◌, List, [], ◌∷◌, ◌⊎◌, ℕ, Result, Ok, Err}
use Rattle.reply.specs.declared.Reply.{Reply}
use Rattle.reply.specs.declared.Refusal.{Refusal}
use Rattle.reply.specs.declared.Refusal.TheVariants.{End, TooFewLines, Misformed, OtherRelease, FilledVacant, BadDate}
use Rattle.reply.specs.Table.{Numbered, told, row}
use Rattle.reply.specs.Refusals.{refusal_reply, rows}
use Rattle.since.specs.declared.Found.{Found}
use Rattle.since.specs.declared.Unfound.{Unfound}

-- an answer: the record that was found, or what is refused with
abbrev pub First : Type 0
First = Result Found Unfound

-- a record at a place, behind so many that were passed
abbrev pub found : (place passed : ℕ) → First
found p k = Ok (record { place = p; passed = k })

-- so many were passed, and then this was refused with
abbrev pub unfound : (passed : ℕ) → Refusal → First
unfound k r = Err (record { passed = k; why = r })

abbrev pub first_reply : First → Reply
first_reply (Ok f) = told 0 []
first_reply (Err u) = refusal_reply u.why

abbrev pub place_told : First → ℕ
place_told (Ok f) = f.place
place_told (Err u) = 0

abbrev pub passed_told : First → ℕ
passed_told (Ok f) = f.passed
passed_told (Err u) = u.passed

-- R254: what a walk stops with. It never goes beyond the text's end, so not 2
abbrev pub stop_refusals : List Refusal
stop_refusals = End ∷ TooFewLines ∷ Misformed ∷ OtherRelease ∷ FilledVacant 0 ∷ []

-- each reply fills a row: beside 0 the place and the records passed may be any; beside 10 both are 0; beside what a walk stops with the place is 0
abbrev pub NumberedApart : (place passed : ℕ) → Reply → Type 0
NumberedApart place passed r =
    Numbered (row 0 [] ∷ []) r ⊎ (((place ≡ 0) × (passed ≡ 0) × Numbered (rows (BadDate 0 ∷ [])) r) ⊎ ((place ≡ 0) × Numbered (rows stop_refusals) r))
