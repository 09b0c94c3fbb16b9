-- R204 to R207, R214: what the check of counts refuses with, what the whole check does, and their rows.
use Rattle.std.specs.Prelude.{List, [], ◌∷◌, ◌++◌}
use Rattle.reply.specs.declared.Refusal.{Refusal}
use Rattle.reply.specs.Table.{Row, row}
use Rattle.reply.specs.Refusals.{rows}
use Rattle.reply.specs.declared.Refusal.TheVariants.{Misformed, OtherRelease, FilledVacant, BrokenRule, OtherLength}

-- in the order of the check; 7 has no next place here (R235)
abbrev pub counts_refusals : List Refusal
counts_refusals = Misformed ∷ OtherRelease ∷ FilledVacant 0 ∷ BrokenRule 0 ∷ []

abbrev pub counts_rows : List Row
counts_rows = row 0 [] ∷ rows counts_refusals

-- R302: these, and then 14
abbrev pub check_refusals : List Refusal
check_refusals = counts_refusals ++ (OtherLength ∷ [])

abbrev pub check_rows : List Row
check_rows = row 0 [] ∷ rows check_refusals
