-- R254, R334: a step of the walk, as the code goes (proofs/Walked.antt): what stands at a place, and whether it is at or after the date.
use Rattle.std.specs.Prelude.{Bool, cond, List, ℕ, Option}
use Rattle.rules.specs.declared.Rules.{Rules}
use Rattle.count.specs.Tally.{cells_in}
use Rattle.date.specs.declared.Date.{Date}
use Rattle.place.specs.Parted.{lines_named}
use Rattle.place.specs.Placing.{Carried, Located, located, refused, locate}
use Rattle.reading.specs.Read.{read_group, date_told}
use Rattle.since.specs.declared.Step.{Step}
use Rattle.since.specs.declared.Step.TheVariants.{Found, Passed, Stopped}
use Rattle.since.specs.Since.{meets, date_at}

-- by what stands there, and whether that is what is looked for
abbrev pub step_by : Located → Bool → Step
step_by (located n ns) found = cond found Found (Passed n)
step_by (refused r) found = Stopped r

module _ (ρ : Rules) where
  unfoldable pub step_at : List ℕ → ℕ → Date → Step
  step_at s at d = step_by (locate ρ s at) (meets d (date_at ρ s at))

  -- R333: the date of a record, by the lines that it names for group 3
  abbrev pub date_by : List ℕ → Carried → Option Date
  date_by s r = date_told (read_group ρ r.counts_of 3 (lines_named s r 3) (cells_in ρ r.counts_of 3))
