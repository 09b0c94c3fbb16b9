-- R330: the first record from a given date on. The answer is that of the whole walk: list every record with its date, and take the first that is
-- at or after the date asked for.
use Rattle.std.specs.Prelude.{Bool, false, cond, List, [], ◌∷◌, map, ℕ, suc, Option, Some, None, Result, Ok, Err}
use Rattle.rules.specs.declared.Rules.{Rules}
use Rattle.base.specs.Every.{up_from}
use Rattle.count.specs.Tally.{cells_in}
use Rattle.date.specs.declared.Date.{Date}
use Rattle.date.specs.Asked.{dated_by}
use Rattle.date.specs.Order.{not_before}
use Rattle.place.specs.Placing.{Located, located, refused, locate, counts_at}
use Rattle.place.specs.Walk.{spot, records_in}
use Rattle.reading.specs.Read.{date_told}
use Rattle.reply.specs.declared.Refusal.{Refusal}
use Rattle.reply.specs.declared.Refusal.TheVariants.{End, BadDate}
use Rattle.group.specs.Text.{read_at}
use Rattle.since.specs.Numbered.{First, found, unfound}

-- a record of the walk: its place, and its date if it has one
pub record Entry : Type 0 where
  pub place : ℕ
  pub date : Option Date

-- R332, R333: it is at or after a date if it has one, and that is
abbrev pub meets : Date → Option Date → Bool
meets d (Some e) = not_before e d
meets d None = false

-- R334, R335: the first of these that is, with how many were passed before it; `none` where none is
unfoldable pub first_in : Date → List Entry → ℕ → First → First
first_in d [] passed none = none
first_in d (x ∷ xs) passed none = cond (meets d x.date) (found x.place passed) (first_in d xs (suc passed) none)

-- what ends a walk. Where it stops no record is located, so the second line is never asked (`stop_is` in proofs/Walked.antt)
abbrev pub why_stopped : Located → Refusal
why_stopped (refused r) = r
why_stopped (located n ns) = End

module _ (ρ : Rules) where
  -- R333: the date of the record at a place: placed with 0, and its group 3 reads with 0; otherwise it has none
  unfoldable pub date_at : List ℕ → ℕ → Option Date
  date_at s at = date_told (read_at ρ s at 3 (cells_in ρ (counts_at ρ s at) 3))

  -- R254: the record at the k-th spot
  abbrev pub entry_at : List ℕ → ℕ → Entry
  entry_at s k = record { place = spot ρ s k; date = date_at s (spot ρ s k) }

  -- all records of the walk, in the text's order
  abbrev pub whole_walk : List ℕ → List Entry
  whole_walk s = map (entry_at s) (up_from 0 (records_in ρ s))

  -- the refusal at which the walk stops, behind all of them
  abbrev pub stop_of : List ℕ → Refusal
  stop_of s = why_stopped (locate ρ s (spot ρ s (records_in ρ s)))

  -- a right date
  unfoldable pub first_dated : List ℕ → Date → First
  first_dated s d = first_in d (whole_walk s) 0 (unfound (records_in ρ s) (stop_of s))

  -- R334: 10 comes first of all
  abbrev pub first_by : List ℕ → Result Date ℕ → First
  first_by s (Err p) = unfound 0 (BadDate p)
  first_by s (Ok d) = first_dated s d

  unfoldable pub first_from : List ℕ → Date → First
  first_from s d = first_by s (dated_by d)
