-- R350: where the walk stops though the text goes on, a stretch begins. It ends where the walk may go on, or where the text ends.
use Rattle.std.specs.Prelude.{◌≡◌, Bool, true, false, cond, ◌&&◌, List, ◌⊎◌, ℕ, zero, suc, ◌-◌, ◌<◌, ◌≤◌, eqb, ltb, length, Result, Ok, Err}
use Rattle.rules.specs.declared.Rules.{Rules}
use Rattle.base.specs.Pieces.{done, bad}
use Rattle.line.specs.Parts.{LineStart, begins_line}
use Rattle.place.specs.declared.Placing.{Placing}
use Rattle.place.specs.declared.Placing.TheVariants as P
use Rattle.place.specs.Placing.{Carried, placing_of}
use Rattle.reading.specs.Read.{Cells}
use Rattle.reply.specs.declared.Refusal.TheVariants.{End, Beyond}
use Rattle.whole.specs.Due.{GroupDone}
use Rattle.whole.specs.Turn.{group_read}
use Rattle.whole.specs.Whole.{group_by}
use Rattle.reply.specs.declared.Refusal.{Refusal}

module _ (ρ : Rules) (s : List ℕ) where
  -- R351: a record that is worth going on from: placing gives 0, and the station's constants, the date and the characteristics read with 0
  pub record Sound (at : ℕ) : Type 0 where
    pub next : ℕ
    pub placed : placing_of ρ s at ≡ P.Placed next
    pub constants : GroupDone ρ s at 1
    pub date : GroupDone ρ s at 3
    pub characteristics : GroupDone ρ s at 4

  -- R351: the walk may go on here: such a record stands at a line start
  pub record Resumes (at : ℕ) : Type 0 where
    pub line : LineStart s at
    pub sound : Sound at

  -- R350: the first later place from which the walk may go on; the text's end if there is none
  pub record IsStretchEnd (at end : ℕ) : Type 0 where
    pub later : at < end
    pub within : end ≤ length s
    pub passed : (p : ℕ) → at < p → p < end → Resumes p → ⊥
    pub ends : Resumes end ⊎ (end ≡ length s)

-- ---- the same as an answer (proofs/Stretches.antt)

abbrev pub is_zero : Placing → Bool
is_zero (P.Placed n) = true
is_zero (P.BrokenRule g n) = false
is_zero (P.Refused r) = false

abbrev pub is_read : Cells → Bool
is_read (done cs) = true
is_read (bad r) = false

-- the first of so many places, from one on, that passes a test; the place behind them if none does
unfoldable pub first_that : (ℕ → Bool) → ℕ → ℕ → ℕ
first_that test zero at = at
first_that test (suc left) at = cond (test at) at (first_that test left (suc at))

module _ (ρ : Rules) (s : List ℕ) where
  unfoldable pub is_sound : ℕ → Bool
  is_sound at = is_zero (placing_of ρ s at) && (is_read (group_read ρ s at 1) && (is_read (group_read ρ s at 3) && is_read (group_read ρ s at 4)))

  -- the three groups by what a placed record carries, as the code goes (proofs/Trying.antt)
  abbrev pub are_read : Carried → Bool
  are_read r = is_read (group_by ρ s r 1) && (is_read (group_by ρ s r 3) && is_read (group_by ρ s r 4))

  unfoldable pub resumes : ℕ → Bool
  resumes at = begins_line s at && is_sound at

  unfoldable pub stretch_end : ℕ → ℕ
  stretch_end at = first_that resumes (length s - suc at) (suc at)

  -- R352: 2, 1, and else 0 with that place
  unfoldable pub stretch_of : ℕ → Result ℕ Refusal
  stretch_of at = cond (ltb (length s) at) (Err Beyond) (cond (eqb (length s) at) (Err End) (Ok (stretch_end at)))
