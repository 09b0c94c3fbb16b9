-- R256, R257: a text that still grows. s is the text, b are bytes that were added at its end. What placing has found stays found; only 1, 2 and 3,
-- which say that something is missing, may turn into other replies. The records of s are the first of s ++ b (`growth_keeps` in proofs/Growth.antt).
use Rattle.std.specs.Prelude.{◌≡◌, List, ◌++◌, ◌⊎◌, ℕ, ◌<◌, ◌≤◌}
use Rattle.rules.specs.declared.Rules.{Rules}
use Rattle.reply.specs.Refusals.{refusal_number}
use Rattle.reply.specs.declared.Refusal.{Refusal}
use Rattle.place.specs.Numbered.{placing_reply}
use Rattle.place.specs.Placing.{placing_of, carried_at}
use Rattle.place.specs.Walk.{spot, Stops}

-- R256: the replies that stay: 0, 4, 5, 6 and 7
abbrev pub Settled : ℕ → Type 0
Settled n = (n ≡ 0) ⊎ ((n ≡ 4) ⊎ ((n ≡ 5) ⊎ ((n ≡ 6) ⊎ (n ≡ 7))))

-- R256: those that more bytes may turn into others: 1, 2 and 3. Each reply of placing is of one kind or the other (`settled_exactly`)
abbrev pub Unsettled : ℕ → Type 0
Unsettled n = (n ≡ 1) ⊎ ((n ≡ 2) ⊎ (n ≡ 3))

module _ (ρ : Rules) where
  -- the number of placing's reply at a place
  abbrev pub number_at : List ℕ → ℕ → ℕ
  number_at s at = (placing_reply (placing_of ρ s at)).number

  module _ (s b : List ℕ) where
    -- R256: at a place the answer is what it was, with its numbers, and so is what the record carries
    pub record PlacingStays (at : ℕ) : Type 0 where
      pub answer : placing_of ρ (s ++ b) at ≡ placing_of ρ s at
      pub carried : carried_at ρ (s ++ b) at ≡ carried_at ρ s at

    -- R257: the walk of s has so many records, and stops behind them with r
    pub record WalkStays (many : ℕ) (r : Refusal) : Type 0 where
      -- each of them is where it was, and so is the place where the walk stopped, from which it may go on now
      pub places : (k : ℕ) → k ≤ many → spot ρ (s ++ b) k ≡ spot ρ s k
      -- each has the reply and the next place that it had, and carries what it did
      pub records : (k : ℕ) → k < many → PlacingStays (spot ρ s k)
      -- so there are as many at least
      pub as_many : (n : ℕ) (q : Refusal) → Stops ρ (s ++ b) n q → many ≤ n
      -- a walk that stopped with 4, 5 or 6 has stopped for good
      pub for_good : Settled (refusal_number r) → Stops ρ (s ++ b) many r

    -- what bytes that are added leave as it was
    pub record GrowthKeeps : Type 0 where
      -- R256: where the reply was 0, 4, 5, 6 or 7
      pub placing : (at : ℕ) → Settled (number_at s at) → PlacingStays at
      -- so it is another only where it was 1, 2 or 3
      pub another : (at : ℕ) → (PlacingStays at → ⊥) → Unsettled (number_at s at)
      pub walk : (many : ℕ) (r : Refusal) → Stops ρ s many r → WalkStays many r
