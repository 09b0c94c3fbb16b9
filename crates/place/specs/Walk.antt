-- R253, R254: placed records, and the walk from one to the next.
use Rattle.std.specs.Prelude.{◌≡◌, List, ◌⊎◌, ◌↔◌, ℕ, zero, suc, ◌<◌, length}
use Rattle.rules.specs.declared.Rules.{Rules}
use Rattle.reply.specs.declared.Refusal.{Refusal}
use Rattle.place.specs.declared.Placing.TheVariants.{Refused}
use Rattle.place.specs.Numbered.{placing_reply}
use Rattle.place.specs.Placing.{Located, located, refused, locate, placing_of}

-- R253: 0 and 7 place a record
abbrev pub PlacedAt : Rules → List ℕ → ℕ → Type 0
PlacedAt ρ s at = ((placing_reply (placing_of ρ s at)).number ≡ 0) ⊎ ((placing_reply (placing_of ρ s at)).number ≡ 7)

-- R254: on to a placed record's next place; any other reply ends the walk
abbrev pub onward : ℕ → Located → ℕ
onward at (located n ns) = n
onward at (refused r) = at

-- a record more, if one stands there
abbrev pub one_more : Located → ℕ → ℕ
one_more (located n ns) many = suc many
one_more (refused r) many = 0

module _ (ρ : Rules) where
  -- R254: where the walk stands after k steps from the text's start; once it has stopped it stays
  unfoldable pub spot : List ℕ → ℕ → ℕ
  spot s zero = 0
  spot s (suc k) = onward (spot s k) (locate ρ s (spot s k))

  -- a record stands at a place
  pub record IsRecord (s : List ℕ) (at : ℕ) : Type 0 where
    pub next : ℕ
    pub ns : List ℕ
    pub is : locate ρ s at ≡ located next ns

  -- the walk has so many records, and stops behind them with this refusal
  pub record Stops (s : List ℕ) (many : ℕ) (r : Refusal) : Type 0 where
    pub each : (k : ℕ) → k < many → IsRecord s (spot s k)
    pub last : locate ρ s (spot s many) ≡ refused r

  -- how many records the walk has: those from the k-th spot on, of which no more than `most` are looked at
  unfoldable pub records_from : List ℕ → ℕ → ℕ → ℕ
  records_from s k zero = 0
  records_from s k (suc most) = one_more (locate ρ s (spot s k)) (records_from s (suc k) most)

  -- a text has no more records than bytes. proofs/Counted.antt: it is the number at which the walk stops, and there is no other
  unfoldable pub records_in : List ℕ → ℕ
  records_in s = records_from s 0 (length s)

  -- ---- R254 in what placing gives (`walks` in proofs/Stopped.antt)

  -- so many records are placed, and behind them none is: there placing refuses so
  pub record StopsAt (s : List ℕ) (many : ℕ) (r : Refusal) : Type 0 where
    pub each : (k : ℕ) → k < many → PlacedAt ρ s (spot s k)
    pub none : PlacedAt ρ s (spot s many) → ⊥
    pub answer : placing_of ρ s (spot s many) ≡ Refused r

  -- the walk begins at the text's start; where a record is placed it goes on from the next place, and where none is it stays
  pub record Walks (s : List ℕ) : Type 0 where
    pub begins : spot s 0 ≡ 0
    pub goes_on : (k : ℕ) → PlacedAt ρ s (spot s k) → spot s (suc k) ≡ (placing_reply (placing_of ρ s (spot s k))).next
    pub stays : (k : ℕ) → (PlacedAt ρ s (spot s k) → ⊥) → spot s (suc k) ≡ spot s k
    pub stops : (many : ℕ) (r : Refusal) → Stops s many r ↔ StopsAt s many r
