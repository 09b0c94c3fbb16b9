-- R336: what an answer rests on. What stands behind the record that was found has no part in it; so it stays when bytes are added at the end
-- (R256). Line ends move places and nothing else (R9), and damage outside of group 3 moves nothing (D3).
use Rattle.std.specs.Prelude.{◌≡◌, List, ◌++◌, ℕ, ◌≤◌, length, take}
use Rattle.rules.specs.declared.Rules.{Rules}
use Rattle.date.specs.declared.Date.{Date}
use Rattle.line.specs.Alike.{AlikeFrom}
use Rattle.place.specs.declared.Placing.TheVariants.{Placed}
use Rattle.place.specs.Placing.{placing_of}
use Rattle.reply.specs.declared.Refusal.{Refusal}
use Rattle.reply.specs.Refusals.{refusal_number}
use Rattle.group.specs.Damage.{Outside}
use Rattle.since.specs.Numbered.{First, found, unfound}
use Rattle.since.specs.Since.{first_from}

-- the record that was found is placed with 0, and ends at its next place, which is inside the text
pub record FoundEnds (ρ : Rules) (s : List ℕ) (place : ℕ) : Type 0 where
  pub next : ℕ
  pub placed : placing_of ρ s place ≡ Placed next
  pub inside : next ≤ length s

-- any text with the same bytes up to there gives the same answer
pub record StopsThere (ρ : Rules) (s : List ℕ) (from : Date) (place passed : ℕ) : Type 0 where
  pub ends : FoundEnds ρ s place
  pub same : (t : List ℕ) → take ends.next t ≡ take ends.next s → first_from ρ t from ≡ found place passed

-- R256, R257: s is a text, b are bytes that were added at its end: a record that was found is found again, and all but 1 and 3 is for good
pub record GrowthKeepsFirst (ρ : Rules) (s b : List ℕ) (from : Date) : Type 0 where
  pub found : (place passed : ℕ) → first_from ρ s from ≡ found place passed → first_from ρ (s ++ b) from ≡ found place passed
  pub refused : (k : ℕ) (r : Refusal) → first_from ρ s from ≡ unfound k r → (refusal_number r ≡ 1 → ⊥) → (refusal_number r ≡ 3 → ⊥) → first_from ρ (s ++ b) from ≡ unfound k r

-- R9: in texts whose lines have the same contents: as many records are passed, and from the records that were found on they are alike again
pub data SameFirst (ρ : Rules) (s t : List ℕ) : First → First → Type 0 where
  both_found : (p q k : ℕ) → AlikeFrom ρ s p t q → SameFirst ρ s t (found p k) (found q k)
  both_refused : (k : ℕ) (r : Refusal) → SameFirst ρ s t (unfound k r) (unfound k r)

-- D3: u is t with bytes of the lines of these groups exchanged, and group 3 of no record is one of them
abbrev pub DamageKeepsFirst : Rules → List ℕ → List ℕ → (ℕ → ℕ → Type 0) → Type 0
DamageKeepsFirst ρ t u among = ((k : ℕ) → Outside among k 3) → (from : Date) → first_from ρ u from ≡ first_from ρ t from
