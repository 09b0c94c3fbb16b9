-- R9: answers of placing that are the same but for the next place, which line ends move.
use Rattle.std.specs.Prelude.{List, ℕ}
use Rattle.rules.specs.declared.Rules.{Rules}
use Rattle.line.specs.Alike.{AlikeFrom}
use Rattle.reply.specs.declared.Refusal.{Refusal}
use Rattle.place.specs.declared.Placing.{Placing}
use Rattle.place.specs.declared.Placing.TheVariants.{Placed, BrokenRule, Refused}

-- R200, R207: 0 and 0, or 7 and 7 with the same group, and from the next places on the texts s and t are alike again; or the same refusal, with
-- its numbers
pub data SamePlacing (ρ : Rules) (s t : List ℕ) : Placing → Placing → Type 0 where
  both_placed : (n m : ℕ) → AlikeFrom ρ s n t m → SamePlacing ρ s t (Placed n) (Placed m)
  both_broken : (g n m : ℕ) → AlikeFrom ρ s n t m → SamePlacing ρ s t (BrokenRule g n) (BrokenRule g m)
  both_refused : (r : Refusal) → SamePlacing ρ s t (Refused r) (Refused r)
