-- R9: answers of rewriting that are the same but for the next place, which line ends move.
use Rattle.std.specs.Prelude.{List, ℕ, Result, Ok, Err}
use Rattle.rules.specs.declared.Rules.{Rules}
use Rattle.line.specs.Alike.{AlikeFrom}
use Rattle.reply.specs.declared.Refusal.{Refusal}
use Rattle.rewriting.specs.declared.Rewritten.{Rewritten}
use Rattle.whole.specs.declared.Unread.{Unread}
use Rattle.rewriting.specs.Record.{rewritten_with}
use Rattle.whole.specs.Whole.{unread}

-- R321: 0 and 0 with as many bytes, and from the next places on the texts s and t are alike again; or the same refusal, with its numbers
pub data SameRewriting (ρ : Rules) (s t : List ℕ) : Result Rewritten Unread → Result Rewritten Unread → Type 0 where
  both_rewritten : (bytes n m : ℕ) → AlikeFrom ρ s n t m → SameRewriting ρ s t (Ok (rewritten_with bytes n)) (Ok (rewritten_with bytes m))
  both_refused : (g : ℕ) (r : Refusal) → SameRewriting ρ s t (Err (unread (g, r))) (Err (unread (g, r)))
