-- R233, R352: when each answer about a stretch is due. The order: 2, 1, 0.
use Rattle.std.specs.Prelude.{◌≡◌, List, ℕ, ◌<◌, length, Result, Ok, Err}
use Rattle.rules.specs.declared.Rules.{Rules}
use Rattle.reply.specs.declared.Refusal.{Refusal}
use Rattle.reply.specs.declared.Refusal.TheVariants.{End, Beyond}
use Rattle.salvaging.specs.Stretch.{IsStretchEnd}

pub data RefusedFor (s : List ℕ) (at : ℕ) : Refusal → Type 0 where
  beyond : length s < at → RefusedFor s at Beyond
  text_end : length s ≡ at → RefusedFor s at End

-- a stretch that ends has begun inside the text
abbrev pub Due : Rules → List ℕ → ℕ → Result ℕ Refusal → Type 0
Due ρ s at (Ok end) = IsStretchEnd ρ s at end
Due ρ s at (Err r) = RefusedFor s at r
