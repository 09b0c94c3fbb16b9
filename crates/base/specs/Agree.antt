-- Two lists of numbers that agree outside some places.
use Rattle.std.specs.Prelude.{◌≡◌, List, ℕ, ◌<◌, ◌≤◌, length, get_or}

-- equally long, and the same at each place that is not among D
pub record Agree (D : ℕ → Type 0) (s t : List ℕ) : Type 0 where
  pub long : length s ≡ length t
  pub same : (i : ℕ) → (D i → ⊥) → get_or s i 0 ≡ get_or t i 0

-- no place from a up to and without e is among D
abbrev pub Misses : (ℕ → Type 0) → ℕ → ℕ → Type 0
Misses D a e = (i : ℕ) → a ≤ i → i < e → D i → ⊥

-- the places from a up to and without e
abbrev pub Between : ℕ → ℕ → ℕ → Type 0
Between a e i = (a ≤ i) × (i < e)
