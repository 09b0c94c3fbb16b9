-- Two numbers are in one order or the other; room behind a place, tested without a sum.
-- Assumes nothing.
use mathlib.Core.Logic.{◌⊎◌, inl, inr, ⊎_elim}
use mathlib.Core.Path.{◌≡◌, sym, ◌∙◌}
use Prim.Native.Nat.{ℕ, zero, suc, ◌+◌, ◌-◌, ◌<◌, ◌≤◌}
use native.Mathlib.Omega.{arith}
use borrow.Author.Tests.{le-leb, lt-leb}
use lib.Dec.{leb}

pub le_or_lt : (j k : ℕ) → (j ≤ k) ⊎ (k < j)
le_or_lt zero k = inl (omega arith)
le_or_lt (suc j) zero = inr (omega arith)
le_or_lt (suc j) (suc k) = ⊎_elim (λ p. inl (omega arith)) (λ p. inr (omega arith)) (le_or_lt j k)

pub room_leb : (n at k : ℕ) → at ≤ n → leb k (n - at) ≡ leb (at + k) n
room_leb n at k h =
    ⊎_elim
    (λ (l : at + k ≤ n). le-leb k (n - at) (omega arith) ∙ sym (le-leb (at + k) n l))
    (λ (l : n < at + k). lt-leb k (n - at) (omega arith) ∙ sym (lt-leb (at + k) n l))
    (le_or_lt (at + k) n)
