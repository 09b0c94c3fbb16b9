-- The lengths of months: there are four, and they add up to the days of a year.
-- Assumes nothing.
use mathlib.Core.Path.{◌≡◌}
use mathlib.Core.Bool.{Bool}
use Prim.Native.Nat.{ℕ, zero, suc, ◌+◌, ◌*◌, ◌≤◌}
use native.Mathlib.Numerals.{add-one}
use native.Mathlib.Omega.{arith}
use lib.Dec.{eqb, lit≤}
use Rattle.base.proofs.Choice.{cond_elim}
use Rattle.date.specs.Calendar.{has_thirty, month_length, days_to}

-- a month has 28, 29, 30 or 31 days
pub length_one_of : (P : ℕ → Type 0) → P 28 → P 29 → P 30 → P 31 → (leap : Bool) (m : ℕ) → P (month_length leap m)
unfolding month_length
length_one_of P a b c d leap m =
    cond_elim P (eqb m 2)
    (λ _. cond_elim P leap (λ _. b) (λ _. a))
    (λ _. cond_elim P (has_thirty m) (λ _. c) (λ _. d))

pub length_least : (leap : Bool) (m : ℕ) → 28 ≤ month_length leap m
length_least = length_one_of (λ n. 28 ≤ n) (lit≤ tt) (lit≤ tt) (lit≤ tt) (lit≤ tt)

pub length_greatest : (leap : Bool) (m : ℕ) → month_length leap m ≤ 31
length_greatest = length_one_of (λ n. n ≤ 31) (lit≤ tt) (lit≤ tt) (lit≤ tt) (lit≤ tt)

pub days_more : (leap : Bool) (m : ℕ) → days_to leap (m + 1) ≡ days_to leap m + month_length leap (m + 1)
unfolding days_to
days_more leap m = rw add-one

pub days_bound : (leap : Bool) (m : ℕ) → days_to leap m ≤ 31 * m
unfolding days_to
days_bound leap zero = omega arith
days_bound leap (suc m) = omega (arith, days_bound leap m, length_greatest leap (suc m))
