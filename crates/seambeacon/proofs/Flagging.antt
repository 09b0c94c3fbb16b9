-- R365: what the flags stand for: 0 the usual rules, 1 the strict line end, 2 entries, 3 both, and a flag without a meaning nothing at all.
-- Assumes nothing.
use mathlib.Core.Path.{◌≡◌, refl, ap₂}
use Prim.Native.Nat.{ℕ, ◌/◌, ◌%◌}
use native.Mathlib.Omega.{arith}
use lib.Dec.{eqb}
use Rattle.rules.specs.declared.LineEnds.TheVariants.{Strict}
use Rattle.rules.specs.declared.Counting.TheVariants.{Entries}
use Rattle.rules.specs.Choice.{usual, ended, counted, chosen}
use Rattle.seambeacon.specs.Flags.{flagged}

pub flagged_zero : flagged 0 ≡ usual
flagged_zero = refl

pub flagged_one : flagged 1 ≡ ended Strict usual
flagged_one = refl

pub flagged_two : flagged 2 ≡ counted Entries usual
flagged_two = refl

pub flagged_three : flagged 3 ≡ counted Entries (ended Strict usual)
flagged_three = refl

pub flagged_ignores : (n : ℕ) → flagged (n % 4) ≡ flagged n
flagged_ignores n = ap₂ (λ k j. chosen (eqb k 1) (eqb j 1)) first second
  where
    first : n % 4 % 2 ≡ n % 2
    first = omega arith

    second : n % 4 / 2 % 2 ≡ n / 2 % 2
    second = omega arith
