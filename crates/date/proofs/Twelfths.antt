-- The code's formula for the days to the end of a month. One computed test of the months 0 to 12, in a common year and in a leap year, shows
-- that they are the rule's days: R145 names the months of 30 days one by one, and the test looks at each month.
-- Assumes nothing.
use Rattle.std.proofs.Common.{◌≡◌, ◌∙◌, refl, sym, ap, Bool, true, false, cond, ℕ, ◌+◌, ◌-◌, ◌*◌, ◌/◌, ◌<◌, ◌≤◌, leb, eqb, arith}
use Rattle.std.proofs.lemmas.Bool.Decides.{nat_tests}
use lib.Dec.{ltb, eqb→eq}
use Rattle.base.specs.Every.{up_from}
use Rattle.base.proofs.Every.{every_between}
use Rattle.date.specs.Calendar.{month_length, days_to}

-- as if February had 30 days
abbrev pub twelfths : ℕ → ℕ
twelfths m = (367 * m + 5) / 12

-- February has 28
abbrev pub common : ℕ → ℕ
common m = cond (leb 2 m) (twelfths m - 2) (twelfths m)

-- or 29 in a leap year
abbrev pub formula : Bool → ℕ → ℕ
formula leap m = cond (ltb m 2) (common m) (cond leap (common m + 1) (common m))

right : Bool → ℕ → Bool
right leap m = eqb (formula leap m) (days_to leap m)

pub formula_days : (leap : Bool) (m : ℕ) → m ≤ 12 → formula leap m ≡ days_to leap m
unfolding right up_from month_length days_to
formula_days true m h = eqb→eq _ _ (every_between (right true) 0 13 tt m (omega arith) (omega arith))
formula_days false m h = eqb→eq _ _ (every_between (right false) 0 13 tt m (omega arith) (omega arith))

-- The same case by case, as the code goes.
pub before_march : (leap : Bool) (m : ℕ) → m < 2 → days_to leap m ≡ twelfths m
before_march leap m h =
    let few : ltb m 2 ≡ true = grind (arith, nat_tests) in
    let early : leb 2 m ≡ false = grind (arith, nat_tests) in
    sym (formula_days leap m (omega arith)) ∙ rw (few, early) refl

pub from_march : (m : ℕ) → 2 ≤ m → m ≤ 12 → days_to false m ≡ twelfths m - 2
from_march m g h =
    let many : ltb m 2 ≡ false = grind (arith, nat_tests) in
    let late : leb 2 m ≡ true = grind (arith, nat_tests) in
    sym (formula_days false m h) ∙ rw (many, late) refl

pub leap_from_march : (m : ℕ) → 2 ≤ m → m ≤ 12 → days_to true m ≡ days_to false m + 1
leap_from_march m g h =
    let many : ltb m 2 ≡ false = grind (arith, nat_tests) in
    let late : leb 2 m ≡ true = grind (arith, nat_tests) in
    sym (formula_days true m h) ∙ rw (many, late) (ap (λ n. n + 1) (sym (from_march m g h)))
