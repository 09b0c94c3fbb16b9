-- Days of a year: the test `name_day` passes exactly at the days, a day number lies between its month's first and last, and no day number
-- belongs to two days.
-- Assumes nothing.
use mathlib.Core.Path.{◌≡◌, refl, ap}
use mathlib.Core.Bool.{Bool, true, false, ◌&&◌}
use Prim.Native.Nat.{ℕ, zero, suc, ◌+◌, ◌-◌, ◌<◌, ◌≤◌}
use native.Mathlib.Nat.{add-zero, add-suc}
use native.Mathlib.Omega.{arith}
use borrow.Author.Tests.{leb-true, eqb-true, le-leb, eq-eqb, ltb-true, ltb-false}
use lib.Dec.{leb, ltb, eqb}
use Rattle.base.proofs.Choice.{test_same, and_first, and_second, not_T_false, T_true}
use Rattle.date.specs.Calendar.{month_length, days_to, name_day, IsDay}
use Rattle.date.proofs.Months.{days_more}

module _ (leap : Bool) where
  -- ---- the test, and what it says

  pub day_named : (n m d : ℕ) → IsDay leap n m d → name_day leap n m d ≡ true
  unfolding name_day
  day_named n m d h =
      rw (le-leb 1 m h.january, le-leb m 12 h.december, le-leb 1 d h.first, le-leb d (month_length leap m) h.last)
      (eq-eqb n (days_to leap (m - 1) + d) h.count)

  pub named_day : (n m d : ℕ) → name_day leap n m d ≡ true → IsDay leap n m d
  unfolding name_day
  named_day n m d e =
      let a = leb 1 m in
      let b = leb m 12 in
      let c = leb 1 d in
      let l = leb d (month_length leap m) in
      let e₁ = and_first (a && b && c && l) (eqb n (days_to leap (m - 1) + d)) e in
      let e₂ = and_first (a && b && c) l e₁ in
      let e₃ = and_first (a && b) c e₂ in
      record {
        january = leb-true 1 m (and_first a b e₃);
        december = leb-true m 12 (and_second a b e₃);
        first = leb-true 1 d (and_second (a && b) c e₂);
        last = leb-true d (month_length leap m) (and_second (a && b && c) l e₁);
        count = eqb-true n (days_to leap (m - 1) + d) (and_second (a && b && c && l) (eqb n (days_to leap (m - 1) + d)) e);
      }

  pub not_named : (n m d : ℕ) → (IsDay leap n m d → ⊥) → name_day leap n m d ≡ false
  not_named n m d h = not_T_false _ (λ t. h (named_day n m d (T_true _ t)))

  -- ---- a month's days come behind those of the months before

  pub month_ends : (m : ℕ) → 1 ≤ m → days_to leap m ≡ days_to leap (m - 1) + month_length leap m
  month_ends m h = let e : m - 1 + 1 ≡ m = omega arith in rw e at (days_more leap (m - 1))

  pub days_mono : (m k : ℕ) → days_to leap m ≤ days_to leap (m + k)
  unfolding days_to
  days_mono m zero = rw (add-zero m) (omega arith)
  days_mono m (suc k) = rw (add-suc m k) (omega (arith, days_mono m k))

  -- not yet, no more, or on the day that is so far into the month
  pub named_early : (n m d : ℕ) → n ≤ days_to leap (m - 1) → name_day leap n m d ≡ false
  named_early n m d h = not_named n m d (λ i. omega (arith, i.first, i.count))

  pub named_late : (n m d : ℕ) → days_to leap m < n → name_day leap n m d ≡ false
  named_late n m d h = not_named n m d (λ i. omega (arith, i.last, i.count, month_ends m i.january))

  pub named_within : (n m d : ℕ) → 1 ≤ m → m ≤ 12 → days_to leap (m - 1) < n → n ≤ days_to leap m → name_day leap n m d ≡ eqb (n - days_to leap (m - 1)) d
  named_within n m d h k a b =
      test_same _ _
      (λ e. let i = named_day n m d e in eq-eqb (n - days_to leap (m - 1)) d (omega (arith, i.count)))
      (λ e.
      let q = eqb-true (n - days_to leap (m - 1)) d e in
      day_named n m d (record { january = h; december = k; first = omega arith; last = omega (arith, month_ends m h); count = omega arith }))

  -- ---- no day number belongs to two days

  -- a day of an earlier month comes before
  earlier : {n m d n' m' d' : ℕ} → IsDay leap n m d → IsDay leap n' m' d' → m < m' → n < n'
  earlier {m = m} {m' = m'} i j h =
      let e : m + (m' - 1 - m) ≡ m' - 1 = omega arith in
      omega (arith, i.last, i.count, month_ends m i.january, j.first, j.count, rw e at (days_mono m (m' - 1 - m)))

  no_earlier : {n m d m' d' : ℕ} → IsDay leap n m d → IsDay leap n m' d' → (t : Bool) → ltb m m' ≡ t → m' ≤ m
  no_earlier {m = m} {m' = m'} i j true e = absurd (omega (arith, earlier i j (ltb-true m m' e)))
  no_earlier {m = m} {m' = m'} i j false e = ltb-false m m' e

  pub same_month : (n m d m' d' : ℕ) → IsDay leap n m d → IsDay leap n m' d' → m ≡ m'
  same_month n m d m' d' i j =
      omega (arith, no_earlier i j (ltb m m') refl, no_earlier j i (ltb m' m) refl)

  pub same_day : (n m d m' d' : ℕ) → IsDay leap n m d → IsDay leap n m' d' → d ≡ d'
  same_day n m d m' d' i j = omega (arith, i.count, j.count, ap (λ k. days_to leap (k - 1)) (same_month n m d m' d' i j))
