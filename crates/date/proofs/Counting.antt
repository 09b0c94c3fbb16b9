-- The calendar by counting: day n of a year is n - 1 days after 1 January, each day followed by the next of its month or by the first of the
-- next month. A year has 365 or 366 days, each named by exactly one month and day, and 31 December is the last.
-- Assumes nothing.
use mathlib.Core.Path.{◌≡◌, refl, ap, ◌∙◌}
use mathlib.Core.Bool.{Bool, true, false}
use Prim.Native.Nat.{ℕ, zero, suc, ◌+◌, ◌-◌, ◌<◌, ◌≤◌}
use native.Mathlib.Numerals.{add-one}
use native.Mathlib.Omega.{arith}
use borrow.Author.Tests.{ltb-true, ltb-false}
use lib.Dec.{ltb, lit≤}
use Rattle.base.proofs.Choice.{cond_elim}
use Rattle.date.specs.Calendar.{month_length, days_to, name_day, IsDay, MonthDay, month_day, day_after, days_after, year_length}
use Rattle.date.proofs.Months.{length_least}
use Rattle.date.proofs.Days.{day_named, named_day, month_ends, days_mono, same_month, same_day}

pub year_365 : year_length false ≡ 365
unfolding days_to month_length
year_365 = refl

pub year_366 : year_length true ≡ 366
unfolding days_to month_length
year_366 = refl

pub last_day : (leap : Bool) → name_day leap (year_length leap) 12 31 ≡ true
unfolding name_day days_to month_length
last_day true = refl
last_day false = refl

same_month_day : (x : MonthDay) (m d : ℕ) → x.month ≡ m → x.day ≡ d → x ≡ month_day m d
same_month_day x m d e f = ap (λ k. month_day k x.day) e ∙ ap (month_day m) f

module _ (leap : Bool) where
  abbrev Is : ℕ → MonthDay → Type 0
  Is n x = IsDay leap n x.month x.day

  -- the months before the last end before the year does
  not_december : (m : ℕ) → days_to leap m < year_length leap → m ≤ 12 → (t : Bool) → ltb m 12 ≡ t → m < 12
  not_december m h k true e = ltb-true m 12 e
  not_december m h k false e =
      let l = ltb-false m 12 e in
      let q : m ≡ 12 = omega arith in
      absurd (omega (arith, ap (days_to leap) q))

  pub next_day : (n : ℕ) (x : MonthDay) → n < year_length leap → Is n x → Is (n + 1) (day_after leap x)
  next_day n x h i =
      cond_elim (Is (n + 1)) (ltb x.day (month_length leap x.month))
      (λ e.
      record {
        january = i.january;
        december = i.december;
        first = omega arith;
        last = omega (arith, ltb-true x.day (month_length leap x.month) e);
        count = omega (arith, i.count);
      })
      (λ e.
      let f = ltb-false x.day (month_length leap x.month) e in
      let n-last : n ≡ days_to leap x.month = omega (arith, i.last, i.count, month_ends leap x.month i.january) in
      let m = x.month in
      let q : m + 1 - 1 ≡ m = omega arith in
      record {
        january = omega arith;
        december = omega (arith, not_december m (rw n-last at h) i.december (ltb m 12) refl);
        first = lit≤ tt;
        last = omega (arith, length_least leap (m + 1));
        count = rw (q, n-last);
      })

  -- each day of the year has its month and day
  pub counted_is : (k : ℕ) → k < year_length leap → Is (k + 1) (days_after leap k)
  unfolding days_after days_to
  counted_is zero h =
      record {
        january = lit≤ tt;
        december = lit≤ tt;
        first = lit≤ tt;
        last = omega (arith, length_least leap 1);
        count = refl;
      }
  counted_is (suc k) h = rw (← add-one k) (next_day (k + 1) (days_after leap k) (omega arith) (counted_is k (omega arith)))

  day_in_year_lem : (n m d : ℕ) → IsDay leap n m d → (1 ≤ n) × (n ≤ year_length leap)
  day_in_year_lem n m d i =
      let e : m + (12 - m) ≡ 12 = omega (arith, i.december) in
      (omega (arith, i.first, i.count), omega (arith, i.last, i.count, month_ends leap m i.january, rw e at (days_mono leap m (12 - m))))

  -- a day number, a month and a day name one day exactly if counting to that number comes to that month and day
  pub named_counted : (n m d : ℕ) → name_day leap n m d ≡ true → (1 ≤ n) × (n ≤ year_length leap) × (days_after leap (n - 1) ≡ month_day m d)
  named_counted n m d e =
      let i = named_day leap n m d e in
      let h = day_in_year_lem n m d i in
      let q : n - 1 + 1 ≡ n = omega (arith, h.0) in
      let j = rw q at (counted_is (n - 1) (omega (arith, h.0, h.1))) in
      let x = days_after leap (n - 1) in
      (h.0, h.1, same_month_day x m d (same_month leap n x.month x.day m d j i) (same_day leap n x.month x.day m d j i))

  pub counted_named : (n m d : ℕ) → 1 ≤ n → n ≤ year_length leap → days_after leap (n - 1) ≡ month_day m d → name_day leap n m d ≡ true
  counted_named n m d h k e =
      let q : n - 1 + 1 ≡ n = omega arith in
      day_named leap n m d (rw (q, e) at (counted_is (n - 1) (omega arith)))
