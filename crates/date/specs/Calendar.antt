-- R144 to R146, the calendar: leap years, the lengths of months, and the days of a year.
use Rattle.std.specs.Prelude.{◌≡◌, Bool, cond, not, ◌&&◌, ◌||◌, [], ◌∷◌, ℕ, zero, suc, ◌+◌, ◌-◌, ◌%◌, ◌≤◌, leb, ltb, eqb}
use Rattle.base.specs.Every.{has}

abbrev pub divisible : ℕ → ℕ → Bool
divisible n k = eqb (n % k) 0

-- R144: a leap year is divisible by 4, and not by 100 unless by 400; so 0 is one
unfoldable pub is_leap : ℕ → Bool
is_leap y = divisible y 4 && (not (divisible y 100) || divisible y 400)

-- R145: 30 days have September, April, June and November, February has 28, or 29 in a leap year, and the others have 31. Months count
-- from 1.
abbrev pub has_thirty : ℕ → Bool
has_thirty m = has (9 ∷ 4 ∷ 6 ∷ 11 ∷ []) m

unfoldable pub month_length : Bool → ℕ → ℕ
month_length leap m = cond (eqb m 2) (cond leap 29 28) (cond (has_thirty m) 30 31)

-- the days of the months from January to month m
unfoldable pub days_to : Bool → ℕ → ℕ
days_to leap zero = 0
days_to leap (suc m) = days_to leap m + month_length leap (suc m)

-- R146: day of year n, month m and day d agree: there is such a month, it has such a day, and n counts the days of the earlier months and
-- those of its own month up to it
pub record IsDay (leap : Bool) (n m d : ℕ) : Type 0 where
  pub january : 1 ≤ m
  pub december : m ≤ 12
  pub first : 1 ≤ d
  pub last : d ≤ month_length leap m
  pub count : n ≡ days_to leap (m - 1) + d

-- the same as a test
unfoldable pub name_day : Bool → ℕ → ℕ → ℕ → Bool
name_day leap n m d = leb 1 m && leb m 12 && leb 1 d && leb d (month_length leap m) && eqb n (days_to leap (m - 1) + d)

-- ---- the calendar by counting, which names the same days (proofs/Counting.antt)

-- a month and a day of it
pub record MonthDay : Type 0 where
  pub month : ℕ
  pub day : ℕ

abbrev pub month_day : ℕ → ℕ → MonthDay
month_day m d = record { month = m; day = d }

-- the next day: the next of the month, or the first of the next month
abbrev pub day_after : Bool → MonthDay → MonthDay
day_after leap x = cond (ltb x.day (month_length leap x.month)) (month_day x.month (x.day + 1)) (month_day (x.month + 1) 1)

-- k days after 1 January
unfoldable pub days_after : Bool → ℕ → MonthDay
days_after leap zero = month_day 1 1
days_after leap (suc k) = day_after leap (days_after leap k)

-- the days of a year
abbrev pub year_length : Bool → ℕ
year_length leap = days_to leap 12
