-- R332: which of two dates is the later, to the second. Year, day of the year and time of day are compared, in this order; month and day need
-- not be, since a day of a year has one month and one day (`seven_order` in proofs/Order.antt).
use Rattle.std.specs.Prelude.{◌≡◌, Bool, true, cond, List, [], ◌∷◌, ◌++◌, ◌⊎◌, ℕ, ◌<◌, eqb, ltb}
use Rattle.date.specs.declared.Date.{Date}

-- ---- numbers one behind the other, the weightiest first

-- as a statement: up to some number they are the same, and that one is the greater
pub record Greater (xs ys : List ℕ) : Type 0 where
  pub same : List ℕ
  pub more : ℕ
  pub less : ℕ
  pub behind_more : List ℕ
  pub behind_less : List ℕ
  pub first : xs ≡ same ++ (more ∷ behind_more)
  pub second : ys ≡ same ++ (less ∷ behind_less)
  pub greater : less < more

-- as a test, of lists of the same length (`least_exactly` in proofs/Order.antt): the same, or the greater
unfoldable pub not_less : List ℕ → List ℕ → Bool
not_less [] ys = true
not_less (x ∷ xs) [] = true
not_less (x ∷ xs) (y ∷ ys) = cond (eqb x y) (not_less xs ys) (ltb y x)

-- ---- dates

-- the year, the day in it, and the time of day
abbrev pub moment : Date → List ℕ
moment d = d.year ∷ d.day_of_year ∷ d.hour ∷ d.minute ∷ d.second ∷ []

-- all seven numbers, as they stand in group 3
abbrev pub seven : Date → List ℕ
seven d = d.year ∷ d.day_of_year ∷ d.month ∷ d.day ∷ d.hour ∷ d.minute ∷ d.second ∷ []

-- a date is at or after another
abbrev pub AtOrAfter : Date → Date → Type 0
AtOrAfter d e = (moment d ≡ moment e) ⊎ Greater (moment d) (moment e)

unfoldable pub not_before : Date → Date → Bool
not_before d e = not_less (moment d) (moment e)
