-- R140 to R148 as statements on the letters of group 3, and R331 as one on numbers: which date it is, and who is blamed. `first_due` in
-- proofs/Due.antt and `asked_first_due` in proofs/Asked.antt: the answer is given exactly if it is due.
use Rattle.std.specs.Prelude.{◌≡◌, List, [], ◌∷◌, ◌++◌, ◌⊎◌, ℕ, ◌≤◌, Result, Ok, Err}
use Rattle.date.specs.declared.DigitField.{DigitField}
use Rattle.date.specs.declared.Date.{Date}
use Rattle.date.specs.Digits.{ReadsNumber}
use Rattle.date.specs.Calendar.{is_leap, IsDay}
use Rattle.date.specs.Date.{year, day_in_year, month, day, hour, minute, second, fields, begins_at}
use Rattle.date.specs.Asked.{FieldNumber, numbers, position}

-- R143: a field reads as some number, or it fails alone
pub record Holds (f : DigitField) (s : List ℕ) : Type 0 where
  pub value : ℕ
  pub reads : ReadsNumber f s value

-- R147: of several, each with a position: all hold alone
abbrev pub AllHold : {A : Type 0} → (A → Type 0) → List A → Type 0
AllHold Alone [] = Unit {0}
AllHold Alone (x ∷ xs) = Alone x × AllHold Alone xs

-- or one of them does not, all before it do, and p is its position
pub record FirstFails {A : Type 0} (position : A → ℕ) (Alone : A → Type 0) (xs : List A) (p : ℕ) : Type 0 where
  pub before : List A
  pub field : A
  pub behind : List A
  pub order : xs ≡ before ++ (field ∷ behind)
  pub hold : AllHold Alone before
  pub failing : Alone field → ⊥
  pub blamed : p ≡ position field

-- a field fails first in these letters, and begins at p
abbrev pub FieldFails : List ℕ → ℕ → Type 0
FieldFails s p = FirstFails begins_at (λ f. Holds f s) fields p

-- each of the seven fields reads as the date's number
pub record HasNumbers (s : List ℕ) (d : Date) : Type 0 where
  pub in_year : ReadsNumber year s d.year
  pub on_day_of_year : ReadsNumber day_in_year s d.day_of_year
  pub in_month : ReadsNumber month s d.month
  pub on_day : ReadsNumber day s d.day
  pub at_hour : ReadsNumber hour s d.hour
  pub at_minute : ReadsNumber minute s d.minute
  pub at_second : ReadsNumber second s d.second

-- R146: day of the year, month and day agree, in the date's year
abbrev pub NamesDay : Date → Type 0
NamesDay d = IsDay (is_leap d.year) d.day_of_year d.month d.day

pub record IsDate (s : List ℕ) (d : Date) : Type 0 where
  pub numbers : HasNumbers s d
  pub one_day : NamesDay d

-- R148: no field fails alone, but the three name no day
pub record Mismatched (s : List ℕ) (p : ℕ) : Type 0 where
  pub date : Date
  pub numbers : HasNumbers s date
  pub no_day : NamesDay date → ⊥
  pub position : p ≡ 7

abbrev pub Due : List ℕ → Result Date ℕ → Type 0
Due s (Ok d) = IsDate s d
Due s (Err p) = FieldFails s p ⊎ Mismatched s p

-- ---- R331: of a date that is asked for

-- R143: a number holds alone if it is within the range of its field
pub record InRange (n : FieldNumber) : Type 0 where
  pub enough : n.field.least ≤ n.value
  pub not_more : n.value ≤ n.field.greatest

pub record IsAsked (d : Date) : Type 0 where
  pub each : AllHold InRange (numbers d)
  pub one_day : NamesDay d

-- R148: each is, but the three name no day
pub record AskedMismatched (d : Date) (p : ℕ) : Type 0 where
  pub each : AllHold InRange (numbers d)
  pub no_day : NamesDay d → ⊥
  pub blamed : p ≡ 7

abbrev pub AskedDue : Date → Result Date ℕ → Type 0
AskedDue d (Ok e) = (e ≡ d) × IsAsked d
AskedDue d (Err p) = FirstFails position InRange (numbers d) p ⊎ AskedMismatched d p
