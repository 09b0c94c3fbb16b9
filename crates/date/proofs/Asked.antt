-- A date that is asked for (R331): a position is blamed exactly if it is that of the first number that is outside its range, or it is 7, all are
-- inside, and the three name no day; else the date is given. Letters that have these numbers tell the same.
-- Assumes nothing.
use Rattle.std.specs.Prelude.{Result, Ok, Err}
use mathlib.Core.Path.{◌≡◌, refl, sym, ap, ◌∙◌, subst}
use mathlib.Core.Bool.{Bool, true, false, true≢false}
use mathlib.Core.List.{List}
use mathlib.Core.Logic.{◌↔◌, inl, inr, ⊎_elim}
use Prim.Native.Nat.{ℕ, ◌≤◌}
use native.Mathlib.Omega.{arith}
use borrow.Author.Tests.{le-leb, leb-true, not-false}
use lib.Dec.{leb}
use Rattle.base.proofs.Choice.{and_first, and_second}
use Rattle.date.specs.declared.DigitField.{DigitField}
use Rattle.date.specs.declared.Date.{Date}
use Rattle.date.specs.Asked.{FieldNumber, value_in, numbers, outside, position, dated_by}
use Rattle.date.specs.Calendar.{is_leap}
use Rattle.date.specs.Date.{dated_of, names_one_day, judged}
use Rattle.date.specs.Digits.{within, ReadsNumber}
use Rattle.date.specs.Due.{AllHold, FirstFails, HasNumbers, InRange, IsAsked, AskedDue}
use Rattle.date.proofs.Blame.{hold_given, first_fails, found, blamed_one}
use Rattle.date.proofs.Days.{named_day}
use Rattle.date.proofs.Due.{day_names, no_day_names, judged_of, first_due}

-- ---- one number

range_passes : (n : FieldNumber) → InRange n → outside n ≡ false
range_passes n h = rw (le-leb n.field.least n.value h.enough, le-leb n.value n.field.greatest h.not_more)

pub passes_range : (n : FieldNumber) → within n.field.least n.field.greatest n.value ≡ true → InRange n
passes_range n e =
    let low = leb n.field.least n.value in
    let high = leb n.value n.field.greatest in
    record { enough = leb-true n.field.least n.value (and_first low high e); not_more = leb-true n.value n.field.greatest (and_second low high e) }

number_test : (n : FieldNumber) → (outside n ≡ false) ↔ InRange n
number_test n = (λ e. passes_range n (not-false _ e), range_passes n)

-- ---- all seven

range_judged : (d : Date) → AllHold InRange (numbers d) → dated_by d ≡ judged d
unfolding dated_by
range_judged d a = hold_given position outside InRange number_test (numbers d) (judged d) a

outside_blamed : (d : Date) (p : ℕ) → FirstFails position InRange (numbers d) p → dated_by d ≡ Err p
unfolding dated_by
outside_blamed d p r = first_fails position outside InRange number_test (numbers d) p (judged d) r

due_given : (d : Date) (x : Result Date ℕ) → AskedDue d x → dated_by d ≡ x
due_given d (Ok e) a = range_judged d a.1.each ∙ rw (day_names d a.1.one_day) (ap Ok (sym a.0))
due_given d (Err p) (inl r) = outside_blamed d p r
due_given d (Err p) (inr m) = range_judged d m.each ∙ rw (no_day_names d m.no_day, m.blamed)

judged_due : (d : Date) (t : Bool) → AllHold InRange (numbers d) → names_one_day d ≡ t → AskedDue d (judged d)
judged_due d true a e = rw e (refl, record { each = a; one_day = named_day (is_leap d.year) d.day_of_year d.month d.day e })
judged_due d false a e = rw e (inr (record { each = a; no_day = λ h. true≢false (sym (day_names d h) ∙ e); blamed = refl }))

given_due : (d : Date) → AskedDue d (dated_by d)
given_due d =
    ⊎_elim
    (λ a. subst (AskedDue d) (sym (range_judged d a)) (judged_due d (names_one_day d) a refl))
    (λ r. subst (AskedDue d) (sym (outside_blamed d r.0 r.1)) (inl r.1))
    (found position outside InRange number_test (numbers d))

pub asked_first_due : (d : Date) (x : Result Date ℕ) → dated_by d ≡ x ↔ AskedDue d x
asked_first_due d x = (λ e. subst (AskedDue d) e (given_due d), due_given d x)

-- the date that is given is the one that is asked for
pub asked_same : (d e : Date) → dated_by d ≡ Ok e → (e ≡ d) × IsAsked d
asked_same d e q = (asked_first_due d (Ok e)).0 q

-- a position that is blamed is one
pub asked_position : (d : Date) (p : ℕ) → AskedDue d (Err p) → 1 ≤ p
asked_position d p (inl r) = blamed_one position InRange (numbers d) p tt r
asked_position d p (inr m) = omega (arith, m.blamed)

-- ---- letters that have the numbers of a date tell what is told of it

read_range : {f : DigitField} {s : List ℕ} {v : ℕ} → ReadsNumber f s v → InRange (value_in f v)
read_range r = record { enough = r.enough; not_more = r.not_more }

ranges : (s : List ℕ) (d : Date) → HasNumbers s d → AllHold InRange (numbers d)
ranges s d n = (
  read_range n.in_year,
  (read_range n.on_day_of_year, (read_range n.in_month, (read_range n.on_day, (read_range n.at_hour, (read_range n.at_minute, (read_range n.at_second, tt)))))),
)

pub letters_asked : (s : List ℕ) (d : Date) → HasNumbers s d → dated_of s ≡ dated_by d
letters_asked s d n = judged_of s d n ∙ sym (range_judged d (ranges s d n))

-- so a date that a record tells may be asked for
pub told_asked : (s : List ℕ) (d : Date) → dated_of s ≡ Ok d → dated_by d ≡ Ok d
told_asked s d e = sym (letters_asked s d ((first_due s (Ok d)).0 e).numbers) ∙ e
