-- First due: a position is blamed exactly if it is that of the first field that fails alone, or it is 7, no field fails alone, and the three
-- name no day; a date is right exactly if neither is so.
-- Assumes nothing.
use Rattle.std.specs.Prelude.{Option, Some, None, Result, Ok, Err}
use mathlib.Core.Path.{◌≡◌, refl, sym, ap, ◌∙◌, subst}
use mathlib.Core.Bool.{Bool, true, false, true≢false}
use mathlib.Core.List.{List}
use mathlib.Core.Logic.{◌↔◌, inl, inr, ⊎_elim}
use Prim.Native.Nat.{ℕ, ◌≤◌}
use native.Mathlib.Omega.{arith}
use Rattle.date.specs.declared.DigitField.{DigitField}
use Rattle.date.specs.declared.Date.{Date}
use Rattle.date.specs.Digits.{field_digits, ReadsNumber}
use Rattle.date.specs.Calendar.{is_leap}
use Rattle.date.specs.Date.{fields, fails, number, begins_at, fails_in, dated_of, date_of, names_one_day, judged}
use Rattle.date.specs.Due.{Holds, AllHold, FieldFails, HasNumbers, NamesDay, Due}
use Rattle.date.proofs.Blame.{hold_given, first_fails, found, blamed_one}
use Rattle.date.proofs.Days.{day_named, named_day, not_named}
use Rattle.date.proofs.Grammar.{read_is, is_read_lem}

held : (x : Option ℕ) → fails x ≡ false → x ≡ Some (number x)
held (Some v) e = refl
held None e = let z : ◌≡◌ {A = ℕ} 0 1 = cc in absurd (omega arith)

-- a field holds exactly if the text has its digits
holds_passes : (f : DigitField) (s : List ℕ) → Holds f s → fails_in s f ≡ false
holds_passes f s h = rw (is_read_lem f s h.value h.reads)

passes_reads : (f : DigitField) (s : List ℕ) → fails_in s f ≡ false → ReadsNumber f s (number (field_digits f s))
passes_reads f s e = read_is f s (number (field_digits f s)) (held (field_digits f s) e)

field_test : (s : List ℕ) (f : DigitField) → (fails_in s f ≡ false) ↔ Holds f s
field_test s f = (λ e. record { value = number (field_digits f s); reads = passes_reads f s e }, holds_passes f s)

-- ---- the seven numbers

-- fields that hold read as the numbers of `date_of`
all_numbers : (s : List ℕ) → AllHold (λ f. Holds f s) fields → HasNumbers s (date_of s)
all_numbers s (y, (n, (m, (d, (h, (i, (e, _))))))) =
    record {
      in_year = passes_reads _ s (holds_passes _ s y);
      on_day_of_year = passes_reads _ s (holds_passes _ s n);
      in_month = passes_reads _ s (holds_passes _ s m);
      on_day = passes_reads _ s (holds_passes _ s d);
      at_hour = passes_reads _ s (holds_passes _ s h);
      at_minute = passes_reads _ s (holds_passes _ s i);
      at_second = passes_reads _ s (holds_passes _ s e);
    }

read_holds : {f : DigitField} {s : List ℕ} {v : ℕ} → ReadsNumber f s v → Holds f s
read_holds {v = v} r = record { value = v; reads = r }

numbers_hold : (s : List ℕ) (d : Date) → HasNumbers s d → AllHold (λ f. Holds f s) fields
numbers_hold s d n = (
  read_holds
      n.in_year,
  (read_holds n.on_day_of_year, (read_holds n.in_month, (read_holds n.on_day, (read_holds n.at_hour, (read_holds n.at_minute, (read_holds n.at_second, tt)))))),
)

numbers_are : (s : List ℕ) (d : Date) → HasNumbers s d → date_of s ≡ d
numbers_are s d n =
    rw (
      is_read_lem _ s _ n.in_year,
      is_read_lem _ s _ n.on_day_of_year,
      is_read_lem _ s _ n.in_month,
      is_read_lem _ s _ n.on_day,
      is_read_lem _ s _ n.at_hour,
      is_read_lem _ s _ n.at_minute,
      is_read_lem _ s _ n.at_second,
    )

pub day_names : (d : Date) → NamesDay d → names_one_day d ≡ true
day_names d h = day_named (is_leap d.year) d.day_of_year d.month d.day h

pub no_day_names : (d : Date) → (NamesDay d → ⊥) → names_one_day d ≡ false
no_day_names d h = not_named (is_leap d.year) d.day_of_year d.month d.day h

-- ---- the answer on the letters of group 3

hold_judged : (s : List ℕ) → AllHold (λ f. Holds f s) fields → dated_of s ≡ judged (date_of s)
unfolding dated_of
hold_judged s a = hold_given begins_at (fails_in s) (λ f. Holds f s) (field_test s) fields (judged (date_of s)) a

fails_blamed : (s : List ℕ) (p : ℕ) → FieldFails s p → dated_of s ≡ Err p
unfolding dated_of
fails_blamed s p r = first_fails begins_at (fails_in s) (λ f. Holds f s) (field_test s) fields p (judged (date_of s)) r

pub judged_of : (s : List ℕ) (d : Date) → HasNumbers s d → dated_of s ≡ judged d
judged_of s d n = hold_judged s (numbers_hold s d n) ∙ ap judged (numbers_are s d n)

due_given : (s : List ℕ) (x : Result Date ℕ) → Due s x → dated_of s ≡ x
due_given s (Ok d) i = judged_of s d i.numbers ∙ rw (day_names d i.one_day)
due_given s (Err p) (inl r) = fails_blamed s p r
due_given s (Err p) (inr m) = judged_of s m.date m.numbers ∙ rw (no_day_names m.date m.no_day, m.position)

-- no field fails alone: the calendar decides
judged_due : (s : List ℕ) (t : Bool) → HasNumbers s (date_of s) → names_one_day (date_of s) ≡ t → Due s (judged (date_of s))
judged_due s true n e =
    let d = date_of s in
    rw e record { numbers = n; one_day = named_day (is_leap d.year) d.day_of_year d.month d.day e }
judged_due s false n e =
    rw e (inr (record { date = date_of s; numbers = n; no_day = λ h. true≢false (sym (day_names (date_of s) h) ∙ e); position = refl }))

given_due : (s : List ℕ) → Due s (dated_of s)
given_due s =
    ⊎_elim
    (λ a. subst (Due s) (sym (hold_judged s a)) (judged_due s (names_one_day (date_of s)) (all_numbers s a) refl))
    (λ r. subst (Due s) (sym (fails_blamed s r.0 r.1)) (inl r.1))
    (found begins_at (fails_in s) (λ f. Holds f s) (field_test s) fields)

pub first_due : (s : List ℕ) (x : Result Date ℕ) → dated_of s ≡ x ↔ Due s x
first_due s x = (λ e. subst (Due s) e (given_due s), due_given s x)

-- a position that is blamed is one: positions count from 1
pub blamed_position : (s : List ℕ) (p : ℕ) → Due s (Err p) → 1 ≤ p
blamed_position s p (inl r) = blamed_one begins_at (λ f. Holds f s) fields p tt r
blamed_position s p (inr m) = omega (arith, m.position)
