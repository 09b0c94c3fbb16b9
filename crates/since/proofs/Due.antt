-- First due: 10 exactly if the date that is asked for is wrong; a record exactly if it is the first of the walk that is at or after the date; the
-- refusal at which the walk stops exactly if none is.
-- Assumes nothing.
use Rattle.std.specs.Prelude.{Result, Ok, Err}
use mathlib.Core.Path.{◌≡◌, refl, sym, ◌∙◌, ap, subst}
use mathlib.Core.Bool.{Bool, true, false, true≢false}
use mathlib.Core.List.{List}
use mathlib.Core.Logic.{◌↔◌, ⊎_elim}
use Prim.Native.Nat.{ℕ, zero, suc, ◌+◌, ◌<◌, ◌≤◌}
use native.Mathlib.Omega.{arith}
use Rattle.rules.specs.declared.Rules.{Rules}
use Rattle.base.proofs.Order.{le_or_lt}
use Rattle.date.specs.declared.Date.{Date}
use Rattle.date.specs.Asked.{dated_by}
use Rattle.date.specs.Due.{IsAsked}
use Rattle.date.proofs.Asked.{asked_first_due}
use Rattle.place.specs.Walk.{spot, IsRecord, records_in}
use Rattle.place.proofs.Stopped.{walks, placed_record}
use Rattle.reply.specs.declared.Refusal.{Refusal}
use Rattle.since.specs.Numbered.{First, found, unfound}
use Rattle.since.specs.Due.{IsFrom, IsFirst, NoneIs, RefusedFor, bad_date, not_found, Due}
use Rattle.since.specs.Since.{meets, date_at, stop_of, first_dated, first_by, first_from}
use Rattle.since.proofs.Dates.{meets_exactly, from_record}
use Rattle.since.proofs.Walked.{stop_is, rest_from, rest_all, rest_few, rest_found, rest_passed, rest_stopped}

module _ (ρ : Rules) (s : List ℕ) (d : Date) where
  abbrev tested : ℕ → Bool
  tested k = meets d (date_at ρ s (spot ρ s k))

  not_from : (k : ℕ) → (IsFrom ρ s d k → ⊥) → tested k ≡ false
  not_from k n = by (tested k) refl
    where
      by : (t : Bool) → tested k ≡ t → t ≡ false
      by true e = absurd (n ((meets_exactly ρ s d k).0 e))
      by false e = refl

  from_not : (k : ℕ) → tested k ≡ false → IsFrom ρ s d k → ⊥
  from_not k e h = true≢false (sym ((meets_exactly ρ s d k).1 h) ∙ e)

  -- ---- a right date

  -- as long as records stand there and none is at or after the date, what is left answers as all does
  passed_by : (k : ℕ) → ((j : ℕ) → j < k → IsRecord ρ s (spot ρ s j)) → ((j : ℕ) → j < k → IsFrom ρ s d j → ⊥) → (k ≤ records_in ρ s) × (rest_from ρ s d k ≡ first_dated ρ s d)
  passed_by zero each none = (omega arith, rest_all ρ s d)
  passed_by (suc k) each none =
      let b = passed_by k (λ j l. each j (omega arith)) (λ j l. none j (omega arith)) in
      let r = each k (omega arith) in (
        omega (arith, rest_few ρ s d k b.0 r.next r.ns r.is),
        sym (rest_passed ρ s d k b.0 r.next r.ns r.is (not_from k (none k (omega arith)))) ∙ b.1,
      )

  first_given : (p k : ℕ) → IsFirst ρ s d p k → first_dated ρ s d ≡ found p k
  first_given p k h =
      let r = from_record ρ s d k h.is in
      let b = passed_by k (λ j l. (placed_record ρ s (spot ρ s j)).0 (h.passed j l)) h.none_before in
      sym b.1 ∙ rest_found ρ s d k b.0 r.next r.ns r.is ((meets_exactly ρ s d k).1 h.is) ∙ ap (λ q. found q k) (sym h.stands)

  -- it is a record of the walk
  pub first_few : (p k : ℕ) → IsFirst ρ s d p k → k < records_in ρ s
  first_few p k h =
      let r = from_record ρ s d k h.is in
      rest_few ρ s d k (passed_by k (λ j l. (placed_record ρ s (spot ρ s j)).0 (h.passed j l)) h.none_before).0 r.next r.ns r.is

  none_given : (many : ℕ) (r : Refusal) → NoneIs ρ s d many r → first_dated ρ s d ≡ unfound many r
  none_given many r h =
      let w = ((walks ρ s).stops many r).1 h.stops in
      let b = passed_by many w.each h.none in
      sym b.1 ∙ rest_stopped ρ s d many b.0 r w.last

  -- ---- one of them is due

  abbrev NoneBefore : ℕ → Type 0
  NoneBefore k = (j : ℕ) → j < k → IsFrom ρ s d j → ⊥

  abbrev DatedDue : First → Type 0
  DatedDue (Ok f) = IsFirst ρ s d f.place f.passed
  DatedDue (Err u) = NoneIs ρ s d u.passed u.why

  none_more : (k : ℕ) → NoneBefore k → (IsFrom ρ s d k → ⊥) → NoneBefore (suc k)
  none_more k none n j l h = ⊎_elim (λ (m : k ≤ j). let e : j ≡ k = omega arith in n (rw e at h)) (λ (m : j < k). none j m h) (le_or_lt k j)

  -- k records were passed, and so many are left
  search_due : (left k : ℕ) → k + left ≡ records_in ρ s → NoneBefore k → DatedDue (first_dated ρ s d)
  search_due zero k e none =
      let q : k ≡ records_in ρ s = omega arith in
      let h : NoneIs ρ s d k (stop_of ρ s) = record { stops = ((walks ρ s).stops k (stop_of ρ s)).0 (rw q (stop_is ρ s)); none = none } in
      subst DatedDue (sym (none_given k (stop_of ρ s) h)) h
  search_due (suc left) k e none = by (tested k) refl (search_due left (suc k) (omega arith))
    where
      by : (t : Bool) → tested k ≡ t → (NoneBefore (suc k) → DatedDue (first_dated ρ s d)) → DatedDue (first_dated ρ s d)
      by true m rest =
          let h : IsFirst ρ s d (spot ρ s k) k = record {
            is = (meets_exactly ρ s d k).0 m;
            stands = refl;
            passed = λ j l. (placed_record ρ s (spot ρ s j)).1 ((stop_is ρ s).each j (omega arith));
            none_before = none;
          } in
          subst DatedDue (sym (first_given (spot ρ s k) k h)) h
      by false m rest = rest (none_more k none (from_not k m))

  dated_due : DatedDue (first_dated ρ s d)
  dated_due = search_due (records_in ρ s) 0 (omega arith) (λ j l h. absurd (omega arith))

-- ---- any date

module _ (ρ : Rules) (s : List ℕ) (from : Date) where
  -- a date that is right is the one that is asked for
  right_by : IsAsked from → first_from ρ s from ≡ first_dated ρ s from
  unfolding first_from
  right_by a = ap (first_by ρ s) ((asked_first_due from (Ok from)).1 (refl, a))

  refused_given : (k : ℕ) (r : Refusal) → RefusedFor ρ s from k r → first_from ρ s from ≡ unfound k r
  unfolding first_from
  refused_given k r (bad_date p a) = ap (first_by ρ s) ((asked_first_due from (Err p)).1 a)
  refused_given k r (not_found many q a h) = right_by a ∙ none_given ρ s from many q h

  due_given : (x : First) → Due ρ s from x → first_from ρ s from ≡ x
  due_given (Ok f) h = right_by h.0 ∙ first_given ρ s from f.place f.passed h.1
  due_given (Err u) h = refused_given u.passed u.why h

  given_due : Due ρ s from (first_from ρ s from)
  unfolding first_from
  given_due = by (dated_by from) refl
    where
      dated : IsAsked from → (x : First) → DatedDue ρ s from x → Due ρ s from x
      dated a (Ok f) h = (a, h)
      dated a (Err u) h = not_found u.passed u.why a h

      by : (x : Result Date ℕ) → dated_by from ≡ x → Due ρ s from (first_by ρ s x)
      by (Err p) e = bad_date p ((asked_first_due from (Err p)).0 e)
      by (Ok d) e =
          let a = (asked_first_due from (Ok d)).0 e in
          rw a.0 (dated a.1 (first_dated ρ s from) (dated_due ρ s from))

  pub first_due : (x : First) → first_from ρ s from ≡ x ↔ Due ρ s from x
  first_due x = (λ e. subst (Due ρ s from) e given_due, due_given x)
