-- The order of dates (R332): the test is the statement, and of right dates it is the order of all seven numbers, since month and day follow from
-- the day of the year.
-- Assumes nothing.
use Rattle.std.specs.Prelude.{Ok}
use mathlib.Core.Path.{◌≡◌, refl, sym, ap, ap₂, ◌∙◌}
use mathlib.Core.Bool.{Bool, true, false, cond}
use mathlib.Core.List.{List, [], ◌∷◌, ◌++◌}
use mathlib.Core.Logic.{◌↔◌, ◌⊎◌, inl, inr, ⊎_elim}
use Prim.Native.Nat.{ℕ, ◌<◌}
use native.Mathlib.Omega.{arith}
use borrow.Author.Tests.{eqb-true, eq-eqb, ne_eqb, ltb-true, lt-ltb}
use lib.Dec.{eqb, ltb}
use lib.ListN.{length}
use Rattle.date.specs.declared.Date.{Date}
use Rattle.date.specs.Asked.{dated_by}
use Rattle.date.specs.Calendar.{is_leap, IsDay}
use Rattle.date.specs.Due.{NamesDay}
use Rattle.date.specs.Order.{Greater, not_less, moment, seven, AtOrAfter, not_before}
use Rattle.date.proofs.Asked.{asked_same}
use Rattle.date.proofs.Days.{same_month, same_day}

-- ---- numbers one behind the other

greater_more : (x : ℕ) (xs ys : List ℕ) → Greater xs ys → Greater (x ∷ xs) (x ∷ ys)
greater_more x xs ys g =
    record {
      same = x ∷ g.same;
      more = g.more;
      less = g.less;
      behind_more = g.behind_more;
      behind_less = g.behind_less;
      first = ap (λ l. x ∷ l) g.first;
      second = ap (λ l. x ∷ l) g.second;
      greater = g.greater;
    }

not_less_lem : (xs ys : List ℕ) → length xs ≡ length ys → not_less xs ys ≡ true → (xs ≡ ys) ⊎ Greater xs ys
unfolding not_less
not_less_lem [] [] l e = inl refl
not_less_lem [] (y ∷ ys) l e = absurd (omega arith)
not_less_lem (x ∷ xs) [] l e = absurd (omega arith)
not_less_lem (x ∷ xs) (y ∷ ys) l e = by (eqb x y) refl e (not_less_lem xs ys (omega arith))
  where
    by : (t : Bool) → eqb x y ≡ t → cond t (not_less xs ys) (ltb y x) ≡ true → (not_less xs ys ≡ true → (xs ≡ ys) ⊎ Greater xs ys) → (x ∷ xs ≡ y ∷ ys) ⊎ Greater (x ∷ xs) (y ∷ ys)
    by true q e rest =
        let p = eqb-true x y q in
        ⊎_elim
        (λ (h : xs ≡ ys). inl (ap₂ (λ a l. a ∷ l) p h))
        (λ (h : Greater xs ys). rw (← p) (inr (greater_more x xs ys h)))
        (rest e)
    by false q e rest =
        inr (record { same = []; more = x; less = y; behind_more = xs; behind_less = ys; first = refl; second = refl; greater = ltb-true y x e })

same_least : (xs : List ℕ) → not_less xs xs ≡ true
unfolding not_less
same_least [] = refl
same_least (x ∷ xs) = rw (eq-eqb x x refl) (same_least xs)

greater_least : (zs : List ℕ) (x : ℕ) (xs : List ℕ) (y : ℕ) (ys : List ℕ) → y < x → not_less (zs ++ (x ∷ xs)) (zs ++ (y ∷ ys)) ≡ true
unfolding not_less
greater_least [] x xs y ys h = rw (ne_eqb x y (λ e. omega arith)) (lt-ltb y x h)
greater_least (z ∷ zs) x xs y ys h = rw (eq-eqb z z refl) (greater_least zs x xs y ys h)

pub least_exactly : (xs ys : List ℕ) → length xs ≡ length ys → (not_less xs ys ≡ true) ↔ ((xs ≡ ys) ⊎ Greater xs ys)
least_exactly xs ys l = (
  not_less_lem xs ys l,
  ⊎_elim (λ e. rw e (same_least ys)) (λ g. rw (g.first, g.second) (greater_least g.same g.more g.behind_more g.less g.behind_less g.greater)),
)

-- ---- dates

pub not_before_exactly : (d e : Date) → (not_before d e ≡ true) ↔ AtOrAfter d e
unfolding not_before
not_before_exactly d e = least_exactly (moment d) (moment e) refl

-- two days of the same number in the same year have the same month and day
same_days : (d e : Date) → NamesDay d → NamesDay e → d.year ≡ e.year → d.day_of_year ≡ e.day_of_year → (d.month ≡ e.month) × (d.day ≡ e.day)
same_days d e g h y n =
    let i : IsDay (is_leap e.year) e.day_of_year d.month d.day = rw (y, n) at g in (
      same_month (is_leap e.year) e.day_of_year d.month d.day e.month e.day i h,
      same_day (is_leap e.year) e.day_of_year d.month d.day e.month e.day i h,
    )

module _ (d e : Date) (g : NamesDay d) (h : NamesDay e) where
  days_order : not_less (seven d) (seven e) ≡ not_before d e
  unfolding not_less not_before
  days_order = by_year (eqb d.year e.year) refl
    where
      by_day : (t : Bool) → eqb d.day_of_year e.day_of_year ≡ t → d.year ≡ e.year
          → cond t (not_less (d.month ∷ d.day ∷ d.hour ∷ d.minute ∷ d.second ∷ []) (e.month ∷ e.day ∷ e.hour ∷ e.minute ∷ e.second ∷ [])) (ltb e.day_of_year d.day_of_year)
          ≡ cond t (not_less (d.hour ∷ d.minute ∷ d.second ∷ []) (e.hour ∷ e.minute ∷ e.second ∷ [])) (ltb e.day_of_year d.day_of_year)
      by_day true n y =
          let s = same_days d e g h y (eqb-true d.day_of_year e.day_of_year n) in
          rw (eq-eqb d.month e.month s.0, eq-eqb d.day e.day s.1)
      by_day false n y = refl

      by_year : (t : Bool) → eqb d.year e.year ≡ t
          → cond t (not_less (d.day_of_year ∷ d.month ∷ d.day ∷ d.hour ∷ d.minute ∷ d.second ∷ [])
          (e.day_of_year ∷ e.month ∷ e.day ∷ e.hour ∷ e.minute ∷ e.second ∷ [])) (ltb e.year d.year)
          ≡ cond t (not_less (d.day_of_year ∷ d.hour ∷ d.minute ∷ d.second ∷ []) (e.day_of_year ∷ e.hour ∷ e.minute ∷ e.second ∷ [])) (ltb e.year d.year)
      by_year true y = by_day (eqb d.day_of_year e.day_of_year) refl (eqb-true d.year e.year y)
      by_year false y = refl

-- of right dates: the order of all seven numbers
pub seven_order : (d e : Date) → dated_by d ≡ Ok d → dated_by e ≡ Ok e → not_less (seven d) (seven e) ≡ not_before d e
seven_order d e p q = days_order d e (asked_same d d p).1.one_day (asked_same e e q).1.one_day

-- the statement: a right date is at or after another exactly if it is by all seven numbers
pub seven_exactly : (d e : Date) → dated_by d ≡ Ok d → dated_by e ≡ Ok e → AtOrAfter d e ↔ ((seven d ≡ seven e) ⊎ Greater (seven d) (seven e))
seven_exactly d e p q =
    let same = seven_order d e p q in
    let exactly = least_exactly (seven d) (seven e) refl in
    (λ a. exactly.0 (same ∙ (not_before_exactly d e).1 a), λ g. (not_before_exactly d e).0 (sym same ∙ exactly.1 g))
