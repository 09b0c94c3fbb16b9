-- R205, R206: replies 5 and 6 in plain words: release 5 with vacant groups empty, another release, the lowest vacant group with a count.
-- Each exactly if its condition holds.
-- Assumes nothing.
use mathlib.Core.Path.{◌≡◌, refl, ap}
use mathlib.Core.Bool.{Bool, true, false, cond}
use mathlib.Core.List.{List}
use mathlib.Core.Logic.{⊎_elim}
use Prim.Native.Nat.{ℕ, zero, suc, ◌+◌, ◌<◌, ◌≤◌}
use native.Mathlib.Nat.{eq-or-lt_of_le}
use native.Mathlib.Omega.{arith}
use borrow.Author.Tests.{eq-eqb, ne_eqb, eqb-true, eqb-false}
use lib.Dec.{eqb}
use Rattle.base.specs.Every
use Rattle.base.specs.Every.{up_from}
use Rattle.base.proofs.Order.{le_or_lt}
use Rattle.count.specs.Tally.{count_of}
use Rattle.count.specs.Rules.{filled_among, release_of}
use Rattle.count.specs.Due.{ReleaseDue}
use Rattle.reply.specs.declared.Refusal.{Refusal}
use Rattle.reply.specs.declared.Refusal.TheVariants.{OtherRelease, FilledVacant}
use Rattle.std.proofs.Common.{Result, Ok, Err}

module _ (ns : List ℕ) where
  -- no count among the n groups from a on
  Empty : ℕ → ℕ → Type 0
  Empty a n = (g : ℕ) → a ≤ g → g < a + n → count_of ns g ≡ 0

  -- g is the lowest of them with a count
  record Lowest (a n g : ℕ) : Type 0 where
    pub low : a ≤ g
    pub high : g < a + n
    pub filled : count_of ns g ≡ 0 → ⊥
    pub lowest : (h : ℕ) → a ≤ h → h < g → count_of ns h ≡ 0

  -- what is said of them
  Among : ℕ → ℕ → Result (Unit {0}) Refusal → Type 0
  Among a n (Ok none) = Empty a n
  Among a n (Err (FilledVacant g)) = Lowest a n g
  Among a n (Err _) = ⊥

  -- one group more in front: empty, or with a count
  front_empty : (a n : ℕ) (r : Result (Unit {0}) Refusal) → count_of ns a ≡ 0 → Among (suc a) n r → Among a (suc n) r
  unfolding Among Empty
  front_empty a n (Ok none) z f = λ g l h. ⊎_elim (λ (e : a ≡ g). rw (← e) z) (λ (k : a < g). f g k (omega arith)) (eq-or-lt_of_le l)
  front_empty a n (Err (FilledVacant g)) z f =
      record {
        low = omega (arith, f.low);
        high = omega (arith, f.high);
        filled = f.filled;
        lowest = λ h l k. ⊎_elim (λ (e : a ≡ h). rw (← e) z) (λ (j : a < h). f.lowest h j k) (eq-or-lt_of_le l);
      }
  front_empty a n (Err _) z f = f

  front_filled : (a n : ℕ) → (count_of ns a ≡ 0 → ⊥) → Among a (suc n) (Err (FilledVacant a))
  unfolding Among
  front_filled a n k = record { low = omega arith; high = omega arith; filled = k; lowest = λ h l j. absurd (omega arith) }

  says : (a n : ℕ) → Among a n (filled_among ns (up_from a n))
  unfolding filled_among Every.up_from Among Empty
  says a zero = λ g l h. absurd (omega arith)
  says a (suc n) = by (eqb (count_of ns a) 0) refl (says (suc a) n)
    where
      by : (t : Bool) → eqb (count_of ns a) 0 ≡ t → Among (suc a) n (filled_among ns (up_from (suc a) n)) → Among a (suc n) (cond t (filled_among ns (up_from (suc a) n)) (Err (FilledVacant a)))
      by true e f = front_empty a n (filled_among ns (up_from (suc a) n)) (eqb-true (count_of ns a) 0 e) f
      by false e f = front_filled a n (eqb-false (count_of ns a) 0 e)

  -- and only one answer is right
  one : (a n : ℕ) (r q : Result (Unit {0}) Refusal) → Among a n r → Among a n q → r ≡ q
  unfolding Among Empty
  one a n (Ok none) (Ok also) f g = refl
  one a n (Ok none) (Err (FilledVacant k)) f g = absurd (g.filled (f k g.low g.high))
  one a n (Ok none) (Err _) f g = absurd g
  one a n (Err (FilledVacant j)) (Ok none) f g = absurd (f.filled (g j f.low f.high))
  one a n (Err (FilledVacant j)) (Err (FilledVacant k)) f g =
      ⊎_elim
      (λ (l : j ≤ k). ⊎_elim (λ e. ap (λ i. Err (FilledVacant i)) e) (λ (h : j < k). absurd (f.filled (g.lowest j f.low h))) (eq-or-lt_of_le l))
      (λ (h : k < j). absurd (g.filled (f.lowest k g.low h)))
      (le_or_lt j k)
  one a n (Err (FilledVacant j)) (Err _) f g = absurd g
  one a n (Err _) q f g = absurd f

  -- ---- the three answers

  -- what is due is given
  pub release_given : (r : Result (Unit {0}) Refusal) → ReleaseDue ns r → release_of ns ≡ r
  unfolding release_of Among Empty
  release_given (Ok five) d =
      rw (eq-eqb (count_of ns 80) 5 d.five) (one 61 19 (filled_among ns (up_from 61 19)) (Ok tt) (says 61 19) (λ g l h. d.vacant g l (omega arith)))
  release_given (Err OtherRelease) d = rw (ne_eqb (count_of ns 80) 5 d)
  release_given (Err (FilledVacant g)) d =
      rw (eq-eqb (count_of ns 80) 5 d.five)
      (one 61 19 (filled_among ns (up_from 61 19)) (Err (FilledVacant g)) (says 61 19) record { low = d.low; high = omega (arith, d.high); filled = d.filled; lowest = d.lowest })
  release_given (Err _) d = absurd d

  -- and what is given is due
  pub release_due : ReleaseDue ns (release_of ns)
  unfolding release_of Among Empty
  release_due = by (eqb (count_of ns 80) 5) refl
    where
      among : (r : Result (Unit {0}) Refusal) → count_of ns 80 ≡ 5 → Among 61 19 r → ReleaseDue ns r
      among (Ok five) e f = record { five = e; vacant = λ g l h. f g l (omega arith) }
      among (Err (FilledVacant g)) e f = record { five = e; low = f.low; high = omega (arith, f.high); filled = f.filled; lowest = f.lowest }
      among (Err _) e f = absurd f

      by : (t : Bool) → eqb (count_of ns 80) 5 ≡ t → ReleaseDue ns (cond t (filled_among ns (up_from 61 19)) (Err OtherRelease))
      by true e = among (filled_among ns (up_from 61 19)) (eqb-true (count_of ns 80) 5 e) (says 61 19)
      by false e = eqb-false (count_of ns 80) 5 e
