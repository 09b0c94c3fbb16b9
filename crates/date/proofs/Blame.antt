-- Which of several is blamed (`first_blamed`): a test that tells of each whether it holds alone blames the first that does not.
-- Assumes nothing.
use Rattle.std.specs.Prelude.{Result, Err}
use mathlib.Core.Path.{◌≡◌, refl, sym, ap, ◌∙◌, subst}
use mathlib.Core.Bool.{Bool, true, false, true≢false}
use mathlib.Core.List.{List, [], ◌∷◌, ◌++◌}
use mathlib.Core.Logic.{◌↔◌, ◌⊎◌, inl, inr}
use Prim.Native.Nat.{ℕ, ◌≤◌}
use lib.Dec.{T, leb, leb→le}
use Rattle.base.specs.Every.{every}
use Rattle.base.proofs.Choice.{and_left, and_right}
use Rattle.date.specs.Date.{first_blamed}
use Rattle.date.specs.Due.{AllHold, FirstFails}
use Rattle.date.specs.declared.Date.{Date}

-- ---- by a test that passes exactly where something holds alone

module _ {A : Type 0} (position : A → ℕ) (failing : A → Bool) (Alone : A → Type 0) (test : (x : A) → (failing x ≡ false) ↔ Alone x) where
  alone_fails : (x : A) → (Alone x → ⊥) → failing x ≡ true
  alone_fails x n = by (failing x) refl
    where
      by : (t : Bool) → failing x ≡ t → t ≡ true
      by true e = refl
      by false e = absurd (n ((test x).0 e))

  pub hold_given : (xs : List A) (given : Result Date ℕ) → AllHold Alone xs → first_blamed position failing xs given ≡ given
  unfolding first_blamed
  hold_given [] given a = refl
  hold_given (x ∷ xs) given a = rw ((test x).1 a.0) (hold_given xs given a.1)

  before_hold : (bs : List A) (x : A) (cs : List A) (given : Result Date ℕ) → AllHold Alone bs → (Alone x → ⊥) → first_blamed position failing (bs ++ (x ∷ cs)) given ≡ Err (position x)
  unfolding first_blamed
  before_hold [] x cs given a n = rw (alone_fails x n)
  before_hold (b ∷ bs) x cs given a n = rw ((test b).1 a.0) (before_hold bs x cs given a.1 n)

  pub first_fails : (xs : List A) (p : ℕ) (given : Result Date ℕ) → FirstFails position Alone xs p → first_blamed position failing xs given ≡ Err p
  first_fails xs p given r = rw (r.order, r.blamed) (before_hold r.before r.field r.behind given r.hold r.failing)

  -- all hold, or one fails first
  abbrev pub Found : List A → Type 0
  Found xs = AllHold Alone xs ⊎ ((p : ℕ) × FirstFails position Alone xs p)

  found_more : (x : A) (xs : List A) (t : Bool) → failing x ≡ t → Found xs → Found (x ∷ xs)
  found_more x xs true e r =
      inr (position x, record { before = []; field = x; behind = xs; order = refl; hold = tt; failing = λ h. true≢false (sym e ∙ (test x).1 h); blamed = refl })
  found_more x xs false e (inl a) = inl ((test x).0 e, a)
  found_more x xs false e (inr r) =
      let q = r.1 in
      inr (
        r.0,
        record {
          before = x ∷ q.before;
          field = q.field;
          behind = q.behind;
          order = ap (λ l. x ∷ l) q.order;
          hold = ((test x).0 e, q.hold);
          failing = q.failing;
          blamed = q.blamed;
        },
      )

  pub found : (xs : List A) → Found xs
  found [] = inl tt
  found (x ∷ xs) = found_more x xs (failing x) refl (found xs)

-- ---- a position that is blamed is one of theirs

module _ {A : Type 0} (position : A → ℕ) (Alone : A → Type 0) where
  first_one : (bs : List A) (x : A) (cs : List A) → T (every (λ y. leb 1 (position y)) (bs ++ (x ∷ cs))) → 1 ≤ position x
  first_one [] x cs t = leb→le 1 (position x) (and_left (leb 1 (position x)) (every (λ y. leb 1 (position y)) cs) t)
  first_one (b ∷ bs) x cs t = first_one bs x cs (and_right (leb 1 (position b)) (every (λ y. leb 1 (position y)) (bs ++ (x ∷ cs))) t)

  -- so where all of them count from 1, it does
  pub blamed_one : (xs : List A) (p : ℕ) → T (every (λ y. leb 1 (position y)) xs) → FirstFails position Alone xs p → 1 ≤ p
  blamed_one xs p t r =
      rw r.blamed (first_one r.before r.field r.behind (subst (λ ys. T (every (λ y. leb 1 (position y)) ys)) r.order t))
