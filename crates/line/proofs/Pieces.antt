-- Lines in pieces: pieces of so many lines each, and pieces without a line feed.
-- Assumes nothing.
use mathlib.Core.Path.{◌≡◌}
use mathlib.Core.Bool.{not}
use mathlib.Core.List.{List, [], ◌∷◌, map}
use Prim.Native.Nat.{ℕ}
use borrow.Author.Tests.{eq-eqb}
use lib.Dec.{T, eqb}
use Rattle.base.specs.Every.{every}
use Rattle.base.specs.Pieces.{Each, none, more}
use Rattle.base.specs.Sum
use Rattle.base.specs.Sum.{sum}
use Rattle.base.proofs.Choice.{and_left, and_right}
use Rattle.line.specs.Lines.{Whole, Plain}
use Rattle.line.proofs.Feeds.{plain_nil, plain_cons, plain_append}
use Rattle.line.proofs.Whole.{whole_nil, whole_append}

module _ {A C : Type 0} {P : A → List ℕ → List C → Type 0} where
  -- pieces that are so many lines each are as many together
  pub each_whole : (many : A → ℕ) → ((a : A) (x : List ℕ) (c : List C) → P a x c → Whole (many a) x) → (bs : List A) (s : List ℕ) (cs : List C) → Each P bs s cs → Whole (sum (map many bs)) s
  unfolding Sum.sum
  each_whole many w [] [] [] none = whole_nil
  each_whole many w (a ∷ bs) s cs (more x c {y} {d} p h) = whole_append (w a x c p) (each_whole many w bs y d h)
  each_whole many w [] [] (_ ∷ _) x5 = elim x5 [ ]
  each_whole many w [] (_ ∷ _) cs x5 = elim x5 [ ]

  -- and pieces without a line feed have none together
  pub each_plain : ((a : A) (x : List ℕ) (c : List C) → P a x c → Plain x) → (bs : List A) (s : List ℕ) (cs : List C) → Each P bs s cs → Plain s
  each_plain w [] [] [] none = plain_nil
  each_plain w (a ∷ bs) s cs (more x c {y} {d} p h) = plain_append x y (w a x c p) (each_plain w bs y d h)
  each_plain w [] [] (_ ∷ _) x5 = elim x5 [ ]
  each_plain w [] (_ ∷ _) cs x5 = elim x5 [ ]

pub unbroken_plain : (s : List ℕ) → T (every (λ b. not (eqb b 10)) s) → Plain s
unbroken_plain [] t = plain_nil
unbroken_plain (x ∷ s) t =
    plain_cons x s (other (and_left (not (eqb x 10)) (every (λ b. not (eqb b 10)) s) t))
    (unbroken_plain s (and_right (not (eqb x 10)) (every (λ b. not (eqb b 10)) s) t))
  where
    other : T (not (eqb x 10)) → x ≡ 10 → ⊥
    other u e = rw (eq-eqb x 10 e) at u
