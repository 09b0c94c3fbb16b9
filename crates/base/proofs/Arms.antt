-- What an arm of a match knows of the number that is matched decides a test of it: the test is computed, for an arm's single numbers at each,
-- for a range that has single numbers of other arms in it at each of the others.
-- Assumes nothing.
use mathlib.Core.Path.{◌≡◌, sym, subst}
use mathlib.Core.Bool.{Bool, true, false, ◌||◌}
use mathlib.Core.List.{List, [], ◌∷◌}
use mathlib.Core.Logic.{⊎_elim}
use Prim.Native.Nat.{ℕ, ◌+◌, ◌<◌, ◌≤◌}
use lib.Dec.{T}
use types.Run.{OneOf, hit}
use mir.Val.{has_key}
use Rattle.base.specs.Every.{every, up_from}
use Rattle.base.proofs.Every.{every_between}
use Rattle.base.proofs.Choice.{and_left, and_right, or_elim}

-- n is a single number of one of the arms, and of none
abbrev pub any_has : List (List ℕ) → ℕ → Bool
any_has [] n = false
any_has (ks ∷ arms) n = has_key ks n || any_has arms n

abbrev pub None : List (List ℕ) → ℕ → Type 0
None [] n = Unit {0}
None (ks ∷ arms) n = None arms n × (OneOf ks n → ⊥)

none : (arms : List (List ℕ)) (n : ℕ) → None arms n → T (any_has arms n) → ⊥
none [] n o t = t
none (ks ∷ arms) n o t = ⊎_elim (λ h. o.1 (hit ks n h)) (λ r. none arms n o.0 r) (or_elim (has_key ks n) (any_has arms n) t)

module _ (test : ℕ → Bool) where
  -- the single numbers of an arm
  pub single : (ks : List ℕ) (n : ℕ) → T (every test ks) → OneOf ks n → T (test n)
  single [] n t h = absurd h
  single (k ∷ []) n t h = subst (λ (m : ℕ). T (test m)) (sym h) (and_left (test k) true t)
  single (k ∷ (j ∷ ks)) n t h =
      ⊎_elim
      (λ (e : n ≡ k). subst (λ (m : ℕ). T (test m)) (sym e) (and_left (test k) (every test (j ∷ ks)) t))
      (λ r. single (j ∷ ks) n (and_right (test k) (every test (j ∷ ks)) t) r)
      h

  module _ (arms : List (List ℕ)) where
    -- a number from lo on, below lo + k, that is no single number passes, where each of these is a single number or passes
    pub between : (lo k : ℕ) {n : ℕ} → T (every (λ m. test m || any_has arms m) (up_from lo k)) → lo ≤ n → n < lo + k → None arms n → T (test n)
    between lo k {n} t a b o =
        ⊎_elim (λ h. h) (λ h. absurd (none arms n o h)) (or_elim (test n) (any_has arms n) (every_between (λ m. test m || any_has arms m) lo k t n a b))
