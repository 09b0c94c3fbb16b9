-- R75, R76: what stands before E's point, by pairs of columns. Over every number of columns.
-- Assumes nothing.
use mathlib.Core.Path.{◌≡◌, refl, sym, ap, ◌∙◌, subst}
use mathlib.Core.Bool.{Bool, true, false, cond, ◌&&◌, ◌||◌}
use mathlib.Core.List.{List, [], ◌∷◌, ◌++◌}
use Prim.Native.Nat.{ℕ}
use native.Mathlib.Omega.{arith}
use borrow.Author.Tests.{eqb-true, leb-true, lt-leb}
use lib.Dec.{eqb, leb}
use lib.ListN.{get_or}
use Rattle.base.specs.Every.{every}
use Rattle.base.proofs.Choice.{cond_elim, and_false, and_first}
use Rattle.number.specs.declared.Scan.{Scan}
use Rattle.number.specs.declared.Scan.TheVariants.{Blanks, Signed, Digits, Broken}
use Rattle.number.specs.Read.{one_of, point_of, lead_of, sign_of}
use Rattle.number.specs.Scan.{class_of, step_of, scan_of}
use Rattle.field.specs.Read.{value_of, formed}
use Rattle.run.specs.Columns.{between, is_figure, goes_on, pairs, is_lead}
use Rattle.run.proofs.Loops.{and_true}
use Rattle.run.proofs.Testing.{Column, blank, minus, digit, other, column_of, digits_ask, broken_fails}

-- columns that end in a number
abbrev pub good : Scan → Bool
good st = formed (value_of (one_of st))

-- ---- states behind which only digits may follow

abbrev pub Settled : Scan → Type 0
Settled Blanks = ⊥
Settled Signed = ⊥
Settled (Digits g n) = Unit {0}
Settled Broken = Unit {0}

pub point_settled : (st : Scan) → Settled (point_of st)
point_settled Blanks = tt
point_settled Signed = tt
point_settled (Digits g n) = tt
point_settled Broken = tt

pub sign_settled : (b : ℕ) → Settled (sign_of b)
sign_settled b = cond_elim Settled (eqb b 43) (λ _. tt) λ _. cond_elim Settled (eqb b 45) (λ _. tt) λ _. tt

pub lead_settled : (st : Scan) (b : ℕ) → Settled (lead_of st b)
lead_settled Blanks b =
    cond_elim Settled (eqb b 48) (λ _. tt) λ _.
    cond_elim Settled (eqb b 32) (λ _. tt) λ _.
    cond_elim Settled (eqb b 45) (λ _. tt) λ _. tt
lead_settled Signed b = cond_elim Settled (eqb b 48) (λ _. tt) λ _. tt
lead_settled (Digits g n) b = tt
lead_settled Broken b = tt

-- digits behind such a state
pub settled_good : (st : Scan) → Settled st → (s : List ℕ) → good (scan_of st s) ≡ (good st && every is_figure s)
settled_good Blanks h s = absurd h
settled_good Signed h s = absurd h
settled_good (Digits g n) h s = digits_ask good record { digits = λ g n. refl; broken = refl } g n s
settled_good Broken h s = broken_fails good record { digits = λ g n. refl; broken = refl } s

settled_step : (b : ℕ) (st : Scan) → Settled st → Settled (step_of (class_of b) st)
settled_step b st h = by (column_of b) st h
  where
    by : Column b → (st : Scan) → Settled st → Settled (step_of (class_of b) st)
    by col Blanks h = absurd h
    by col Signed h = absurd h
    by (blank t) (Digits g n) h = subst Settled (sym (t.step (Digits g n))) tt
    by (minus t) (Digits g n) h = subst Settled (sym (t.step (Digits g n))) tt
    by (digit d t) (Digits g n) h = subst Settled (sym (t.step (Digits g n))) tt
    by (other t) (Digits g n) h = subst Settled (sym (t.step (Digits g n))) tt
    by (blank t) Broken h = subst Settled (sym (t.step Broken)) tt
    by (minus t) Broken h = subst Settled (sym (t.step Broken)) tt
    by (digit d t) Broken h = subst Settled (sym (t.step Broken)) tt
    by (other t) Broken h = subst Settled (sym (t.step Broken)) tt

signed_step : (b : ℕ) → Settled (step_of (class_of b) Signed)
signed_step b = by (column_of b)
  where
    by : Column b → Settled (step_of (class_of b) Signed)
    by (blank t) = subst Settled (sym (t.step Signed)) tt
    by (minus t) = subst Settled (sym (t.step Signed)) tt
    by (digit d t) = subst Settled (sym (t.step Signed)) tt
    by (other t) = subst Settled (sym (t.step Signed)) tt

-- no lead stands behind it
settled_lead : (st : Scan) → Settled st → (s : List ℕ) (b : ℕ) → good (lead_of (scan_of st s) b) ≡ false
settled_lead Blanks h [] b = absurd h
settled_lead Signed h [] b = absurd h
settled_lead (Digits g n) h [] b = refl
settled_lead Broken h [] b = refl
settled_lead st h (y ∷ s) b = settled_lead (step_of (class_of y) st) (settled_step y st h) s b

-- ---- the columns before E's point: r, and b in the last of them

abbrev pub low : ℕ → Bool
low = between 32 45

low_blank : (x : ℕ) → eqb x 32 ≡ true → low x ≡ true
low_blank x e = rw (eqb-true x 32 e)

low_minus : (x : ℕ) → eqb x 45 ≡ true → low x ≡ true
low_minus x e = rw (eqb-true x 45 e)

digit_high : (x : ℕ) → is_figure x ≡ true → low x ≡ false
digit_high x e = let h = leb-true 48 x (and_first (leb 48 x) (leb x 57) e) in rw (lt-leb x 45 (omega arith)) (and_false (leb 32 x))

lead_by : (x y z : Bool) → good (cond x (Digits false 0) (cond y (Digits false 0) (cond z (Digits true 0) Broken))) ≡ (x || (y || z))
lead_by true y z = refl
lead_by false true z = refl
lead_by false false true = refl
lead_by false false false = refl

nought_by : (x : Bool) → good (cond x (Digits true 0) Broken) ≡ x
nought_by true = refl
nought_by false = refl

digit_lead : (b : ℕ) → (is_figure b && is_lead b) ≡ eqb b 48
digit_lead b = by (eqb b 48) refl (column_of b)
  where
    by : (t : Bool) → eqb b 48 ≡ t → Column b → (is_figure b && is_lead b) ≡ eqb b 48
    by true e col = rw (eqb-true b 48 e)
    by false e (blank t) = rw (e, t.digit_is)
    by false e (minus t) = rw (e, t.digit_is)
    by false e (digit d t) = rw (e, t.digit_is, t.blank_is, t.minus_is)
    by false e (other t) = rw (e, t.digit_is)

abbrev pub leads : List ℕ → ℕ → Bool
leads r b = pairs (r ++ (b ∷ [])) && (is_lead b && every low r)

pairs_first : (x : ℕ) (r : List ℕ) (b : ℕ) → pairs (x ∷ (r ++ (b ∷ []))) ≡ (goes_on x (get_or (r ++ (b ∷ [])) 0 0) && pairs (r ++ (b ∷ [])))
unfolding pairs
pairs_first x [] b = refl
pairs_first x (y ∷ r) b = refl

-- a minus, and what may follow it
minus_leads : (r : List ℕ) (b : ℕ) → good (lead_of (scan_of Signed r) b) ≡ ((is_figure (get_or (r ++ (b ∷ [])) 0 0) && pairs (r ++ (b ∷ []))) && (is_lead b && every low r))
unfolding pairs
minus_leads [] b = nought_by (eqb b 48) ∙ sym (digit_lead b) ∙ sym (rw (and_true (is_figure b), and_true (is_lead b)))
minus_leads (y ∷ r) b = settled_lead (step_of (class_of y) Signed) (signed_step y) r b ∙ by (column_of y)
  where
    by : Column y → false ≡ ((is_figure y && pairs (y ∷ (r ++ (b ∷ [])))) && (is_lead b && (low y && every low r)))
    by (blank t) = rw t.digit_is
    by (minus t) = rw t.digit_is
    by (digit d t) = rw (digit_high y t.digit_is, and_false (is_lead b)) (sym (and_false (is_figure y && pairs (y ∷ (r ++ (b ∷ []))))))
    by (other t) = rw t.digit_is

pub lead_good : (r : List ℕ) (b : ℕ) → good (lead_of (scan_of Blanks r) b) ≡ leads r b
unfolding pairs
lead_good [] b = lead_by (eqb b 48) (eqb b 32) (eqb b 45) ∙ sym (and_true (is_lead b))
lead_good (x ∷ r) b = by (column_of x) (lead_good r b)
  where
    by : Column x → good (lead_of (scan_of Blanks r) b) ≡ leads r b → good (lead_of (scan_of (step_of (class_of x) Blanks) r) b) ≡ (pairs (x ∷ (r ++ (b ∷ []))) && (is_lead b && (low x && every low r)))
    by (blank t) more =
        ap (λ st. good (lead_of (scan_of st r) b)) (t.step Blanks) ∙ more
        ∙ sym (rw (pairs_first x r b, t.blank_is, low_blank x t.blank_is))
    by (minus t) more =
        ap (λ st. good (lead_of (scan_of st r) b)) (t.step Blanks) ∙ minus_leads r b
        ∙ sym (rw (pairs_first x r b, t.blank_is, low_minus x t.minus_is, t.minus_is, and_true (is_figure (get_or (r ++ (b ∷ [])) 0 0))))
    by (digit d t) more =
        ap (λ st. good (lead_of (scan_of st r) b)) (t.step Blanks) ∙ settled_lead (Digits false d) tt r b
        ∙ sym (rw (digit_high x t.digit_is, and_false (is_lead b)) (and_false (pairs (x ∷ (r ++ (b ∷ []))))))
    by (other t) more =
        ap (λ st. good (lead_of (scan_of st r) b)) (t.step Blanks) ∙ settled_lead Broken tt r b
        ∙ sym (rw (pairs_first x r b, t.blank_is, t.minus_is, t.digit_is, and_false (is_figure (get_or (r ++ (b ∷ [])) 0 0))))
