-- Columns read byte by byte, over every list: what a byte's class says of it, two parts, and what each byte more keeps true.
-- Assumes nothing.
use mathlib.Core.Path.{◌≡◌, refl, ap, ◌∙◌}
use mathlib.Core.List.{List, [], ◌∷◌, ◌++◌, append_assoc, append-nil}
use Prim.Native.Nat.{ℕ, ◌+◌, ◌<◌}
use native.Mathlib.Omega.{arith}
use borrow.Author.Tests.{eqb-true, ltb-false, ne_eqb, le-ltb}
use lib.Dec.{ltb, eqb}
use Rattle.base.proofs.Choice.{cond_elim}
use Rattle.number.specs.declared.Byte.{Byte}
use Rattle.number.specs.declared.Byte.TheVariants.{Blank, Minus, Digit, Other}
use Rattle.number.specs.declared.Scan.{Scan}
use Rattle.number.specs.declared.Scan.TheVariants.{Broken}
use Rattle.number.specs.Scan.{class_of, step_of, scan_of, SmallDigit}

-- ---- a byte and its class

-- what a class says of its byte
abbrev pub Says : ℕ → Byte → Type 0
Says b Blank = b ≡ 32
Says b Minus = b ≡ 45
Says b (Digit d) = (b ≡ 48 + d) × (d < 10)
Says b Other = Unit {0}

pub class_says : (b : ℕ) → Says b (class_of b)
class_says b =
    cond_elim (Says b) (eqb b 32) (λ e. eqb-true b 32 e) λ _.
    cond_elim (Says b) (eqb b 45) (λ e. eqb-true b 45 e) λ _.
    cond_elim (Says b) (ltb b 48) (λ _. tt) λ e.
    cond_elim (Says b) (ltb 57 b) (λ _. tt) λ f.
    (omega (arith, ltb-false b 48 e), omega (arith, ltb-false b 48 e, ltb-false 57 b f))

small : (b : ℕ) (c : Byte) → Says b c → SmallDigit c
small b Blank s = tt
small b Minus s = tt
small b (Digit d) s = s.1
small b Other s = tt

pub class_small : (b : ℕ) → SmallDigit (class_of b)
class_small b = small b (class_of b) (class_says b)

pub digit_class : (d : ℕ) → d < 10 → class_of (48 + d) ≡ Digit d
digit_class d h =
    rw (ne_eqb (48 + d) 32 (λ e. omega arith), ne_eqb (48 + d) 45 (λ e. omega arith), le-ltb (48 + d) 48 (omega arith), le-ltb 57 (48 + d) (omega arith))
    (ap Digit (omega arith))

-- ---- parts

-- two parts, one after the other
pub scan_append : (xs ys : List ℕ) (st : Scan) → scan_of st (xs ++ ys) ≡ scan_of (scan_of st xs) ys
scan_append [] ys st = refl
scan_append (x ∷ xs) ys st = scan_append xs ys (step_of (class_of x) st)

-- what each byte more keeps true of the text so far and its state is true of the whole
pub scan_fold : (P : List ℕ → Scan → Type 0) → ((t : List ℕ) (st : Scan) (b : ℕ) → P t st → P (t ++ (b ∷ [])) (step_of (class_of b) st)) → (s t : List ℕ) (st : Scan) → P t st → P (t ++ s) (scan_of st s)
scan_fold P more [] t st p = rw append-nil p
scan_fold P more (b ∷ s) t st p =
    rw (← append_assoc t (b ∷ []) s) (scan_fold P more s (t ++ (b ∷ [])) (step_of (class_of b) st) (more t st b p))

-- a byte that broke the columns
broken_step : (c : Byte) → step_of c Broken ≡ Broken
broken_step Blank = refl
broken_step Minus = refl
broken_step (Digit d) = refl
broken_step Other = refl

pub scan_broken : (s : List ℕ) → scan_of Broken s ≡ Broken
scan_broken [] = refl
scan_broken (b ∷ s) = ap (λ t. scan_of t s) (broken_step (class_of b)) ∙ scan_broken s
