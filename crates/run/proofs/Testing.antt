-- R70, R72 and R74 by pairs of columns: what the tests of neighbours and of the last column say is what reading byte by byte says. Over every
-- width.
-- Assumes nothing.
use mathlib.Core.Path.{◌≡◌, refl, sym, ap, ◌∙◌, subst}
use mathlib.Core.Bool.{Bool, true, false, ◌&&◌, ◌||◌}
use mathlib.Core.List.{List, [], ◌∷◌}
use Prim.Native.Nat.{ℕ, suc, ◌+◌, ◌*◌, ◌-◌}
use native.Mathlib.Omega.{arith}
use borrow.Author.Tests.{eqb-true, ltb-true, ltb-false, lt-leb, le-leb}
use lib.Dec.{eqb, ltb, leb}
use lib.ListN.{length}
use Rattle.base.specs.Every.{every}
use Rattle.base.proofs.Choice.{and_false}
use Rattle.number.specs.declared.Scan.{Scan}
use Rattle.number.specs.declared.Scan.TheVariants.{Blanks, Signed, Digits, Broken}
use Rattle.number.specs.Scan.{class_of, step_of, scan_of}
use Rattle.number.proofs.Scanning.{scan_broken}
use Rattle.run.proofs.Loops.{and_assoc, and_true}
use Rattle.run.specs.Columns.{is_figure, goes_on, pairs, last_column}

-- ---- what a byte does to a state, and its tests

abbrev pub blank_step : Scan → Scan
blank_step Blanks = Blanks
blank_step Signed = Broken
blank_step (Digits g n) = Broken
blank_step Broken = Broken

abbrev pub minus_step : Scan → Scan
minus_step Blanks = Signed
minus_step Signed = Broken
minus_step (Digits g n) = Broken
minus_step Broken = Broken

abbrev pub digit_step : ℕ → Scan → Scan
digit_step d Blanks = Digits false d
digit_step d Signed = Digits true d
digit_step d (Digits g n) = Digits g (n * 10 + d)
digit_step d Broken = Broken

pub record Steps (b : ℕ) (next : Scan → Scan) (blank minus digit : Bool) : Type 0 where
  pub step : (st : Scan) → step_of (class_of b) st ≡ next st
  pub blank_is : eqb b 32 ≡ blank
  pub minus_is : eqb b 45 ≡ minus
  pub digit_is : is_figure b ≡ digit

pub data Column (b : ℕ) : Type 0 where
  blank : Steps b blank_step true false false → Column b
  minus : Steps b minus_step false true false → Column b
  digit : (d : ℕ) → Steps b (digit_step d) false false true → Column b
  other : Steps b (λ st. Broken) false false false → Column b

blank_steps : (b : ℕ) → b ≡ 32 → Steps b blank_step true false false
blank_steps b e = subst (λ b. Steps b blank_step true false false) (sym e) record { step = step; blank_is = refl; minus_is = refl; digit_is = refl }
  where
    step : (st : Scan) → step_of (class_of 32) st ≡ blank_step st
    step Blanks = refl
    step Signed = refl
    step (Digits g n) = refl
    step Broken = refl

minus_steps : (b : ℕ) → b ≡ 45 → Steps b minus_step false true false
minus_steps b e = subst (λ b. Steps b minus_step false true false) (sym e) record { step = step; blank_is = refl; minus_is = refl; digit_is = refl }
  where
    step : (st : Scan) → step_of (class_of 45) st ≡ minus_step st
    step Blanks = refl
    step Signed = refl
    step (Digits g n) = refl
    step Broken = refl

pub column_of : (b : ℕ) → Column b
column_of b = by_blank (eqb b 32) refl
  where
    digit_by : eqb b 32 ≡ false → eqb b 45 ≡ false → ltb b 48 ≡ false → ltb 57 b ≡ false → (st : Scan) → step_of (class_of b) st ≡ digit_step (b - 48) st
    digit_by e f g h Blanks = rw (e, f, g, h)
    digit_by e f g h Signed = rw (e, f, g, h)
    digit_by e f g h (Digits m n) = rw (e, f, g, h)
    digit_by e f g h Broken = rw (e, f, g, h)

    by_high : (t : Bool) → eqb b 32 ≡ false → eqb b 45 ≡ false → ltb b 48 ≡ false → ltb 57 b ≡ t → Column b
    by_high true e f g h = other record { step = λ st. rw (e, f, g, h); blank_is = e; minus_is = f; digit_is = rw (lt-leb b 57 (ltb-true 57 b h)) (and_false (leb 48 b)) }
    by_high false e f g h =
        digit (b - 48) record { step = digit_by e f g h; blank_is = e; minus_is = f; digit_is = rw (le-leb 48 b (ltb-false b 48 g), le-leb b 57 (ltb-false 57 b h)) }

    by_low : (t : Bool) → eqb b 32 ≡ false → eqb b 45 ≡ false → ltb b 48 ≡ t → Column b
    by_low true e f g = other record { step = λ st. rw (e, f, g); blank_is = e; minus_is = f; digit_is = rw (lt-leb 48 b (ltb-true b 48 g)) }
    by_low false e f g = by_high (ltb 57 b) e f g refl

    by_minus : (t : Bool) → eqb b 32 ≡ false → eqb b 45 ≡ t → Column b
    by_minus true e f = minus (minus_steps b (eqb-true b 45 f))
    by_minus false e f = by_low (ltb b 48) e f refl

    by_blank : (t : Bool) → eqb b 32 ≡ t → Column b
    by_blank true e = blank (blank_steps b (eqb-true b 32 e))
    by_blank false e = by_minus (eqb b 45) e refl

-- ---- digits behind digits

-- what is asked of a state in the end: digits pass, broken columns don't
pub record Asks (ask : Scan → Bool) : Type 0 where
  pub digits : (g : Bool) (n : ℕ) → ask (Digits g n) ≡ true
  pub broken : ask Broken ≡ false

module _ (ask : Scan → Bool) (q : Asks ask) where
  pub broken_fails : (s : List ℕ) → ask (scan_of Broken s) ≡ false
  broken_fails s = ap ask (scan_broken s) ∙ q.broken

  -- a byte that breaks the columns, where a digit is due
  fails : (b : ℕ) (st : Scan) (s : List ℕ) (more : Bool) → step_of (class_of b) st ≡ Broken → is_figure b ≡ false → ask (scan_of (step_of (class_of b) st) s) ≡ (is_figure b && more)
  fails b st s more e f = ap (λ st. ask (scan_of st s)) e ∙ broken_fails s ∙ sym (rw f)

  pub digits_ask : (g : Bool) (n : ℕ) (s : List ℕ) → ask (scan_of (Digits g n) s) ≡ every is_figure s
  digits_ask g n [] = q.digits g n
  digits_ask g n (b ∷ s) = by (column_of b) (λ d. digits_ask g (n * 10 + d) s)
    where
      by : Column b → ((d : ℕ) → ask (scan_of (Digits g (n * 10 + d)) s) ≡ every is_figure s) → ask (scan_of (step_of (class_of b) (Digits g n)) s) ≡ (is_figure b && every is_figure s)
      by (blank t) more = fails b (Digits g n) s (every is_figure s) (t.step (Digits g n)) t.digit_is
      by (minus t) more = fails b (Digits g n) s (every is_figure s) (t.step (Digits g n)) t.digit_is
      by (digit d t) more = ap (λ st. ask (scan_of st s)) (t.step (Digits g n)) ∙ more d ∙ sym (rw t.digit_is)
      by (other t) more = fails b (Digits g n) s (every is_figure s) (t.step (Digits g n)) t.digit_is

-- ---- columns from the first on

last_more : (x y : ℕ) (s : List ℕ) → last_column (x ∷ y ∷ s) ≡ last_column (y ∷ s)
last_more x y s =
    let e : suc (suc (length s)) - 1 ≡ suc (length s) = omega arith in
    let f : suc (length s) - 1 ≡ length s = omega arith in
    rw (e, f)

goes_digit : (x y : ℕ) → eqb x 32 ≡ false → (eqb x 45 || is_figure x) ≡ true → goes_on x y ≡ is_figure y
goes_digit x y e f = rw (e, f) (and_true (is_figure y))

-- what is asked of one column, of which digits pass
pub record Ends (ask : Scan → Bool) (end : ℕ → Bool) : Type 0 where
  pub asks : Asks ask
  pub one : (b : ℕ) → ask (step_of (class_of b) Blanks) ≡ end b
  pub digit_ends : (b : ℕ) → is_figure b ≡ true → end b ≡ true

module _ (ask : Scan → Bool) (end : ℕ → Bool) (q : Ends ask end) where
  abbrev pub row : List ℕ → Bool
  row s = pairs s && end (last_column s)

  -- behind a column that digits must follow
  followed : (x y : ℕ) (s : List ℕ) → goes_on x y ≡ is_figure y → row (x ∷ y ∷ s) ≡ (is_figure y && row (y ∷ s))
  unfolding pairs
  followed x y s e = rw (e, last_more x y s) (and_assoc (is_figure y) (pairs (y ∷ s)) (end (last_column (y ∷ s))))

  row_digits : (d x : ℕ) (s : List ℕ) → Steps x (digit_step d) false false true → row (x ∷ s) ≡ every is_figure s
  unfolding pairs
  row_digits d x [] t = q.digit_ends x t.digit_is
  row_digits d x (y ∷ s) t = followed x y s (goes_digit x y t.blank_is (rw (t.minus_is, t.digit_is))) ∙ by (column_of y) (λ e u. row_digits e y s u)
    where
      by : Column y → ((e : ℕ) → Steps y (digit_step e) false false true → row (y ∷ s) ≡ every is_figure s) → (is_figure y && row (y ∷ s)) ≡ (is_figure y && every is_figure s)
      by (blank u) more = rw u.digit_is
      by (minus u) more = rw u.digit_is
      by (digit e u) more = ap (λ r. is_figure y && r) (more e u)
      by (other u) more = rw u.digit_is

  -- a state behind which only digits may follow
  record Due (st : Scan) : Type 0 where
    no_blank : blank_step st ≡ Broken
    no_minus : minus_step st ≡ Broken
    then : (d : ℕ) (s : List ℕ) → ask (scan_of (digit_step d st) s) ≡ every is_figure s

  due_row : (st : Scan) (y : ℕ) (s : List ℕ) → Due st → ask (scan_of st (y ∷ s)) ≡ (is_figure y && row (y ∷ s))
  due_row st y s h = by (column_of y)
    where
      by : Column y → ask (scan_of (step_of (class_of y) st) s) ≡ (is_figure y && row (y ∷ s))
      by (blank t) = fails ask q.asks y st s (row (y ∷ s)) (t.step st ∙ h.no_blank) t.digit_is
      by (minus t) = fails ask q.asks y st s (row (y ∷ s)) (t.step st ∙ h.no_minus) t.digit_is
      by (digit d t) = ap (λ u. ask (scan_of u s)) (t.step st) ∙ h.then d s ∙ sym (rw t.digit_is (row_digits d y s t))
      by (other t) = fails ask q.asks y st s (row (y ∷ s)) (t.step st) t.digit_is

  -- blanks, a minus or none, and digits, as the end asks, are columns of which each goes on to the next
  pub row_ask : (x : ℕ) (s : List ℕ) → ask (scan_of Blanks (x ∷ s)) ≡ row (x ∷ s)
  unfolding pairs
  row_ask x [] = q.one x
  row_ask x (y ∷ s) = by (column_of x) (row_ask y s)
    where
      by : Column x → ask (scan_of Blanks (y ∷ s)) ≡ row (y ∷ s) → ask (scan_of (step_of (class_of x) Blanks) (y ∷ s)) ≡ row (x ∷ y ∷ s)
      by (blank t) more = ap (λ st. ask (scan_of st (y ∷ s))) (t.step Blanks) ∙ more ∙ sym (rw (t.blank_is, last_more x y s))
      by (minus t) more =
          ap (λ st. ask (scan_of st (y ∷ s))) (t.step Blanks)
          ∙ due_row Signed y s record { no_blank = refl; no_minus = refl; then = λ d s. digits_ask ask q.asks true d s }
          ∙ sym (followed x y s (goes_digit x y t.blank_is (rw t.minus_is)))
      by (digit d t) more =
          ap (λ st. ask (scan_of st (y ∷ s))) (t.step Blanks)
          ∙ due_row (Digits false d) y s record { no_blank = refl; no_minus = refl; then = λ e s. digits_ask ask q.asks false (d * 10 + e) s }
          ∙ sym (followed x y s (goes_digit x y t.blank_is (rw (t.minus_is, t.digit_is))))
      by (other t) more =
          ap (λ st. ask (scan_of st (y ∷ s))) (t.step Blanks) ∙ broken_fails ask q.asks (y ∷ s)
          ∙ sym (rw (t.blank_is, t.minus_is, t.digit_is, and_false (is_figure y)))
