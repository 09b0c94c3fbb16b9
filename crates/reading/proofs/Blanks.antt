-- Filling with blanks: what is long enough stays, a beginning and a rest of what is filled; and when a line's content is right, test by
-- test and in plain words.
-- Assumes nothing.
use mathlib.Core.Path.{◌≡◌, refl, sym, ◌∙◌, ap}
use mathlib.Core.Bool.{Bool, true, false, ◌&&◌}
use mathlib.Core.List.{List, [], ◌∷◌, append-nil}
use mathlib.Core.Logic.{◌↔◌, ◌⊎◌}
use Prim.Native.Nat.{ℕ, zero, suc, ◌+◌, ◌-◌, ◌<◌, ◌≤◌}
use native.Mathlib.Omega.{arith}
use native.Mathlib.Nat.{sub-zero}
use borrow.Author.Tests.{le-leb, lt-leb, eq-eqb, leb-true}
use lib.Dec.{T, leb, eqb→eq}
use lib.ListN.{length, take, drop, get_or, replicate, length-append, length-drop, length-replicate, drop_of_length-le}
use lib.Seq.{take_all, get_or-drop}
use Rattle.base.specs.Ascii.{printable}
use Rattle.base.specs.Every.{every}
use Rattle.base.specs.Part.{part}
use Rattle.base.proofs.Taken.{drop_none, take_none}
use Rattle.base.proofs.Choice.{cond_elim, and_first, and_second, true_T, T_true}
use Rattle.base.proofs.Every.{every_at, at_every}
use Rattle.form.specs.declared.Form.{Form}
use Rattle.form.specs.declared.Form.TheVariants.{A120, A1}
use Rattle.form.specs.Table.{row_of}
use Rattle.field.specs.Read.{field_of, formed}
use Rattle.reading.specs.Blanks.{blank, MayBeShort, may_be_short, shortest, filled_to, is_right, as_field}
use Rattle.reading.specs.Values.{RightContent}
use Rattle.reading.proofs.Letters.{letters_formed, short_exactly, not_short}

-- ---- filling

pub filled_enough : (n : ℕ) (s : List ℕ) → n ≤ length s → filled_to n s ≡ s
unfolding filled_to
filled_enough n s h =
    let e : n - length s ≡ 0 = omega arith in
    rw e (append-nil s)

pub filled_length : (n : ℕ) (s : List ℕ) → length s ≤ n → length (filled_to n s) ≡ n
unfolding filled_to
filled_length n s h = length-append s (replicate (n - length s) 32) ∙ rw (length-replicate {A = ℕ} (n - length s) 32) (omega arith)

-- a byte more in front
filled_cons : (n x : ℕ) (s : List ℕ) → filled_to n (x ∷ s) ≡ x ∷ filled_to (n - 1) s
unfolding filled_to
filled_cons n x s =
    let e : n - suc (length s) ≡ n - 1 - length s = omega arith in
    rw e

pub filled_nil : (n : ℕ) → filled_to n [] ≡ replicate n 32
unfolding filled_to
filled_nil n = rw (sub-zero n)

drop_blanks : (d n : ℕ) → drop {A = ℕ} d (replicate n 32) ≡ replicate (n - d) 32
drop_blanks zero n = drop_none (replicate n 32) ∙ rw (sub-zero n)
drop_blanks (suc d) zero = let e : 0 - suc d ≡ 0 = omega arith in rw e
drop_blanks (suc d) (suc n) = let e : suc n - suc d ≡ n - d = omega arith in rw e (drop_blanks d n)

pub take_blanks : (w n : ℕ) → w ≤ n → take {A = ℕ} w (replicate n 32) ≡ replicate w 32
take_blanks zero zero h = refl
take_blanks zero (suc n) h = refl
take_blanks (suc w) zero h = absurd (omega arith)
take_blanks (suc w) (suc n) h = ap (λ l. 32 ∷ l) (take_blanks w n (omega arith))

pub filled_drop : (n d : ℕ) (s : List ℕ) → drop d (filled_to n s) ≡ filled_to (n - d) (drop d s)
filled_drop n zero [] = rw (filled_nil n, sub-zero n) (drop_blanks 0 n ∙ rw (sub-zero n) (sym (filled_nil n)))
filled_drop n zero (x ∷ s) = rw (filled_cons n x s, sub-zero n) (sym (filled_cons n x s))
filled_drop n (suc d) [] = rw (filled_nil n, filled_nil (n - suc d)) (drop_blanks (suc d) n)
filled_drop n (suc d) (x ∷ s) =
    let e : n - 1 - d ≡ n - suc d = omega arith in
    rw (filled_cons n x s) (filled_drop (n - 1) d s ∙ rw e)

pub filled_take : (w n : ℕ) (s : List ℕ) → w ≤ n → take w (filled_to n s) ≡ filled_to w (take w s)
filled_take zero n s h = take_none (filled_to n s) ∙ sym (ap (filled_to 0) (take_none s) ∙ filled_nil 0)
filled_take (suc w) n [] h = rw (filled_nil n) (take_blanks (suc w) n h ∙ sym (filled_nil (suc w)))
filled_take (suc w) n (x ∷ s) h =
    let e : suc w - 1 ≡ w = omega arith in
    rw (filled_cons n x s, filled_cons (suc w) x (take w s), e) (ap (λ l. x ∷ l) (filled_take w (n - 1) s (omega arith)))

-- blanks print
pub filled_printable : (n : ℕ) (s : List ℕ) → every printable (filled_to n s) ≡ every printable s
filled_printable n [] = rw (filled_nil n) (blanks n)
  where
    blanks : (n : ℕ) → every printable (replicate n 32) ≡ true
    blanks zero = refl
    blanks (suc n) = blanks n
filled_printable n (x ∷ s) = rw (filled_cons n x s) (ap (λ b. printable x && b) (filled_printable (n - 1) s))

-- a byte of what is filled
pub filled_get_d : (n : ℕ) (s : List ℕ) (i : ℕ) → get_or (filled_to n s) i 32 ≡ get_or s i 32
filled_get_d n [] i = rw (filled_nil n) (blanks n i)
  where
    blanks : (n i : ℕ) → get_or {A = ℕ} (replicate n 32) i 32 ≡ 32
    blanks zero i = refl
    blanks (suc n) zero = refl
    blanks (suc n) (suc i) = blanks n i
filled_get_d n (x ∷ s) zero = rw (filled_cons n x s)
filled_get_d n (x ∷ s) (suc i) = rw (filled_cons n x s) (filled_get_d (n - 1) s i)

-- ---- the least length

pub shortest_most : (short : Bool) (columns : ℕ) → shortest short columns ≤ columns
shortest_most short columns = cond_elim (λ n. n ≤ columns) short (λ e. omega arith) (λ e. omega arith)

-- ---- a field, filled

-- of letters, blanks that are added print too
pub short_field : (f : Form) (s : List ℕ) → (f ≡ A120) ⊎ (f ≡ A1) → length s ≤ (row_of f).width → every printable s ≡ formed (field_of f (as_field f true s))
short_field f s h w =
    sym (filled_printable (row_of f).width s) ∙ letters_formed f (filled_to (row_of f).width s) h (filled_length (row_of f).width s w)

-- what may be lent as a field: the whole width, or less where lines may be short
pub record Fits (f : Form) (short : Bool) (n : ℕ) : Type 0 where
  pub low : shortest short (row_of f).width ≤ n
  pub high : n ≤ (row_of f).width

-- where lines may not be short, nothing is filled
pub full_field : (f : Form) (s : List ℕ) → Fits f false (length s) → filled_to (row_of f).width s ≡ s
full_field f s h = filled_enough (row_of f).width s h.low

pub as_filled : (f : Form) (short : Bool) (s : List ℕ) → Fits f short (length s) → as_field f short s ≡ filled_to (row_of f).width s
as_filled f true s h = refl
as_filled f false s h = sym (full_field f s h)

-- ---- a content that is right

module _ (short : Bool) (columns : ℕ) (s : List ℕ) where
  pub right_short : length s < shortest short columns → is_right short columns s ≡ false
  unfolding is_right
  right_short h = rw (lt-leb (shortest short columns) (length s) h)

  module _ (a : shortest short columns ≤ length s) where
    pub right_long : 120 < length s → is_right short columns s ≡ false
    unfolding is_right
    right_long h = rw (le-leb (shortest short columns) (length s) a, lt-leb (length s) 120 h)

    pub right_rest : length s ≤ 120 → is_right short columns s ≡ every blank (drop columns s)
    unfolding is_right
    right_rest h = rw (le-leb (shortest short columns) (length s) a, le-leb (length s) 120 h)

    pub right_exact : length s ≤ 120 → length s ≤ columns → is_right short columns s ≡ true
    right_exact h k = right_rest h ∙ rw (drop_of_length-le s k)

    pub right_blanks : length s ≤ 120 → is_right short columns s ≡ every blank (part columns (length s) s)
    right_blanks h = right_rest h ∙ rw (take_all (length s - columns) (drop columns s) (omega (arith, length-drop columns s)))

  -- what it says
  pub right_low : is_right short columns s ≡ true → shortest short columns ≤ length s
  unfolding is_right
  right_low e = leb-true (shortest short columns) (length s) (and_first (leb (shortest short columns) (length s)) (leb (length s) 120 && every blank (drop columns s)) e)

  pub right_high : is_right short columns s ≡ true → length s ≤ 120
  unfolding is_right
  right_high e =
      let rest = and_second (leb (shortest short columns) (length s)) (leb (length s) 120 && every blank (drop columns s)) e in
      leb-true (length s) 120 (and_first (leb (length s) 120) (every blank (drop columns s)) rest)

  right_after : is_right short columns s ≡ true → T (every blank (drop columns s))
  right_after e = true_T (every blank (drop columns s)) (sym (right_rest (right_low e) (right_high e)) ∙ e)

-- in plain words, both ways, of the lines of a group
module _ (g columns : ℕ) (s : List ℕ) where
  abbrev short : Bool
  short = may_be_short g

  pub right_plain : is_right (may_be_short g) columns s ≡ true ↔ RightContent g columns s
  right_plain = (λ e. record { least = long e; most = right_high short columns s e; blanks = there e }, back)
    where
      long : is_right short columns s ≡ true → (MayBeShort g → ⊥) → columns ≤ length s
      long e n = rw (not_short g n) at (right_low short columns s e)

      there : is_right short columns s ≡ true → (i : ℕ) → columns ≤ i → i < length s → get_or s i 0 ≡ 32
      there e i a b =
          let n : columns + (i - columns) ≡ i = omega arith in
          let t = every_at blank 0 (drop columns s) (right_after short columns s e) (i - columns) (omega (arith, length-drop columns s)) in
          ap (λ k. get_or s k 0) (sym n) ∙ sym (get_or-drop columns s (i - columns) 0) ∙ eqb→eq (get_or (drop columns s) (i - columns) 0) 32 t

      enough : RightContent g columns s → shortest short columns ≤ length s
      enough r = cond_elim (λ n. n ≤ length s) short (λ e. omega arith) (λ e. r.least (λ m. rw e at ((short_exactly g).1 m)))

      back : RightContent g columns s → is_right short columns s ≡ true
      back r =
          right_rest short columns s (enough r) r.most
          ∙ T_true (every blank (drop columns s)) (at_every blank 0 (drop columns s) (λ k h.
          let e : get_or (drop columns s) k 0 ≡ 32 = get_or-drop columns s k 0 ∙ r.blanks (columns + k) (omega arith) (omega (arith, length-drop columns s)) in
          true_T (blank (get_or (drop columns s) k 0)) (eq-eqb (get_or (drop columns s) k 0) 32 e)))
