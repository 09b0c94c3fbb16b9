-- I, F and E fields: what reads as a number is exactly what R70, R72 and R74 say, with that value.
-- Assumes nothing.
use mathlib.Core.Path.{◌≡◌, refl, sym, ap, ap₂, ◌∙◌}
use mathlib.Core.Bool.{Bool, true, false}
use mathlib.Core.List.{List, [], ◌∷◌, ◌++◌, append_assoc, append-nil}
use Prim.Native.Nat.{ℕ, zero, suc, ◌+◌, ◌*◌, ◌<◌}
use native.Mathlib.Omega.{arith}
use lib.IntN.{ℤ}
use lib.ListN.{length, replicate, length-append}
use Rattle.base.specs.Sign.{of_sign}
use Rattle.base.specs.Digits.{AllDigits, number_from, number_of, digit_text}
use Rattle.base.proofs.Digits.{digits_append, number_append, text_append}
use Rattle.number.specs.declared.Byte.{Byte}
use Rattle.number.specs.declared.Byte.TheVariants.{Blank, Minus, Digit, Other}
use Rattle.number.specs.declared.Scan.{Scan}
use Rattle.number.specs.declared.Scan.TheVariants.{Blanks, Signed, Digits, Broken}
use Rattle.number.specs.declared.Number.TheVariants.{One}
use Rattle.number.specs.Scan.{class_of, step_of, scan_of}
use Rattle.number.specs.Read.{one_of, read_i, point_of}
use Rattle.number.specs.Write.{begun}
use Rattle.number.specs.Grammar.{IsI, minus_of}
use Rattle.number.proofs.Scanning.{Says, class_says, digit_class, scan_append, scan_fold}

-- ---- what the rules say is read

pub digits_read : (g : Bool) (m : ℕ) (ds : List ℕ) → AllDigits ds → scan_of (Digits g m) (digit_text ds) ≡ Digits g (number_from m ds)
digits_read g m [] a = refl
digits_read g m (d ∷ ds) a =
    ap (λ c. scan_of (step_of c (Digits g m)) (digit_text ds)) (digit_class d a.0)
    ∙ digits_read g (m * 10 + d) ds a.1

pub blanks_read : (k : ℕ) → scan_of Blanks (replicate k 32) ≡ Blanks
blanks_read zero = refl
blanks_read (suc k) = blanks_read k

minus_read : (g : Bool) → scan_of Blanks (minus_of g) ≡ begun g
minus_read true = refl
minus_read false = refl

begin_read : (k : ℕ) (g : Bool) (t : List ℕ) → scan_of Blanks (replicate k 32 ++ (minus_of g ++ t)) ≡ scan_of (begun g) t
begin_read k g t =
    scan_append (replicate k 32) (minus_of g ++ t) Blanks
    ∙ ap (λ st. scan_of st (minus_of g ++ t)) (blanks_read k)
    ∙ scan_append (minus_of g) t Blanks
    ∙ ap (λ st. scan_of st t) (minus_read g)

from_zero : (d : ℕ) → d ≡ 0 * 10 + d
from_zero d = omega arith

first_read : (g : Bool) (d : ℕ) → step_of (Digit d) (begun g) ≡ Digits g (0 * 10 + d)
first_read true d = ap (Digits true) (from_zero d)
first_read false d = ap (Digits false) (from_zero d)

some_read : (g : Bool) (ds : List ℕ) → AllDigits ds → 0 < length ds → scan_of (begun g) (digit_text ds) ≡ Digits g (number_of ds)
some_read g [] a h = absurd (omega arith)
some_read g (d ∷ ds) a h =
    ap (λ c. scan_of (step_of c (begun g)) (digit_text ds)) (digit_class d a.0)
    ∙ ap (λ st. scan_of st (digit_text ds)) (first_read g d)
    ∙ digits_read g (0 * 10 + d) ds a.1

-- blanks, a minus or none, and digits, as a state
pub columns_read : (k : ℕ) (g : Bool) (ds : List ℕ) → AllDigits ds → 0 < length ds → scan_of Blanks (replicate k 32 ++ (minus_of g ++ digit_text ds)) ≡ Digits g (number_of ds)
columns_read k g ds a h = begin_read k g (digit_text ds) ∙ some_read g ds a h

pub i_read : (s : List ℕ) (z : ℤ) → IsI s z → read_i s ≡ One z
i_read s z i =
    ap read_i i.text
    ∙ ap one_of (columns_read i.blanks i.minus i.digits i.each i.some)
    ∙ ap One (sym i.value)

-- the same before a point, where there may be no digits
point_begun : (g : Bool) → point_of (begun g) ≡ Digits g 0
point_begun true = refl
point_begun false = refl

pub head_read : (k : ℕ) (g : Bool) (ds : List ℕ) → AllDigits ds → point_of (scan_of Blanks (replicate k 32 ++ (minus_of g ++ digit_text ds))) ≡ Digits g (number_of ds)
head_read k g [] a = ap point_of (begin_read k g []) ∙ point_begun g
head_read k g (d ∷ ds) a = ap point_of (columns_read k g (d ∷ ds) a (omega arith))

-- ---- what is read is as the rules say

-- what a state says of the text before it, from the start of a field on
pub record Columns (g : Bool) (n : ℕ) (t : List ℕ) : Type 0 where
  pub blanks : ℕ
  pub digits : List ℕ
  pub each : AllDigits digits
  pub some : 0 < length digits
  pub text : t ≡ replicate blanks 32 ++ (minus_of g ++ digit_text digits)
  pub value : number_of digits ≡ n

pub record Behind (w : List ℕ) (t : List ℕ) : Type 0 where
  pub blanks : ℕ
  pub text : t ≡ replicate blanks 32 ++ w

abbrev pub Held : List ℕ → Scan → Type 0
Held t Blanks = Behind [] t
Held t Signed = Behind (45 ∷ []) t
Held t (Digits g n) = Columns g n t
Held t Broken = Unit {0}

one_more : (k : ℕ) (t : List ℕ) → replicate k 32 ++ (32 ∷ t) ≡ replicate (suc k) 32 ++ t
one_more zero t = refl
one_more (suc k) t = ap (λ l. 32 ∷ l) (one_more k t)

minus_behind : (g : Bool) (t : List ℕ) → Held t (begun g) → Behind (minus_of g) t
minus_behind true t h = h
minus_behind false t h = h

first_digit : (g : Bool) (t : List ℕ) (b d : ℕ) → Behind (minus_of g) t → b ≡ 48 + d → d < 10 → Columns g d (t ++ (b ∷ []))
first_digit g t b d h p q =
    record {
      blanks = h.blanks;
      digits = d ∷ [];
      each = (q, tt);
      some = omega arith;
      text = ap₂ (λ u x. u ++ (x ∷ [])) h.text p ∙ append_assoc (replicate h.blanks 32) (minus_of g) ((48 + d) ∷ []);
      value = sym (from_zero d);
    }

more_digit : (g : Bool) (n : ℕ) (t : List ℕ) (b d : ℕ) → Columns g n t → b ≡ 48 + d → d < 10 → Columns g (n * 10 + d) (t ++ (b ∷ []))
more_digit g n t b d h p q =
    record {
      blanks = h.blanks;
      digits = h.digits ++ (d ∷ []);
      each = digits_append h.digits (d ∷ []) h.each (q, tt);
      some = simp length-append (omega arith);
      text =
          ap₂ (λ u x. u ++ (x ∷ [])) h.text p
          ∙ append_assoc (replicate h.blanks 32) (minus_of g ++ digit_text h.digits) ((48 + d) ∷ [])
          ∙ ap (λ l. replicate h.blanks 32 ++ l) (append_assoc (minus_of g) (digit_text h.digits) ((48 + d) ∷ []) ∙ ap (λ l. minus_of g ++ l) (sym (text_append h.digits (d ∷ []))));
      value = number_append 0 h.digits (d ∷ []) ∙ ap (λ m. m * 10 + d) h.value;
    }

held_step : (t : List ℕ) (b : ℕ) (c : Byte) (st : Scan) → Says b c → Held t st → Held (t ++ (b ∷ [])) (step_of c st)
held_step t b Blank Blanks s h =
    record { blanks = suc h.blanks; text = ap₂ (λ u x. u ++ (x ∷ [])) (h.text ∙ append-nil (replicate h.blanks 32)) s ∙ one_more h.blanks [] }
held_step t b Blank Signed s h = tt
held_step t b Blank (Digits g n) s h = tt
held_step t b Blank Broken s h = tt
held_step t b Minus Blanks s h =
    record { blanks = h.blanks; text = ap₂ (λ u x. u ++ (x ∷ [])) (h.text ∙ append-nil (replicate h.blanks 32)) s }
held_step t b Minus Signed s h = tt
held_step t b Minus (Digits g n) s h = tt
held_step t b Minus Broken s h = tt
held_step t b (Digit d) Blanks s h = first_digit false t b d h s.0 s.1
held_step t b (Digit d) Signed s h = first_digit true t b d h s.0 s.1
held_step t b (Digit d) (Digits g n) s h = more_digit g n t b d h s.0 s.1
held_step t b (Digit d) Broken s h = tt
held_step t b Other st s h = tt

pub held : (s : List ℕ) → Held s (scan_of Blanks s)
held s = scan_fold Held (λ t st b h. held_step t b (class_of b) st (class_says b) h) s [] Blanks (record { blanks = 0; text = refl })

one_is : (s : List ℕ) (z : ℤ) (st : Scan) → Held s st → one_of st ≡ One z → IsI s z
one_is s z Blanks h e = let y : ◌≡◌ {A = ℕ} 0 1 = cc in absurd (omega arith)
one_is s z Signed h e = let y : ◌≡◌ {A = ℕ} 0 1 = cc in absurd (omega arith)
one_is s z (Digits g n) h e =
    let y : of_sign g n ≡ z = cc in
    record { blanks = h.blanks; minus = g; digits = h.digits; each = h.each; some = h.some; text = h.text; value = sym y ∙ ap (of_sign g) (sym h.value) }
one_is s z Broken h e = let y : ◌≡◌ {A = ℕ} 0 1 = cc in absurd (omega arith)

pub read_i_lem : (s : List ℕ) (z : ℤ) → read_i s ≡ One z → IsI s z
read_i_lem s z e = one_is s z (scan_of Blanks s) (held s) e

-- ---- digits behind a point or a sign

-- what a state says of the text behind one that held sign g and number m
pub record More (g : Bool) (m : ℕ) (h : Bool) (n : ℕ) (t : List ℕ) : Type 0 where
  pub digits : List ℕ
  pub each : AllDigits digits
  pub sign : h ≡ g
  pub text : t ≡ digit_text digits
  pub value : number_from m digits ≡ n

abbrev pub Filled : Bool → ℕ → List ℕ → Scan → Type 0
Filled g m t Blanks = ⊥
Filled g m t Signed = ⊥
Filled g m t (Digits h n) = More g m h n t
Filled g m t Broken = Unit {0}

filled_step : (g : Bool) (m : ℕ) (t : List ℕ) (b : ℕ) (c : Byte) (st : Scan) → Says b c → Filled g m t st → Filled g m (t ++ (b ∷ [])) (step_of c st)
filled_step g m t b Blank Blanks s h = absurd h
filled_step g m t b Blank Signed s h = tt
filled_step g m t b Blank (Digits f n) s h = tt
filled_step g m t b Blank Broken s h = tt
filled_step g m t b Minus Blanks s h = absurd h
filled_step g m t b Minus Signed s h = tt
filled_step g m t b Minus (Digits f n) s h = tt
filled_step g m t b Minus Broken s h = tt
filled_step g m t b (Digit d) Blanks s h = absurd h
filled_step g m t b (Digit d) Signed s h = absurd h
filled_step g m t b (Digit d) (Digits f n) s h =
    record {
      digits = h.digits ++ (d ∷ []);
      each = digits_append h.digits (d ∷ []) h.each (s.1, tt);
      sign = h.sign;
      text = ap₂ (λ u x. u ++ (x ∷ [])) h.text s.0 ∙ sym (text_append h.digits (d ∷ []));
      value = number_append m h.digits (d ∷ []) ∙ ap (λ k. k * 10 + d) h.value;
    }
filled_step g m t b (Digit d) Broken s h = tt
filled_step g m t b Other st s h = tt

pub filled : (g : Bool) (m : ℕ) (s : List ℕ) → Filled g m s (scan_of (Digits g m) s)
filled g m s =
    scan_fold (Filled g m) (λ t st b h. filled_step g m t b (class_of b) st (class_says b) h) s [] (Digits g m)
    (record { digits = []; each = tt; sign = refl; text = refl; value = refl })

-- the digits of a part that ends a number
pub record Ends (g : Bool) (m : ℕ) (t : List ℕ) (z : ℤ) : Type 0 where
  pub digits : List ℕ
  pub each : AllDigits digits
  pub text : t ≡ digit_text digits
  pub value : z ≡ of_sign g (number_from m digits)

ends_by_lem : (g : Bool) (m : ℕ) (t : List ℕ) (z : ℤ) (st : Scan) → Filled g m t st → one_of st ≡ One z → Ends g m t z
ends_by_lem g m t z Blanks h e = absurd h
ends_by_lem g m t z Signed h e = absurd h
ends_by_lem g m t z (Digits f n) h e =
    let y : of_sign f n ≡ z = cc in
    record { digits = h.digits; each = h.each; text = h.text; value = sym y ∙ ap₂ of_sign h.sign (sym h.value) }
ends_by_lem g m t z Broken h e = let y : ◌≡◌ {A = ℕ} 0 1 = cc in absurd (omega arith)

pub ends : (g : Bool) (m : ℕ) (t : List ℕ) (z : ℤ) → one_of (scan_of (Digits g m) t) ≡ One z → Ends g m t z
ends g m t z e = ends_by_lem g m t z (scan_of (Digits g m) t) (filled g m t) e
