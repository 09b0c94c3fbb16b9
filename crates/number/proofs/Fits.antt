-- R71, R73, R79: which numbers have a field. Those in the range, a power of ten to a side, have a canonical text; and what some field
-- reads as is in it.
-- Assumes nothing.
use mathlib.Core.Path.{◌≡◌, refl, sym, ap, ap₂, ◌∙◌, subst}
use mathlib.Core.Bool.{Bool, true, false, cond}
use mathlib.Core.List.{List, [], ◌∷◌, ◌++◌, append_assoc, append-nil}
use Prim.Native.Nat.{ℕ, zero, suc, ◌+◌, ◌*◌, ◌-◌, ◌/◌, ◌%◌, ◌^◌, ◌<◌, ◌≤◌}
use native.Mathlib.Nat.{pow-zero, pow-suc, pow-succ', div-one, div-div-eq-div-mul, div-eq_of_lt}
use native.Mathlib.Numerals.{add-one}
use native.Mathlib.Omega.{arith}
use borrow.Author.Tests.{leb-true, leb-false, ne_eqb}
use lib.Dec.{T, leb}
use lib.IntN.{ℤ}
use lib.Pow.{pow-add}
use lib.ListN.{length, replicate, length-append, length-map, length-replicate}
use Rattle.base.specs.Sign.{of_sign, negative, size_of, holds}
use Rattle.base.specs.Digits.{AllDigits, number_from, number_of, digit_text, Lean}
use Rattle.base.proofs.Columns.{columns_length}
use Rattle.base.proofs.Digits.{digits_append, number_append, text_append, number_within, lean_more}
use Rattle.base.proofs.Sign.{sign_size, negative_some, holds_of, holds_high, holds_low}
use Rattle.number.specs.declared.Scan.TheVariants.{Digits}
use Rattle.number.specs.Write.{last_of, begun, back_of, text_of, state_of, lead_state, text_i, text_f, text_e}
use Rattle.number.specs.Grammar.{IsI, IsF, IsE, minus_of, lead_text, lead_minus, sign_byte}
use Rattle.number.specs.Canonical.{CanonicalI, CanonicalF, CanonicalE, due_lead}
use Rattle.number.proofs.Grammar.{Behind}
use Rattle.number.proofs.Unique.{blanks_text}

-- ---- right-justified text

-- w columns have room for sign g and n: one column for the minus, and digits for the others
abbrev pub Room : Bool → ℕ → ℕ → Type 0
Room false w n = n < 10 ^ w
Room true zero n = ⊥
Room true (suc zero) n = ⊥
Room true (suc (suc w)) n = n < 10 ^ suc w

record Right (g : Bool) (n : ℕ) (t : List ℕ) : Type 0 where
  blanks : ℕ
  digits : List ℕ
  each : AllDigits digits
  lean : Lean digits
  text : t ≡ replicate blanks 32 ++ (minus_of g ++ digit_text digits)
  value : number_of digits ≡ n

-- what stands before the only digit
before_one : (g : Bool) (w n : ℕ) → Room g (suc w) n → Behind (minus_of g) (text_of false w (begun g))
before_one false w n r = record { blanks = w; text = blanks_text w ∙ sym (append-nil (replicate w 32)) }
before_one true zero n r = absurd r
before_one true (suc w) n r = record { blanks = w; text = ap (λ (l : List ℕ). l ++ (45 ∷ [])) (blanks_text w) }

-- room for a number with two digits at least
room_back : (g : Bool) (w n : ℕ) → 10 ≤ n → Room g (suc (suc w)) n → Room g (suc w) (n / 10)
room_back false w n h r = let e = pow-suc 10 (suc w) in omega arith
room_back true zero n h r = absurd (omega (arith, pow-suc 10 zero, pow-zero 10))
room_back true (suc w) n h r = let e = pow-suc 10 (suc w) in omega arith

room_two : (g : Bool) (n : ℕ) → 10 ≤ n → Room g (suc zero) n → ⊥
room_two false n h r = omega (arith, pow-suc 10 zero, pow-zero 10)
room_two true n h r = r

right_one : (g : Bool) (n : ℕ) (t : List ℕ) → n < 10 → Behind (minus_of g) t → Right g n (t ++ ((48 + n % 10) ∷ []))
right_one g n t h b =
    let e : n % 10 ≡ n = omega arith in
    record {
      blanks = b.blanks;
      digits = n ∷ [];
      each = (h, tt);
      lean = tt;
      text = ap₂ (λ (l : List ℕ) d. l ++ ((48 + d) ∷ [])) b.text e ∙ append_assoc (replicate b.blanks 32) (minus_of g) ((48 + n) ∷ []);
      value = omega arith;
    }

right_more : (g : Bool) (n : ℕ) (t : List ℕ) → 10 ≤ n → Right g (n / 10) t → Right g n (t ++ ((48 + n % 10) ∷ []))
right_more g n t h i =
    record {
      blanks = i.blanks;
      digits = i.digits ++ (n % 10 ∷ []);
      each = digits_append i.digits (n % 10 ∷ []) i.each (omega arith, tt);
      lean = lean_more i.digits (n % 10) i.lean (omega (arith, i.value));
      text =
          ap (λ (l : List ℕ). l ++ ((48 + n % 10) ∷ [])) i.text
          ∙ append_assoc (replicate i.blanks 32) (minus_of g ++ digit_text i.digits) ((48 + n % 10) ∷ [])
          ∙ ap (λ (l : List ℕ). replicate i.blanks 32 ++ l)
          (append_assoc (minus_of g) (digit_text i.digits) ((48 + n % 10) ∷ []) ∙ ap (λ (l : List ℕ). minus_of g ++ l) (sym (text_append i.digits (n % 10 ∷ []))));
      value = number_append 0 i.digits (n % 10 ∷ []) ∙ ap (λ m. m * 10 + n % 10) i.value ∙ omega arith;
    }

right_by : (w : ℕ) (g : Bool) (n : ℕ) (t : Bool) → leb 10 n ≡ t → Room g (suc w) n → ((m : ℕ) → 10 ≤ n → Room g w m → Right g m (text_of false w (Digits g m)))
    → (10 ≤ n → Room g w (n / 10)) → Right g n (text_of false w (cond t (Digits g (n / 10)) (begun g)) ++ ((48 + n % 10) ∷ []))
right_by w g n true e r ih k = let h = leb-true 10 n e in right_more g n (text_of false w (Digits g (n / 10))) h (ih (n / 10) h (k h))
right_by w g n false e r ih k = right_one g n (text_of false w (begun g)) (leb-false 10 n e) (before_one g w n r)

right : (w : ℕ) (g : Bool) (n : ℕ) → Room g (suc w) n → Right g n (text_of false (suc w) (Digits g n))
right zero g n r = right_by zero g n (leb 10 n) refl r (λ m h s. absurd (room_two g n h r)) (λ h. absurd (room_two g n h r))
right (suc w) g n r = right_by (suc w) g n (leb 10 n) refl r (λ m h s. right w g m s) (λ h. room_back g w n h r)

-- ---- filled columns

record Padded (k n : ℕ) (t : List ℕ) : Type 0 where
  digits : List ℕ
  each : AllDigits digits
  many : length digits ≡ k
  text : t ≡ digit_text digits
  value : number_from (n / 10 ^ k) digits ≡ n

padded : (k : ℕ) (g : Bool) (n : ℕ) → Padded k n (text_of true k (Digits g n))
padded zero g n = record { digits = []; each = tt; many = refl; text = refl; value = rw (pow-zero 10) (div-one n) }
padded (suc k) g n =
    let i = padded k g (n / 10) in
    let q : n / 10 ^ suc k ≡ n / 10 / 10 ^ k = rw (pow-succ' 10 k) (sym (div-div-eq-div-mul n 10 (10 ^ k))) in
    record {
      digits = i.digits ++ (n % 10 ∷ []);
      each = digits_append i.digits (n % 10 ∷ []) i.each (omega arith, tt);
      many = length-append i.digits (n % 10 ∷ []) ∙ ap (λ j. j + 1) i.many ∙ add-one k;
      text = ap (λ (l : List ℕ). l ++ ((48 + n % 10) ∷ [])) i.text ∙ sym (text_append i.digits (n % 10 ∷ []));
      value =
          ap (λ m. number_from m (i.digits ++ (n % 10 ∷ []))) q
          ∙ number_append (n / 10 / 10 ^ k) i.digits (n % 10 ∷ [])
          ∙ ap (λ m. m * 10 + n % 10) i.value
          ∙ omega arith;
    }

-- a number that its columns hold
padded_whole : (k : ℕ) (g : Bool) (n : ℕ) → n < 10 ^ k → (p : Padded k n (text_of true k (Digits g n))) → number_of p.digits ≡ n
padded_whole k g n h p = ap (λ m. number_from m p.digits) (sym (div-eq_of_lt h)) ∙ p.value

-- ---- lengths of a grammar's pieces

abbrev minuses : Bool → ℕ
minuses g = length (minus_of g)

length_blanks : (k : ℕ) (t : List ℕ) → length (replicate k 32 ++ t) ≡ k + length t
length_blanks k t = length-append (replicate k 32) t ∙ ap (λ n. n + length t) (length-replicate k 32)

length_text : (k : ℕ) (g : Bool) (t : List ℕ) → length (replicate k 32 ++ (minus_of g ++ t)) ≡ k + (minuses g + length t)
length_text k g t = length_blanks k (minus_of g ++ t) ∙ ap (λ n. k + n) (length-append (minus_of g) t)

length_digits : (ds : List ℕ) → length (digit_text ds) ≡ length ds
length_digits ds = simp length-map

thousand : (k : ℕ) → 10 ^ (k + 3) ≡ 10 ^ k * 1000
thousand k = pow-add 10 k 3

-- ---- I

module _ (k low high : ℕ) (l : suc low ≡ 10 ^ k) (h : suc high ≡ 10 ^ suc k) where
  i_room : (z : ℤ) → T (holds low high z) → Room (negative z) (suc k) (size_of z)
  i_room z t = by (negative z) refl k l h
    where
      by : (g : Bool) → negative z ≡ g → (k : ℕ) → suc low ≡ 10 ^ k → suc high ≡ 10 ^ suc k → Room g (suc k) (size_of z)
      by false e k l h = omega (arith, holds_high low high z t e)
      by true e zero l h = absurd (omega (arith, holds_low low high z t e, negative_some z e, pow-zero 10))
      by true e (suc k) l h = omega (arith, holds_low low high z t e)

  -- a number in the range has its text
  pub i_canonical : (z : ℤ) → T (holds low high z) → CanonicalI (suc k) (text_i (suc k) z) z
  i_canonical z t =
      let r = right k (negative z) (size_of z) (i_room z t) in
      record {
        width = columns_length last_of (back_of false) (suc k) (state_of z);
        blanks = r.blanks;
        sign = negative z;
        digits = r.digits;
        each = r.each;
        lean = r.lean;
        zero = λ e. omega (arith, negative_some z e, r.value);
        text = r.text;
        value = sym (sign_size z) ∙ ap (of_sign (negative z)) (sym r.value);
      }

  -- what a field of the width reads as is in the range
  pub i_within : (s : List ℕ) (z : ℤ) → length s ≡ suc k → IsI s z → T (holds low high z)
  i_within s z w i =
      let n = length_text i.blanks i.minus (digit_text i.digits) in
      let d : length (digit_text i.digits) ≡ length i.digits = simp length-map in
      let t = ap length i.text in
      subst (λ (v : ℤ). T (holds low high v)) (sym i.value)
      (holds_of low high i.minus (number_of i.digits)
      (λ e. omega (arith, number_within i.digits (suc k) i.each (omega arith)))
      (λ e. let g = ap minuses e in omega (arith, number_within i.digits k i.each (omega arith))))

-- ---- F

module _ (h low high : ℕ) (l : suc low ≡ 10 ^ (h + 4)) (u : suc high ≡ 10 ^ (h + 5)) where
  f_room : (z : ℤ) → T (holds low high z) → Room (negative z) (suc (suc h)) (size_of z / 1000)
  f_room z t = by (negative z) refl
    where
      by : (g : Bool) → negative z ≡ g → Room g (suc (suc h)) (size_of z / 1000)
      by false e = let p = thousand (suc (suc h)) in let q : suc (suc h) + 3 ≡ h + 5 = omega arith in omega (arith, holds_high low high z t e, ap (λ n. 10 ^ n) q)
      by true e = let p = thousand (suc h) in let q : suc h + 3 ≡ h + 4 = omega arith in omega (arith, holds_low low high z t e, ap (λ n. 10 ^ n) q)

  -- a number of thousandths in the range has its text
  pub f_canonical : (z : ℤ) → T (holds low high z) → CanonicalF (h + 6) (text_f (h + 6) z) z
  f_canonical z t =
      let g = negative z in
      let n = size_of z in
      let w : h + 6 - 4 ≡ suc (suc h) = omega arith in
      let r = right (suc h) g (n / 1000) (f_room z t) in
      let p = padded 3 g n in
      let head = replicate r.blanks 32 ++ (minus_of g ++ digit_text r.digits) in
      let e : text_of false (h + 6 - 4) (Digits g (n / 1000)) ≡ head = ap (λ k. text_of false k (Digits g (n / 1000))) w ∙ r.text in
      let v : number_of (r.digits ++ p.digits) ≡ n = number_append 0 r.digits p.digits ∙ ap (λ m. number_from m p.digits) r.value ∙ p.value in
      record {
        width =
            length-append (text_of false (h + 6 - 4) (Digits g (n / 1000))) (46 ∷ text_of true 3 (state_of z))
            ∙ ap (λ k. k + 4) (columns_length last_of (back_of false) (h + 6 - 4) (Digits g (n / 1000)))
            ∙ omega arith;
        blanks = r.blanks;
        sign = g;
        units = r.digits;
        thousandths = p.digits;
        each = r.each;
        lean = r.lean;
        every = p.each;
        three = p.many;
        zero = λ e. omega (arith, negative_some z e, v);
        text = ap₂ (λ (a b : List ℕ). a ++ (46 ∷ b)) e p.text ∙ simp append_assoc;
        value = sym (sign_size z) ∙ ap (of_sign g) (sym v);
      }

  -- what a field of the width reads as is in the range
  pub f_within : (s : List ℕ) (z : ℤ) → length s ≡ h + 6 → IsF s z → T (holds low high z)
  f_within s z w i =
      let t : length s ≡ i.blanks + (minuses i.minus + (length i.units + 4)) =
      ap length i.text ∙ length_text i.blanks i.minus (digit_text i.units ++ (46 ∷ digit_text i.thousandths))
      ∙ ap (λ n. i.blanks + (minuses i.minus + n))
      (length-append (digit_text i.units) (46 ∷ digit_text i.thousandths) ∙ ap₂ (λ a b. a + suc b) (length_digits i.units) (length_digits i.thousandths ∙ i.three)) in
      let ds = i.units ++ i.thousandths in
      let a = digits_append i.units i.thousandths i.each i.every in
      let n : length ds ≡ length i.units + 3 = length-append i.units i.thousandths ∙ ap (λ b. length i.units + b) i.three in
      subst (λ (v : ℤ). T (holds low high v)) (sym i.value)
      (holds_of low high i.minus (number_of ds)
      (λ e. omega (arith, number_within ds (h + 5) a (omega arith)))
      (λ e. let g = ap minuses e in omega (arith, number_within ds (h + 4) a (omega arith))))

-- ---- E

-- what is due before the point has its place
record Leads (c : ℕ) (g : Bool) : Type 0 where
  blanks : ℕ
  columns : length (replicate blanks 32 ++ lead_text (due_lead c g)) ≡ c
  text : text_of false c (lead_state c g) ≡ replicate blanks 32 ++ lead_text (due_lead c g)

leads_minus : (c : ℕ) → Leads (suc c) true
leads_minus zero = record { blanks = 0; columns = refl; text = refl }
leads_minus (suc c) =
    let f = ne_eqb (suc (suc c)) 1 (λ e. omega arith) in
    record {
      blanks = c;
      columns = rw f (length_blanks c (45 ∷ 48 ∷ []) ∙ omega arith);
      text = rw f (ap (λ (l : List ℕ). (l ++ (45 ∷ [])) ++ (48 ∷ [])) (blanks_text c) ∙ append_assoc (replicate c 32) (45 ∷ []) (48 ∷ []));
    }

leads : (c : ℕ) (g : Bool) → Leads (suc c) g
leads c true = leads_minus c
leads c false = record { blanks = c; columns = length_blanks c (48 ∷ []) ∙ omega arith; text = ap (λ (l : List ℕ). l ++ (48 ∷ [])) (blanks_text c) }

either : (p : ℕ) (z : ℤ) → T (holds p p z) → size_of z ≤ p
either p z t = by (negative z) refl
  where
    by : (g : Bool) → negative z ≡ g → size_of z ≤ p
    by true e = holds_low p p z t e
    by false e = holds_high p p z t e

module _ (c d x p q : ℕ) (l : suc p ≡ 10 ^ d) (h : suc q ≡ 10 ^ x) where
  -- a pair in the range has its text
  pub e_canonical : (m e : ℤ) → T (holds p p m) → T (holds q q e) → CanonicalE (suc c) d x (text_e (suc c) d x m e) m e
  e_canonical m e s t =
      let b = leads c (negative m) in
      let f = padded d (negative m) (size_of m) in
      let g = padded x (negative e) (size_of e) in
      let v = padded_whole d (negative m) (size_of m) (omega (arith, either p m s)) f in
      let w = padded_whole x (negative e) (size_of e) (omega (arith, either q e t)) g in
      record {
        blanks = b.blanks;
        sign = negative m;
        columns = b.columns;
        digits = f.digits;
        each = f.each;
        many = f.many;
        zero = λ y. omega (arith, negative_some m y, v);
        down = negative e;
        exponent = g.digits;
        every = g.each;
        places = g.many;
        plus = λ y. omega (arith, negative_some e y, w);
        text = ap₂ (λ (i j : List ℕ). i ++ (46 ∷ j)) b.text (ap₂ (λ (i j : List ℕ). i ++ (69 ∷ sign_byte (negative e) ∷ j)) f.text g.text);
        first = sym (sign_size m) ∙ ap (of_sign (negative m)) (sym v);
        second = sym (sign_size e) ∙ ap (of_sign (negative e)) (sym w);
      }

  -- what a field reads as is in the range
  pub e_within : (s : List ℕ) (m e : ℤ) → IsE (suc c) d x s m e → T (holds p p m) × T (holds q q e)
  e_within s m e i =
      let a = number_within i.rest.digits d i.rest.each (omega (arith, i.rest.many)) in
      let b = number_within i.rest.exponent x i.rest.every (omega (arith, i.rest.places)) in (
        subst (λ (v : ℤ). T (holds p p v)) (sym i.rest.first) (holds_of p p (lead_minus i.lead) (number_of i.rest.digits) (λ _. omega arith) (λ _. omega arith)),
        subst (λ (v : ℤ). T (holds q q v)) (sym i.rest.second) (holds_of q q i.rest.down (number_of i.rest.exponent) (λ _. omega arith) (λ _. omega arith)),
      )
