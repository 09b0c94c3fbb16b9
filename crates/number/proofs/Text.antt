-- The text that is written: its length, its bytes, and that a canonical text is a field; the bytes of any field.
-- Assumes nothing.
use mathlib.Core.Path.{◌≡◌, refl, sym, ap, ap₂, ◌∙◌, subst}
use mathlib.Core.Bool.{Bool, true, false, cond}
use mathlib.Core.List.{List, [], ◌∷◌, ◌++◌}
use Prim.Native.Nat.{ℕ, zero, suc, ◌+◌, ◌-◌, ◌/◌, ◌%◌, ◌≤◌}
use native.Mathlib.Omega.{arith}
use lib.Dec.{T, leb, eqb, le→leb}
use lib.IntN.{ℤ}
use lib.ListN.{length, replicate, length-append}
use Rattle.base.specs.Ascii.{printable}
use Rattle.base.specs.Every.{every}
use Rattle.base.specs.Sign.{of_sign, negative, size_of}
use Rattle.base.specs.Digits.{AllDigits, number_of, digit_text}
use Rattle.base.proofs.Choice.{and_both}
use Rattle.base.proofs.Columns.{columns_length}
use Rattle.base.proofs.Digits.{lean_some}
use Rattle.base.proofs.Every.{every_append, columns_every}
use Rattle.number.specs.declared.Scan.{Scan}
use Rattle.number.specs.declared.Scan.TheVariants.{Blanks, Signed, Digits, Broken}
use Rattle.number.specs.Write.{last_of, back_of, text_of, state_of, lead_state, text_i, text_f, text_e}
use Rattle.number.specs.Grammar.{IsI, IsF, IsE, Lead, minus_of, lead_text, lead_minus, sign_byte}
use Rattle.number.specs.Grammar.Lead.{nought, minus_nought, bare, minus}
use Rattle.number.specs.Canonical.{CanonicalI, CanonicalF, CanonicalE, due_lead}

-- ---- lengths

pub i_length : (w : ℕ) (z : ℤ) → length (text_i w z) ≡ w
i_length w z = columns_length last_of (back_of false) w (state_of z)

pub f_length : (w : ℕ) (z : ℤ) → 4 ≤ w → length (text_f w z) ≡ w
f_length w z h =
    length-append (text_of false (w - 4) (Digits (negative z) (size_of z / 1000))) (46 ∷ text_of true 3 (state_of z))
    ∙ ap (λ k. k + 4) (columns_length last_of (back_of false) (w - 4) (Digits (negative z) (size_of z / 1000)))
    ∙ omega arith

pub e_length : (c d x : ℕ) (m e : ℤ) → length (text_e c d x m e) ≡ c + d + x + 3
e_length c d x m e =
    let a = text_of false c (lead_state c (negative m)) in
    let b = text_of true d (state_of m) in
    let f = text_of true x (state_of e) in
    let l = columns_length last_of (back_of false) c (lead_state c (negative m)) in
    let k = columns_length last_of (back_of true) d (state_of m) in
    let n = columns_length last_of (back_of true) x (state_of e) in
    length-append a (46 ∷ (b ++ (69 ∷ sign_byte (negative e) ∷ f)))
    ∙ ap₂ (λ i j. i + suc j) l (length-append b (69 ∷ sign_byte (negative e) ∷ f) ∙ ap₂ (λ i j. i + suc (suc j)) k n)
    ∙ omega arith

-- ---- bytes

between : (b : ℕ) → 32 ≤ b → b ≤ 126 → T (printable b)
between b h k = and_both (leb 32 b) (leb b 126) (le→leb 32 b h) (le→leb b 126 k)

last_printable : (st : Scan) → T (printable (last_of st))
last_printable Blanks = tt
last_printable Signed = tt
last_printable (Digits g n) = between (48 + n % 10) (omega arith) (omega arith)
last_printable Broken = tt

text_printable : (k : Bool) (w : ℕ) (st : Scan) → T (every printable (text_of k w st))
text_printable k w st = columns_every last_of (back_of k) printable last_printable w st

sign_printable : (g : Bool) → T (printable (sign_byte g))
sign_printable true = tt
sign_printable false = tt

pub i_printable : (w : ℕ) (z : ℤ) → T (every printable (text_i w z))
i_printable w z = text_printable false w (state_of z)

pub f_printable : (w : ℕ) (z : ℤ) → T (every printable (text_f w z))
f_printable w z =
    every_append printable (text_of false (w - 4) (Digits (negative z) (size_of z / 1000))) (46 ∷ text_of true 3 (state_of z))
    (text_printable false (w - 4) (Digits (negative z) (size_of z / 1000)))
    (text_printable true 3 (state_of z))

pub e_printable : (c d x : ℕ) (m e : ℤ) → T (every printable (text_e c d x m e))
e_printable c d x m e =
    let f = text_of true x (state_of e) in
    let u = sign_byte (negative e) in
    every_append printable (text_of false c (lead_state c (negative m))) (46 ∷ (text_of true d (state_of m) ++ (69 ∷ u ∷ f)))
    (text_printable false c (lead_state c (negative m)))
    (every_append printable (text_of true d (state_of m)) (69 ∷ u ∷ f) (text_printable true d (state_of m))
    (and_both (printable u) (every printable f) (sign_printable (negative e)) (text_printable true x (state_of e))))

-- ---- a canonical text is a field of its value

pub canonical_i : (w : ℕ) (s : List ℕ) (z : ℤ) → CanonicalI w s z → IsI s z
canonical_i w s z c =
    record { blanks = c.blanks; minus = c.sign; digits = c.digits; each = c.each; some = lean_some c.digits c.lean; text = c.text; value = c.value }

pub canonical_f : (w : ℕ) (s : List ℕ) (z : ℤ) → CanonicalF w s z → IsF s z
canonical_f w s z c =
    record { blanks = c.blanks; minus = c.sign; units = c.units; thousandths = c.thousandths; each = c.each; every = c.every; three = c.three; text = c.text; value = c.value }

due_minus : (c : ℕ) (g : Bool) → lead_minus (due_lead c g) ≡ g
due_minus c false = refl
due_minus c true = by (eqb c 1)
  where
    by : (t : Bool) → lead_minus (cond t minus minus_nought) ≡ true
    by true = refl
    by false = refl

pub canonical_e : (c d x : ℕ) (s : List ℕ) (m e : ℤ) → CanonicalE c d x s m e → IsE c d x s m e
canonical_e c d x s m e i =
    record {
      blanks = i.blanks;
      lead = due_lead c i.sign;
      columns = i.columns;
      rest = record {
        digits = i.digits;
        each = i.each;
        many = i.many;
        down = i.down;
        exponent = i.exponent;
        every = i.every;
        places = i.places;
        text = i.text;
        first = i.first ∙ ap (λ g. of_sign g (number_of i.digits)) (sym (due_minus c i.sign));
        second = i.second;
      };
    }

-- ---- each byte of a field prints, canonical or not

abbrev Prints : List ℕ → Type 0
Prints s = T (every printable s)

behind : (xs ys : List ℕ) → Prints xs → Prints ys → Prints (xs ++ ys)
behind xs ys p q = every_append printable xs ys p q

blanks_print : (k : ℕ) → Prints (replicate k 32)
blanks_print zero = tt
blanks_print (suc k) = blanks_print k

minus_prints : (g : Bool) → Prints (minus_of g)
minus_prints true = tt
minus_prints false = tt

lead_prints : (l : Lead) → Prints (lead_text l)
lead_prints nought = tt
lead_prints minus_nought = tt
lead_prints bare = tt
lead_prints minus = tt

digits_print : (ds : List ℕ) → AllDigits ds → Prints (digit_text ds)
digits_print [] h = tt
digits_print (d ∷ ds) h = and_both (printable (48 + d)) (every printable (digit_text ds)) (between (48 + d) (omega arith) (omega (arith, h.0))) (digits_print ds h.1)

pub i_prints : (s : List ℕ) (z : ℤ) → IsI s z → T (every printable s)
i_prints s z i =
    let rest = minus_of i.minus ++ digit_text i.digits in
    subst Prints (sym i.text)
    (behind (replicate i.blanks 32) rest (blanks_print i.blanks) (behind (minus_of i.minus) (digit_text i.digits) (minus_prints i.minus) (digits_print i.digits i.each)))

pub f_prints : (s : List ℕ) (z : ℤ) → IsF s z → T (every printable s)
f_prints s z i =
    let tail = digit_text i.units ++ (46 ∷ digit_text i.thousandths) in
    let t : Prints tail = behind (digit_text i.units) (46 ∷ digit_text i.thousandths) (digits_print i.units i.each) (digits_print i.thousandths i.every) in
    subst Prints (sym i.text) (behind (replicate i.blanks 32) (minus_of i.minus ++ tail) (blanks_print i.blanks) (behind (minus_of i.minus) tail (minus_prints i.minus) t))

pub e_prints : (c d x : ℕ) (s : List ℕ) (m e : ℤ) → IsE c d x s m e → T (every printable s)
e_prints c d x s m e i =
    let exponent = sign_byte i.rest.down ∷ digit_text i.rest.exponent in
    let tail = digit_text i.rest.digits ++ (69 ∷ exponent) in
    let u : Prints exponent =
    and_both (printable (sign_byte i.rest.down)) (every printable (digit_text i.rest.exponent)) (sign_printable i.rest.down) (digits_print i.rest.exponent i.rest.every) in
    let t : Prints tail = behind (digit_text i.rest.digits) (69 ∷ exponent) (digits_print i.rest.digits i.rest.each) u in
    let h : Prints (replicate i.blanks 32 ++ lead_text i.lead) = behind (replicate i.blanks 32) (lead_text i.lead) (blanks_print i.blanks) (lead_prints i.lead) in
    subst Prints (sym i.rest.text) (behind (replicate i.blanks 32 ++ lead_text i.lead) (46 ∷ tail) h t)
