-- E fields: what reads as two numbers is exactly what R74 and R77 say, with these values; and the shapes before the point of E11 and E8
-- (R75), and of E20 (R76).
-- Assumes nothing.
use mathlib.Core.Path.{◌≡◌, refl, sym, ap, ap₂, ◌∙◌}
use mathlib.Core.Bool.{Bool, true, false, cond}
use mathlib.Core.List.{List, [], ◌∷◌, ◌++◌, append_assoc, append-nil}
use Prim.Native.Nat.{ℕ, ◌+◌, ◌-◌, ◌≤◌}
use native.Mathlib.Omega.{arith}
use borrow.Author.Tests.{eq-eqb, eqb-true}
use lib.Dec.{eqb}
use lib.IntN.{ℤ}
use lib.ListN.{length, take, drop, get_or, replicate, length-append, length-take, length-drop, length-map, take-append-drop}
use lib.Seq.{get_or_at, take_at, drop_at}
use Rattle.base.specs.Part.{part}
use Rattle.base.specs.Digits.{digit_text}
use Rattle.base.proofs.Choice.{cond_elim, cond_taken, cond_kept}
use Rattle.number.specs.declared.Scan.{Scan}
use Rattle.number.specs.declared.Scan.TheVariants.{Blanks, Signed, Digits, Broken}
use Rattle.number.specs.declared.Number.{Number}
use Rattle.number.specs.declared.Number.TheVariants.{One, Two, Misformed}
use Rattle.number.specs.Scan.{scan_of}
use Rattle.number.specs.Read.{one_of, lead_of, sign_of, pair_of, read_e}
use Rattle.number.specs.Grammar.{IsE, Lead, lead_text, lead_minus, sign_byte}
use Rattle.number.specs.Grammar.Lead.{nought, minus_nought, bare, minus}
use Rattle.number.proofs.Scanning.{scan_append, scan_broken}
use Rattle.number.proofs.Grammar.{blanks_read, digits_read, Held, held, ends}

-- ---- a text by its parts

-- what the parts are worth
abbrev worth : List ℕ → ℕ → List ℕ → ℕ → List ℕ → Number
worth a u ds v es = pair_of (one_of (scan_of (lead_of (scan_of Blanks a) u) ds)) (one_of (scan_of (sign_of v) es))

-- c - 1 columns, the last before the point, the point, d digits, `E`, the sign, x digits
record Parts (c d x : ℕ) (s : List ℕ) : Type 0 where
  front : List ℕ
  last : ℕ
  point : ℕ
  digits : List ℕ
  letter : ℕ
  sign : ℕ
  exponent : List ℕ
  lengths : (length front ≡ c - 1) × (length digits ≡ d) × (length exponent ≡ x)
  is : s ≡ front ++ (last ∷ point ∷ (digits ++ (letter ∷ sign ∷ exponent)))

-- the byte behind p, and the part behind p
byte_behind : (s p ys : List ℕ) (y n : ℕ) → s ≡ p ++ (y ∷ ys) → length p ≡ n → get_or s n 0 ≡ y
byte_behind s p ys y n e l = rw e (get_or_at p y ys 0 n l)

part_behind : {s : List ℕ} {a : ℕ} (p m q : List ℕ) (b : ℕ) → s ≡ p ++ (m ++ q) → length p ≡ a → length m ≡ b - a → part a b s ≡ m
part_behind {a = a} p m q b e l k = rw (e, drop_at p (m ++ q) a l) (take_at m q (b - a) k)

module _ (c d x : ℕ) (s : List ℕ) (h : 1 ≤ c) (t : Parts c d x s) where
  to_point : length (t.front ++ (t.last ∷ [])) ≡ c
  to_point = length-append t.front (t.last ∷ []) ∙ omega (arith, t.lengths.0)

  behind_point : length (t.front ++ (t.last ∷ t.point ∷ [])) ≡ c + 1
  behind_point = length-append t.front (t.last ∷ t.point ∷ []) ∙ omega (arith, t.lengths.0)

  to_letter : length (t.front ++ (t.last ∷ t.point ∷ t.digits)) ≡ c + 1 + d
  to_letter = length-append t.front (t.last ∷ t.point ∷ t.digits) ∙ omega (arith, t.lengths.0, t.lengths.1)

  to_sign : length (t.front ++ (t.last ∷ t.point ∷ (t.digits ++ (t.letter ∷ [])))) ≡ c + 2 + d
  to_sign =
      length-append t.front (t.last ∷ t.point ∷ (t.digits ++ (t.letter ∷ [])))
      ∙ omega (arith, length-append t.digits (t.letter ∷ []), t.lengths.0, t.lengths.1)

  behind_sign : length (t.front ++ (t.last ∷ t.point ∷ (t.digits ++ (t.letter ∷ t.sign ∷ [])))) ≡ c + 3 + d
  behind_sign =
      length-append t.front (t.last ∷ t.point ∷ (t.digits ++ (t.letter ∷ t.sign ∷ [])))
      ∙ omega (arith, length-append t.digits (t.letter ∷ t.sign ∷ []), t.lengths.0, t.lengths.1)

  rest : List ℕ
  rest = t.digits ++ (t.letter ∷ t.sign ∷ t.exponent)

  all : length s ≡ c + d + x + 3
  unfolding rest
  all =
      ap length t.is
      ∙ length-append t.front (t.last ∷ t.point ∷ rest)
      ∙ omega (arith, length-append t.digits (t.letter ∷ t.sign ∷ t.exponent), t.lengths.0, t.lengths.1, t.lengths.2)

  e_at : read_e c d x s ≡ cond (eqb t.point 46) (cond (eqb t.letter 69) (worth t.front t.last t.digits t.sign t.exponent) Misformed) Misformed
  unfolding rest
  e_at =
      rw (
        eq-eqb (length s) (c + d + x + 3) all,
        byte_behind s (t.front ++ (t.last ∷ [])) rest t.point c (t.is ∙ simp append_assoc) to_point,
        byte_behind s (t.front ++ (t.last ∷ t.point ∷ t.digits)) (t.sign ∷ t.exponent) t.letter (c + 1 + d) (t.is ∙ simp append_assoc) to_letter,
        part_behind [] t.front (t.last ∷ t.point ∷ rest) (c - 1) t.is refl (omega (arith, t.lengths.0)),
        byte_behind s t.front (t.point ∷ rest) t.last (c - 1) t.is t.lengths.0,
        part_behind (t.front ++ (t.last ∷ t.point ∷ [])) t.digits (t.letter ∷ t.sign ∷ t.exponent) (c + 1 + d) (t.is ∙ simp append_assoc) behind_point
            (omega (arith, t.lengths.1)),
        byte_behind s (t.front ++ (t.last ∷ t.point ∷ (t.digits ++ (t.letter ∷ [])))) t.exponent t.sign (c + 2 + d) (t.is ∙ simp append_assoc) to_sign,
        part_behind (t.front ++ (t.last ∷ t.point ∷ (t.digits ++ (t.letter ∷ t.sign ∷ [])))) t.exponent [] (length s)
            (t.is ∙ simp (append_assoc, append-nil)) behind_sign (omega (arith, all, t.lengths.2)),
      )

record TwoMore (l : List ℕ) (n : ℕ) : Type 0 where
  one : ℕ
  other : ℕ
  rest : List ℕ
  left : length rest ≡ n
  is : l ≡ one ∷ other ∷ rest

two_more : (l : List ℕ) (n : ℕ) → length l ≡ n + 2 → TwoMore l n
two_more [] n e = absurd (omega arith)
two_more (a ∷ []) n e = absurd (omega arith)
two_more (a ∷ b ∷ r) n e = record { one = a; other = b; rest = r; left = omega arith; is = refl }

rejoined : {r es : List ℕ} {u p q v : ℕ} (k d : ℕ) (s : List ℕ) → drop k s ≡ u ∷ p ∷ r → drop d r ≡ q ∷ v ∷ es → s ≡ take k s ++ (u ∷ p ∷ (take d r ++ (q ∷ v ∷ es)))
rejoined {r = r} {u = u} {p = p} k d s e f =
    let g : s ≡ take k s ++ drop k s = sym (take-append-drop k s) in
    let h : r ≡ take d r ++ drop d r = sym (take-append-drop d r) in
    g ∙ ap (λ l. take k s ++ l) (e ∙ ap (λ l. u ∷ p ∷ l) (h ∙ ap (λ l. take d r ++ l) f))

-- any text of the width has them
parts : (c d x : ℕ) (s : List ℕ) → 1 ≤ c → length s ≡ c + d + x + 3 → Parts c d x s
parts c d x s h l =
    let t₁ = two_more (drop (c - 1) s) (d + (x + 2)) (simp length-drop (omega arith)) in
    let t₂ = two_more (drop d t₁.rest) x (simp length-drop (omega (arith, t₁.left))) in
    record {
      front = take (c - 1) s;
      last = t₁.one;
      point = t₁.other;
      digits = take d t₁.rest;
      letter = t₂.one;
      sign = t₂.other;
      exponent = t₂.rest;
      lengths = (simp length-take (omega arith), simp length-take (omega (arith, t₁.left)), t₂.left);
      is = rejoined (c - 1) d s t₁.is t₂.is;
    }

-- ---- the columns before the point

-- the columns but the last, and the last one
abbrev front_of : ℕ → Lead → List ℕ
front_of k nought = replicate k 32
front_of k minus_nought = replicate k 32 ++ (45 ∷ [])
front_of k bare = replicate k 32
front_of k minus = replicate k 32

abbrev last_byte : Lead → ℕ
last_byte nought = 48
last_byte minus_nought = 48
last_byte bare = 32
last_byte minus = 45

lead_cut : (k : ℕ) (l : Lead) → replicate k 32 ++ lead_text l ≡ front_of k l ++ (last_byte l ∷ [])
lead_cut k nought = refl
lead_cut k minus_nought = sym (append_assoc (replicate k 32) (45 ∷ []) (48 ∷ []))
lead_cut k bare = refl
lead_cut k minus = refl

lead_read : (k : ℕ) (l : Lead) → lead_of (scan_of Blanks (front_of k l)) (last_byte l) ≡ Digits (lead_minus l) 0
lead_read k nought = ap (λ st. lead_of st 48) (blanks_read k)
lead_read k minus_nought = ap (λ st. lead_of st 48) (scan_append (replicate k 32) (45 ∷ []) Blanks ∙ ap (λ st. scan_of st (45 ∷ [])) (blanks_read k))
lead_read k bare = ap (λ st. lead_of st 32) (blanks_read k)
lead_read k minus = ap (λ st. lead_of st 45) (blanks_read k)

sign_read : (g : Bool) → sign_of (sign_byte g) ≡ Digits g 0
sign_read true = refl
sign_read false = refl

pub e_read : (c d x : ℕ) (s : List ℕ) (m e : ℤ) → IsE c d x s m e → read_e c d x s ≡ Two m e
e_read c d x s m e i =
    let a = front_of i.blanks i.lead in
    let u = last_byte i.lead in
    let ds = digit_text i.rest.digits in
    let es = digit_text i.rest.exponent in
    let v = sign_byte i.rest.down in
    let f : s ≡ a ++ (u ∷ 46 ∷ (ds ++ (69 ∷ v ∷ es))) =
    i.rest.text ∙ ap (λ l. l ++ (46 ∷ (ds ++ (69 ∷ v ∷ es)))) (lead_cut i.blanks i.lead) ∙ append_assoc a (u ∷ []) (46 ∷ (ds ++ (69 ∷ v ∷ es))) in
    let la : length a + 1 ≡ c = sym (length-append a (u ∷ [])) ∙ sym (ap length (lead_cut i.blanks i.lead)) ∙ i.columns in
    e_at c d x s (omega arith) record {
      front = a;
      last = u;
      point = 46;
      digits = ds;
      letter = 69;
      sign = v;
      exponent = es;
      lengths = (omega arith, simp length-map i.rest.many, simp length-map i.rest.places);
      is = f;
    }
    ∙ ap₂ (λ p q. pair_of (one_of p) (one_of q))
    (ap (λ st. scan_of st ds) (lead_read i.blanks i.lead) ∙ digits_read (lead_minus i.lead) 0 i.rest.digits i.rest.each)
    (ap (λ st. scan_of st es) (sign_read i.rest.down) ∙ digits_read i.rest.down 0 i.rest.exponent i.rest.every)
    ∙ ap₂ Two (sym i.rest.first) (sym i.rest.second)

-- what a state before the point says of the columns
record Led (a : List ℕ) (u : ℕ) (st : Scan) : Type 0 where
  blanks : ℕ
  lead : Lead
  text : a ++ (u ∷ []) ≡ replicate blanks 32 ++ lead_text lead
  is : st ≡ Digits (lead_minus lead) 0

record Broke (st : Scan) : Type 0 where
  is : st ≡ Broken

data Before (a : List ℕ) (u : ℕ) (st : Scan) : Type 0 where
  led : Led a u st → Before a u st
  broke : Broke st → Before a u st

led_blank : (a : List ℕ) (u : ℕ) → Held a Blanks → Before a u (lead_of Blanks u)
led_blank a u h =
    let t = h.text ∙ append-nil (replicate h.blanks 32) in
    cond_elim (Before a u) (eqb u 48) (λ e. led (record { blanks = h.blanks; lead = nought; text = ap₂ (λ l y. l ++ (y ∷ [])) t (eqb-true u 48 e); is = refl })) λ _.
    cond_elim (Before a u) (eqb u 32) (λ e. led (record { blanks = h.blanks; lead = bare; text = ap₂ (λ l y. l ++ (y ∷ [])) t (eqb-true u 32 e); is = refl })) λ _.
    cond_elim (Before a u) (eqb u 45) (λ e. led (record { blanks = h.blanks; lead = minus; text = ap₂ (λ l y. l ++ (y ∷ [])) t (eqb-true u 45 e); is = refl })) λ _.
    broke (record { is = refl })

led_signed : (a : List ℕ) (u : ℕ) → Held a Signed → Before a u (lead_of Signed u)
led_signed a u h =
    cond_elim (Before a u) (eqb u 48)
    (λ e. led
    (record {
      blanks = h.blanks;
      lead = minus_nought;
      text = ap₂ (λ l y. l ++ (y ∷ [])) h.text (eqb-true u 48 e)
          ∙ append_assoc (replicate h.blanks 32) (45 ∷ []) (48 ∷ []);
      is = refl;
    })) λ _.
    broke (record { is = refl })

lead_is : (a : List ℕ) (u : ℕ) (st : Scan) → Held a st → Before a u (lead_of st u)
lead_is a u Blanks h = led_blank a u h
lead_is a u Signed h = led_signed a u h
lead_is a u (Digits g n) h = broke (record { is = refl })
lead_is a u Broken h = broke (record { is = refl })

record Sign (v : ℕ) (st : Scan) : Type 0 where
  down : Bool
  text : v ≡ sign_byte down
  is : st ≡ Digits down 0

data Signs (v : ℕ) (st : Scan) : Type 0 where
  given : Sign v st → Signs v st
  none : Broke st → Signs v st

sign_is : (v : ℕ) → Signs v (sign_of v)
sign_is v =
    cond_elim (Signs v) (eqb v 43) (λ e. given (record { down = false; text = eqb-true v 43 e; is = refl })) λ _.
    cond_elim (Signs v) (eqb v 45) (λ e. given (record { down = true; text = eqb-true v 45 e; is = refl })) λ _.
    none (record { is = refl })

-- ---- what is read is as the rule says

record Pair (a b : Number) (m e : ℤ) : Type 0 where
  first : a ≡ One m
  second : b ≡ One e

pair_is : (a b : Number) (m e : ℤ) → pair_of a b ≡ Two m e → Pair a b m e
pair_is (One a) (One b) m e p = record { first = cc; second = cc }
pair_is (One a) (Two b c) m e p = let y : ◌≡◌ {A = ℕ} 0 1 = cc in absurd (omega arith)
pair_is (One a) Misformed m e p = let y : ◌≡◌ {A = ℕ} 0 1 = cc in absurd (omega arith)
pair_is (Two a c) b m e p = let y : ◌≡◌ {A = ℕ} 0 1 = cc in absurd (omega arith)
pair_is Misformed b m e p = let y : ◌≡◌ {A = ℕ} 0 1 = cc in absurd (omega arith)

no_number : {A : Type 0} (t : List ℕ) (st : Scan) (z : ℤ) → Broke st → one_of (scan_of st t) ≡ One z → A
no_number t st z b e =
    let f : Misformed ≡ One z = sym (ap one_of (ap (λ u. scan_of u t) b.is ∙ scan_broken t)) ∙ e in
    let y : ◌≡◌ {A = ℕ} 0 1 = cc in
    absurd (omega arith)

misformed_two : (m e : ℤ) → Misformed ≡ Two m e → ⊥
misformed_two m e p = let y : ◌≡◌ {A = ℕ} 0 1 = cc in omega arith

module _ {c d x : ℕ} {s : List ℕ} (p : Parts c d x s) (m e : ℤ) (h : 1 ≤ c) where
  joined : p.point ≡ 46 → p.letter ≡ 69 → Led p.front p.last (lead_of (scan_of Blanks p.front) p.last) → Sign p.sign (sign_of p.sign)
      → one_of (scan_of (lead_of (scan_of Blanks p.front) p.last) p.digits) ≡ One m → one_of (scan_of (sign_of p.sign) p.exponent) ≡ One e → IsE c d x s m e
  joined f g l k q r =
      let a = ends (lead_minus l.lead) 0 p.digits m (sym (ap (λ st. one_of (scan_of st p.digits)) l.is) ∙ q) in
      let b = ends k.down 0 p.exponent e (sym (ap (λ st. one_of (scan_of st p.exponent)) k.is) ∙ r) in
      let w : length (p.front ++ (p.last ∷ [])) ≡ c = length-append p.front (p.last ∷ []) ∙ omega (arith, p.lengths.0) in
      record {
        blanks = l.blanks;
        lead = l.lead;
        columns = sym (ap length l.text) ∙ w;
        rest = record {
          digits = a.digits;
          each = a.each;
          many = simp length-map at (sym (ap length a.text) ∙ p.lengths.1);
          down = k.down;
          exponent = b.digits;
          every = b.each;
          places = simp length-map at (sym (ap length b.text) ∙ p.lengths.2);
          text =
              p.is
              ∙ sym (append_assoc p.front (p.last ∷ []) (p.point ∷ (p.digits ++ (p.letter ∷ p.sign ∷ p.exponent))))
              ∙ ap₂ (λ t u. t ++ u) l.text
              (ap₂ (λ y t. y ∷ t) f (ap₂ (λ t u. t ++ u) a.text (ap₂ (λ y t. y ∷ t) g (ap₂ (λ y t. y ∷ t) k.text b.text))));
          first = a.value;
          second = b.value;
        };
      }

  chosen : p.point ≡ 46 → p.letter ≡ 69 → Before p.front p.last (lead_of (scan_of Blanks p.front) p.last) → Signs p.sign (sign_of p.sign)
      → one_of (scan_of (lead_of (scan_of Blanks p.front) p.last) p.digits) ≡ One m → one_of (scan_of (sign_of p.sign) p.exponent) ≡ One e → IsE c d x s m e
  chosen f g (led l) (given k) q r = joined f g l k q r
  chosen f g (led l) (none b) q r = no_number p.exponent (sign_of p.sign) e b r
  chosen f g (broke b) k q r = no_number p.digits (lead_of (scan_of Blanks p.front) p.last) m b q

  parts_is : read_e c d x s ≡ Two m e → IsE c d x s m e
  parts_is r =
      let w = worth p.front p.last p.digits p.sign p.exponent in
      let r₁ : cond (eqb p.point 46) (cond (eqb p.letter 69) w Misformed) Misformed ≡ Two m e = sym (e_at c d x s h p) ∙ r in
      let f : p.point ≡ 46 = eqb-true p.point 46 (cond_taken (eqb p.point 46) _ Misformed (Two m e) (misformed_two m e) r₁) in
      let r₂ : cond (eqb p.letter 69) w Misformed ≡ Two m e = cond_kept (eqb p.point 46) _ Misformed (Two m e) (misformed_two m e) r₁ in
      let g : p.letter ≡ 69 = eqb-true p.letter 69 (cond_taken (eqb p.letter 69) _ Misformed (Two m e) (misformed_two m e) r₂) in
      let q = pair_is (one_of (scan_of (lead_of (scan_of Blanks p.front) p.last) p.digits)) (one_of (scan_of (sign_of p.sign) p.exponent)) m e
      (cond_kept (eqb p.letter 69) w Misformed (Two m e) (misformed_two m e) r₂) in
      chosen f g (lead_is p.front p.last (scan_of Blanks p.front) (held p.front)) (sign_is p.sign) q.first q.second

pub read_e_lem : (c d x : ℕ) (s : List ℕ) (m e : ℤ) → 1 ≤ c → read_e c d x s ≡ Two m e → IsE c d x s m e
read_e_lem c d x s m e h r =
    let l : length s ≡ c + d + x + 3 = eqb-true (length s) (c + d + x + 3) (cond_taken (eqb (length s) (c + d + x + 3)) _ Misformed (Two m e) (misformed_two m e) r) in
    parts_is (parts c d x s h l) m e h r
