-- A canonical text is the one that is written: the writer's steps back undo the reader's steps, where no digit follows a needless zero.
-- Assumes nothing.
use mathlib.Core.Path.{◌≡◌, refl, sym, ap, ap₂, ◌∙◌, subst}
use mathlib.Core.Bool.{Bool, true, false, cond}
use mathlib.Core.List.{List, [], ◌∷◌, ◌++◌, append_assoc}
use Prim.Native.Nat.{ℕ, zero, suc, ◌+◌, ◌*◌, ◌-◌, ◌/◌, ◌%◌, ◌^◌, ◌<◌}
use native.Mathlib.Omega.{arith}
use borrow.Author.Tests.{le-leb, lt-leb}
use lib.Dec.{eqb}
use lib.IntN.{ℤ}
use lib.ListN.{length, replicate, length-append, length-map, length-replicate}
use Rattle.base.specs.Sign.{of_sign, negative, size_of}
use Rattle.base.specs.Digits.{AllDigits, number_from, number_of, digit_text, Lean}
use Rattle.base.proofs.Columns.{columns_front, backs_more}
use Rattle.base.proofs.Digits.{lean_some, number_append, number_div}
use Rattle.base.proofs.Sign.{negative_of, size_of_lem}
use Rattle.number.specs.declared.Scan.{Scan}
use Rattle.number.specs.declared.Scan.TheVariants.{Blanks, Signed, Digits}
use Rattle.number.specs.Scan.{class_of, step_of, scan_of}
use Rattle.number.specs.Write.{last_of, begun, back_of, text_of, rest_of, state_of, lead_state, text_i, text_f, text_e}
use Rattle.number.specs.Grammar.{minus_of, lead_text, sign_byte}
use Rattle.number.specs.Grammar.Lead.{minus, minus_nought}
use Rattle.number.specs.Canonical.{CanonicalI, CanonicalF, CanonicalE, due_lead}
use Rattle.number.proofs.Scanning.{digit_class}
use Rattle.number.proofs.Grammar.{columns_read, digits_read, blanks_read}

-- ---- steps that are undone

abbrev Clean : Bool → Scan → ℕ → Type 0
Clean k st b = (last_of (step_of (class_of b) st) ≡ b) × (back_of k (step_of (class_of b) st) ≡ st)

abbrev AllClean : Bool → Scan → List ℕ → Type 0
AllClean k st [] = Unit {0}
AllClean k st (b ∷ bs) = Clean k st b × AllClean k (step_of (class_of b) st) bs

undone : (k : Bool) (s : List ℕ) (st : Scan) → AllClean k st s → (text_of k (length s) (scan_of st s) ≡ s) × (rest_of k (length s) (scan_of st s) ≡ st)
undone k [] st c = (refl, refl)
undone k (b ∷ s) st c =
    let i = undone k s (step_of (class_of b) st) c.1 in
    let e = scan_of (step_of (class_of b) st) s in (
      columns_front last_of (back_of k) (length s) e ∙ ap₂ (λ x l. x ∷ l) (ap last_of i.1 ∙ c.0.0) i.0,
      backs_more last_of (back_of k) (length s) e ∙ ap (back_of k) i.1 ∙ c.0.1,
    )

clean_append : (k : Bool) (xs ys : List ℕ) (st : Scan) → AllClean k st xs → AllClean k (scan_of st xs) ys → AllClean k st (xs ++ ys)
clean_append k [] ys st a b = b
clean_append k (x ∷ xs) ys st a b = (a.0, clean_append k xs ys (step_of (class_of x) st) a.1 b)

-- a digit more is undone in filled columns, and behind a number that is not zero
abbrev Ahead : Bool → ℕ → Type 0
Ahead true m = Unit {0}
Ahead false m = 0 < m

ahead_more : (k : Bool) (m d : ℕ) → Ahead k m → Ahead k (m * 10 + d)
ahead_more true m d h = tt
ahead_more false m d h = omega arith

last_digit : (m d : ℕ) → d < 10 → 48 + (m * 10 + d) % 10 ≡ 48 + d
last_digit m d h = omega arith

other_digits : (m d : ℕ) → d < 10 → (m * 10 + d) / 10 ≡ m
other_digits m d h = omega arith

back_digit : (k g : Bool) (m d : ℕ) → d < 10 → Ahead k m → back_of k (Digits g (m * 10 + d)) ≡ Digits g m
back_digit true g m d h a = ap (Digits g) (other_digits m d h)
back_digit false g m d h a = rw (le-leb 10 (m * 10 + d) (omega arith)) (ap (Digits g) (other_digits m d h))

clean_digits : (k g : Bool) (m : ℕ) (ds : List ℕ) → AllDigits ds → Ahead k m → AllClean k (Digits g m) (digit_text ds)
clean_digits k g m [] a h = tt
clean_digits k g m (d ∷ ds) a h =
    rw (digit_class d a.0)
    ((last_digit m d a.0, back_digit k g m d a.0 h), clean_digits k g (m * 10 + d) ds a.1 (ahead_more k m d h))

clean_blanks : (n : ℕ) → AllClean false Blanks (replicate n 32)
clean_blanks zero = tt
clean_blanks (suc n) = ((refl, refl), clean_blanks n)

clean_minus : (g : Bool) → AllClean false Blanks (minus_of g)
clean_minus true = ((refl, refl), tt)
clean_minus false = tt

minus_read : (g : Bool) → scan_of Blanks (minus_of g) ≡ begun g
minus_read true = refl
minus_read false = refl

-- the first digit, and those behind it where it is not a needless zero
lean_rest : (g : Bool) (d : ℕ) (ds : List ℕ) → AllDigits ds → Lean (d ∷ ds) → AllClean false (Digits g d) (digit_text ds)
lean_rest g d [] a l = tt
lean_rest g d (e ∷ ds) a l = clean_digits false g d (e ∷ ds) a l

one_digit : (d : ℕ) → d < 10 → 48 + d % 10 ≡ 48 + d
one_digit d h = omega arith

clean_lean : (g : Bool) (ds : List ℕ) → AllDigits ds → Lean ds → AllClean false (begun g) (digit_text ds)
clean_lean g [] a l = absurd l
clean_lean true (d ∷ ds) a l = rw (digit_class d a.0) ((one_digit d a.0, rw (lt-leb 10 d a.0)), lean_rest true d ds a.1 l)
clean_lean false (d ∷ ds) a l = rw (digit_class d a.0) ((one_digit d a.0, rw (lt-leb 10 d a.0)), lean_rest false d ds a.1 l)

-- right-justified without needless zeros: the text of what it reads as
pub lean_text : (k : ℕ) (g : Bool) (ds : List ℕ) (w : ℕ) → AllDigits ds → Lean ds → length (replicate k 32 ++ (minus_of g ++ digit_text ds)) ≡ w
    → replicate k 32 ++ (minus_of g ++ digit_text ds) ≡ text_of false w (Digits g (number_of ds))
lean_text k g ds w a l e =
    let s = replicate k 32 ++ (minus_of g ++ digit_text ds) in
    let m : AllClean false Blanks (minus_of g ++ digit_text ds) = clean_append false (minus_of g) (digit_text ds) Blanks (clean_minus g) (rw (minus_read g) (clean_lean g ds a l)) in
    let c : AllClean false Blanks s = clean_append false (replicate k 32) (minus_of g ++ digit_text ds) Blanks (clean_blanks k) (rw (blanks_read k) m) in
    sym (undone false s Blanks c).0
    ∙ ap₂ (text_of false) e (columns_read k g ds a (lean_some ds l))

-- filled columns: the text of what they read as
pub filled_text : (g : Bool) (m : ℕ) (ds : List ℕ) (k : ℕ) → AllDigits ds → length ds ≡ k → digit_text ds ≡ text_of true k (Digits g (number_from m ds))
filled_text g m ds k a e =
    let l : length (digit_text ds) ≡ k = simp length-map e in
    sym (undone true (digit_text ds) (Digits g m) (clean_digits true g m ds a tt)).0 ∙ ap₂ (text_of true) l (digits_read g m ds a)

-- ---- the number's own sign and size

state_is : (g : Bool) (n : ℕ) (z : ℤ) → z ≡ of_sign g n → (g ≡ true → 0 < n) → ◌≡◌ {A = Scan} (Digits g n) (state_of z)
state_is g n z e h = ap₂ Digits (sym (ap negative e ∙ negative_of g n h)) (sym (ap size_of e ∙ size_of_lem g n))

pub i_unique : (w : ℕ) (s : List ℕ) (z : ℤ) → CanonicalI w s z → s ≡ text_i w z
i_unique w s z c =
    c.text
    ∙ lean_text c.blanks c.sign c.digits w c.each c.lean (sym (ap length c.text) ∙ c.width)
    ∙ ap (text_of false w) (state_is c.sign (number_of c.digits) z c.value c.zero)

with_point : (s a b c d : List ℕ) → s ≡ a ++ (46 ∷ c) → a ≡ b → c ≡ d → s ≡ b ++ (46 ∷ d)
with_point s a b c d e f g = e ∙ ap₂ (λ x y. x ++ (46 ∷ y)) f g

pub f_unique : (w : ℕ) (s : List ℕ) (z : ℤ) → CanonicalF w s z → s ≡ text_f w z
f_unique w s z c =
    let head = replicate c.blanks 32 ++ (minus_of c.sign ++ digit_text c.units) in
    let tail = digit_text c.thousandths in
    let n = number_of (c.units ++ c.thousandths) in
    let e : s ≡ head ++ (46 ∷ tail) = c.text ∙ simp append_assoc in
    let l : length tail ≡ 3 = simp length-map c.three in
    let h : length head ≡ w - 4 = omega (arith, sym (length-append head (46 ∷ tail)) ∙ sym (ap length e) ∙ c.width) in
    let p : n ≡ number_from (number_of c.units) c.thousandths = number_append 0 c.units c.thousandths in
    let q : n / 1000 ≡ number_of c.units =
    ap (λ y. y / 1000) p
    ∙ subst (λ (j : ℕ). number_from (number_of c.units) c.thousandths / 10 ^ j ≡ number_of c.units) c.three (number_div (number_of c.units) c.thousandths c.every) in
    let g : c.sign ≡ negative z = sym (ap negative c.value ∙ negative_of c.sign n c.zero) in
    let k : n ≡ size_of z = sym (ap size_of c.value ∙ size_of_lem c.sign n) in
    let u : head ≡ text_of false (w - 4) (Digits (negative z) (size_of z / 1000)) =
    lean_text c.blanks c.sign c.units (w - 4) c.each c.lean h ∙ ap₂ (λ f m. text_of false (w - 4) (Digits f m)) g (sym q ∙ ap (λ y. y / 1000) k) in
    let v : tail ≡ text_of true 3 (state_of z) = filled_text c.sign (number_of c.units) c.thousandths 3 c.every c.three ∙ ap₂ (λ f m. text_of true 3 (Digits f m)) g (sym p ∙ k) in
    with_point s head (text_of false (w - 4) (Digits (negative z) (size_of z / 1000))) tail (text_of true 3 (state_of z)) e u v

-- ---- what stands before E's point

pub blanks_text : (k : ℕ) → text_of false k Blanks ≡ replicate k 32
blanks_text zero = refl
blanks_text (suc k) = ap (λ (l : List ℕ). l ++ (32 ∷ [])) (blanks_text k) ∙ snoc k
  where
    snoc : (k : ℕ) → ◌≡◌ {A = List ℕ} (replicate k 32 ++ (32 ∷ [])) (replicate (suc k) 32)
    snoc zero = refl
    snoc (suc k) = ap (λ (l : List ℕ). 32 ∷ l) (snoc k)

length_blanks : (k : ℕ) (t : List ℕ) → length (replicate k 32 ++ t) ≡ k + length t
length_blanks k t = length-append (replicate k 32) t ∙ ap (λ n. n + length t) (length-replicate k 32)

lead_minus_lem : (c k : ℕ) (t : Bool) → length (replicate k 32 ++ lead_text (cond t minus minus_nought)) ≡ c
    → replicate k 32 ++ lead_text (cond t minus minus_nought) ≡ text_of false c (cond t Signed (Digits true 0))
lead_minus_lem c k true e =
    let f : suc k ≡ c = omega (arith, sym (length_blanks k (45 ∷ [])) ∙ e) in
    ap (λ (l : List ℕ). l ++ (45 ∷ [])) (sym (blanks_text k)) ∙ ap (λ n. text_of false n Signed) f
lead_minus_lem c k false e =
    let f : suc (suc k) ≡ c = omega (arith, sym (length_blanks k (45 ∷ 48 ∷ [])) ∙ e) in
    sym (append_assoc (replicate k 32) (45 ∷ []) (48 ∷ []))
    ∙ ap (λ (l : List ℕ). (l ++ (45 ∷ [])) ++ (48 ∷ [])) (sym (blanks_text k))
    ∙ ap (λ n. text_of false n (Digits true 0)) f

lead_by : (c : ℕ) (g : Bool) (k : ℕ) → length (replicate k 32 ++ lead_text (due_lead c g)) ≡ c → replicate k 32 ++ lead_text (due_lead c g) ≡ text_of false c (lead_state c g)
lead_by c false k e =
    let f : suc k ≡ c = omega (arith, sym (length_blanks k (48 ∷ [])) ∙ e) in
    ap (λ (l : List ℕ). l ++ (48 ∷ [])) (sym (blanks_text k)) ∙ ap (λ n. text_of false n (Digits false 0)) f
lead_by c true k e = lead_minus_lem c k (eqb c 1) e

pub e_unique : (c d x : ℕ) (s : List ℕ) (m e : ℤ) → CanonicalE c d x s m e → s ≡ text_e c d x m e
e_unique c d x s m e i =
    let f : i.sign ≡ negative m = sym (ap negative i.first ∙ negative_of i.sign (number_of i.digits) i.zero) in
    let h : i.down ≡ negative e = sym (ap negative i.second ∙ negative_of i.down (number_of i.exponent) i.plus) in
    i.text
    ∙ ap₂ (λ a b. a ++ (46 ∷ b))
    (lead_by c i.sign i.blanks i.columns ∙ ap (λ g. text_of false c (lead_state c g)) f)
    (ap₂ (λ a b. a ++ (69 ∷ b))
    (filled_text i.sign 0 i.digits d i.each i.many ∙ ap (text_of true d) (state_is i.sign (number_of i.digits) m i.first i.zero))
    (ap₂ (λ u b. u ∷ b) (ap sign_byte h) (filled_text i.down 0 i.exponent x i.every i.places ∙ ap (text_of true x) (state_is i.down (number_of i.exponent) e i.second i.plus))))
