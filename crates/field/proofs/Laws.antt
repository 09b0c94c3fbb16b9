-- The laws of a field by its kind, and of every form: it reads as R70 to R86 say, what reads fits, and what fits has one canonical text,
-- which is written and reads back.
-- Assumes nothing.
use mathlib.Core.Path.{◌≡◌, refl, sym, ap, ◌∙◌, subst}
use mathlib.Core.Bool.{Bool, true, false, cond}
use mathlib.Core.List.{List, [], ◌∷◌, map}
use mathlib.Core.Logic.{◌↔◌}
use Prim.Native.Nat.{ℕ, zero, suc, ◌+◌, ◌-◌, ◌^◌}
use native.Mathlib.Omega.{arith}
use borrow.Author.Tests.{eq-eqb, eqb-true}
use lib.Dec.{T, leb, eqb, lit<}
use lib.IntN.{ℤ, pos}
use lib.ListN.{length, get_or, length-map}
use Rattle.base.specs.Ascii.{printable}
use Rattle.base.specs.Every.{every}
use Rattle.base.specs.Part.{part}
use Rattle.base.specs.Sign.{holds, size_of}
use Rattle.base.proofs.Choice.{cond_elim, and_left, and_right, and_both, true_T, T_true}
use Rattle.base.proofs.Ascii.{printable_without}
use Rattle.form.specs.declared.Form.{Form}
use Rattle.form.specs.Table.{row_of}
use Rattle.number.specs.declared.Scan.{Scan}
use Rattle.number.specs.declared.Scan.TheVariants.{Blanks, Signed, Digits, Broken}
use Rattle.number.specs.declared.Number.{Number}
use Rattle.number.specs.declared.Number.TheVariants.{One as OneNumber, Two as TwoNumbers, Misformed as NoNumber}
use Rattle.number.specs.Scan.{scan_of}
use Rattle.number.specs.Read.{one_of, point_of, lead_of, sign_of, pair_of, read_i, read_f, read_e}
use Rattle.number.specs.Grammar.{IsI, IsF, IsE}
use Rattle.number.specs.Canonical.{CanonicalI, CanonicalF, CanonicalE}
use Rattle.number.proofs.Grammar.{i_read, read_i_lem}
use Rattle.number.proofs.GrammarF.{f_read, read_f_lem}
use Rattle.number.proofs.GrammarE.{e_read, read_e_lem}
use Rattle.number.proofs.Unique.{i_unique, f_unique, e_unique}
use Rattle.number.proofs.Fits.{i_canonical, i_within, f_canonical, f_within, e_canonical, e_within}
use Rattle.number.proofs.Text.{i_length, f_length, e_length, i_printable, f_printable, e_printable, i_prints, f_prints, e_prints, canonical_i, canonical_f, canonical_e}
use Rattle.field.specs.declared.Kind.{Kind}
use Rattle.field.specs.declared.Kind.TheVariants.{Whole, Fixed, Power, OneLetter, AllLetters}
use Rattle.field.specs.declared.Value.{Value}
use Rattle.field.specs.declared.Value.TheVariants.{Cell, Letters as LetterBytes, Misformed}
use Rattle.field.specs.Kind.{kind_of, width_of, kind_cells, Tens}
use Rattle.field.specs.Grammar.{One, Two, IsA, ShapeOf, IsField, SomeField}
use Rattle.field.specs.Canonical.{CanonicalAs, IsCanonical}
use Rattle.field.specs.Read.{value_of, read_as, field_of, value_cells, formed, ReadsAs}
use Rattle.field.specs.Write.{cell_at, is_letter, range_of, fits_of, text_as, field_text}
use Rattle.field.specs.Law.{Lawful}
use Rattle.field.proofs.Forms.{kind_width, kind_cells_lem, kind_tens}
use Rattle.field.proofs.Fitting.{fits_sized, fits_counted, fits_range, range_fits}
use Rattle.field.proofs.Letters.{printable_letters, letters_printable, bytes_cells, cells_bytes, cells_back, bytes_back}

-- ---- I and F give one number, E two

abbrev NotTwo : Number → Type 0
NotTwo (OneNumber z) = Unit {0}
NotTwo (TwoNumbers a b) = ⊥
NotTwo NoNumber = Unit {0}

abbrev NotOne : Number → Type 0
NotOne (OneNumber z) = ⊥
NotOne (TwoNumbers a b) = Unit {0}
NotOne NoNumber = Unit {0}

one_number : (st : Scan) → NotTwo (one_of st)
one_number Blanks = tt
one_number Signed = tt
one_number (Digits g n) = tt
one_number Broken = tt

two_numbers : (a b : Number) → NotOne (pair_of a b)
two_numbers (OneNumber a) (OneNumber b) = tt
two_numbers (OneNumber a) (TwoNumbers b c) = tt
two_numbers (OneNumber a) NoNumber = tt
two_numbers (TwoNumbers a c) b = tt
two_numbers NoNumber b = tt

f_one : (s : List ℕ) → NotTwo (read_f s)
f_one s =
    let head = point_of (scan_of Blanks (part 0 (length s - 4) s)) in
    cond_elim NotTwo (leb 4 (length s))
    (λ _. cond_elim NotTwo (eqb (get_or s (length s - 4) 0) 46) (λ _. one_number (scan_of head (part (length s - 3) (length s) s))) (λ _. tt))
    (λ _. tt)

e_two : (c d x : ℕ) (s : List ℕ) → NotOne (read_e c d x s)
e_two c d x s =
    let a = one_of (scan_of (lead_of (scan_of Blanks (part 0 (c - 1) s)) (get_or s (c - 1) 0)) (part (c + 1) (c + 1 + d) s)) in
    let b = one_of (scan_of (sign_of (get_or s (c + 2 + d) 0)) (part (c + 3 + d) (length s) s)) in
    cond_elim NotOne (eqb (length s) (c + d + x + 3))
    (λ _. cond_elim NotOne (eqb (get_or s c 0) 46) (λ _. cond_elim NotOne (eqb (get_or s (c + 1 + d) 0) 69) (λ _. two_numbers a b) (λ _. tt)) (λ _. tt))
    (λ _. tt)

-- ---- reading

-- a value is good, and its cells are these
abbrev Gives : List ℕ → Value → List ℤ → Type 0
Gives s v cs = T (formed v) × (value_cells s v ≡ cs)

gives_one : (P : ℤ → Type 0) (s : List ℕ) (cs : List ℤ) (n : Number) → NotTwo n → ((z : ℤ) → n ≡ OneNumber z → P z) → Gives s (value_of n) cs → One P cs
gives_one P s cs (OneNumber z) t h g = record { cell = z; cells = sym g.1; holds = h z refl }
gives_one P s cs (TwoNumbers a b) t h g = absurd t
gives_one P s cs NoNumber t h g = absurd g.0

gives_two : (P : ℤ → ℤ → Type 0) (s : List ℕ) (cs : List ℤ) (n : Number) → NotOne n → ((a b : ℤ) → n ≡ TwoNumbers a b → P a b) → Gives s (value_of n) cs → Two P cs
gives_two P s cs (OneNumber z) t h g = absurd t
gives_two P s cs (TwoNumbers a b) t h g = record { first = a; second = b; cells = sym g.1; holds = h a b refl }
gives_two P s cs NoNumber t h g = absurd g.0

gives_letters : (s : List ℕ) (cs : List ℤ) (v : Value) (t : Bool) → every printable s ≡ t → value_cells s v ≡ map pos s → Gives s (cond t v Misformed) cs → IsA s cs
gives_letters s cs v true e f g = record { letters = printable_letters s (true_T (every printable s) e); cells = sym g.1 ∙ f }
gives_letters s cs v false e f g = absurd g.0

one_byte : (s : List ℕ) → length s ≡ 1 → pos (get_or s 0 0) ∷ [] ≡ map pos s
one_byte [] e = absurd (omega arith)
one_byte (b ∷ []) e = refl
one_byte (b ∷ c ∷ s) e = absurd (omega arith)

gives_shape : (k : Kind) → Tens k → (s : List ℕ) (cs : List ℤ) → length s ≡ width_of k → Gives s (read_as k s) cs → ShapeOf k s cs
gives_shape (Whole w low high) t s cs l g = gives_one (IsI s) s cs (read_i s) (one_number (scan_of Blanks s)) (λ z e. read_i_lem s z e) g
gives_shape (Fixed w low high) t s cs l g = gives_one (IsF s) s cs (read_f s) (f_one s) (λ z e. read_f_lem s z e) g
gives_shape (Power c d x p q) t s cs l g = gives_two (IsE c d x s) s cs (read_e c d x s) (e_two c d x s) (λ a b e. read_e_lem c d x s a b t.0 e) g
gives_shape OneLetter t s cs l g = gives_letters s cs (Cell (pos (get_or s 0 0))) (every printable s) refl (one_byte s l) g
gives_shape (AllLetters w) t s cs l g = gives_letters s cs LetterBytes (every printable s) refl refl g

shape_gives : (k : Kind) (s : List ℕ) (cs : List ℤ) → length s ≡ width_of k → ShapeOf k s cs → Gives s (read_as k s) cs
shape_gives (Whole w low high) s cs l h = rw (i_read s h.cell h.holds) (tt, sym h.cells)
shape_gives (Fixed w low high) s cs l h = rw (f_read s h.cell h.holds) (tt, sym h.cells)
shape_gives (Power c d x p q) s cs l h = rw (e_read c d x s h.first h.second h.holds) (tt, sym h.cells)
shape_gives OneLetter s cs l h = rw (T_true (every printable s) (letters_printable s h.letters)) (tt, one_byte s l ∙ sym h.cells)
shape_gives (AllLetters w) s cs l h = rw (T_true (every printable s) (letters_printable s h.letters)) (tt, sym h.cells)

-- ---- which cells have a field

less : (k : ℕ) → suc k - 1 ≡ k
less k = omega arith

whole_within : (w low high : ℕ) → Tens (Whole w low high) → (s : List ℕ) (z : ℤ) → length s ≡ w → IsI s z → T (holds low high z)
whole_within zero low high t s z l i = absurd (omega (arith, t.0))
whole_within (suc k) low high t s z l i = i_within k low high (t.1 ∙ ap (λ n. 10 ^ n) (less k)) t.2 s z l i

fixed_within : (w low high : ℕ) → Tens (Fixed w low high) → (s : List ℕ) (z : ℤ) → length s ≡ w → IsF s z → T (holds low high z)
fixed_within w low high t s z l i =
    let a : w - 2 ≡ w - 6 + 4 = omega (arith, t.0) in
    let b : w - 1 ≡ w - 6 + 5 = omega (arith, t.0) in
    f_within (w - 6) low high (t.1 ∙ ap (λ n. 10 ^ n) a) (t.2 ∙ ap (λ n. 10 ^ n) b) s z (l ∙ omega (arith, t.0)) i

power_within : {s : List ℕ} {m e : ℤ} (c d x p q : ℕ) → Tens (Power c d x p q) → IsE c d x s m e → T (holds p p m) × T (holds q q e)
power_within zero d x p q t i = absurd (omega (arith, t.0))
power_within {s = s} {m = m} {e = e} (suc c) d x p q t i = e_within c d x p q t.1 t.2 s m e i

-- as many cells as the kind has, in its range
abbrev Within : Kind → List ℤ → Type 0
Within k cs = (length cs ≡ kind_cells k) × T (range_of k cs)

letters_within : (s : List ℕ) (cs : List ℤ) → IsA s cs → (length cs ≡ length s) × T (every is_letter cs)
letters_within s cs h =
    let n : length (map pos s) ≡ length s = simp length-map in
    (ap length h.cells ∙ n, rw h.cells (bytes_cells s (letters_printable s h.letters)))

shape_within : (k : Kind) → Tens k → (s : List ℕ) (cs : List ℤ) → length s ≡ width_of k → ShapeOf k s cs → Within k cs
shape_within (Whole w low high) t s cs l h = rw h.cells (refl, whole_within w low high t s h.cell l h.holds)
shape_within (Fixed w low high) t s cs l h = rw h.cells (refl, fixed_within w low high t s h.cell l h.holds)
shape_within (Power c d x p q) t s cs l h =
    let r = power_within c d x p q t h.holds in
    rw h.cells (refl, and_both (holds p p h.first) (holds q q h.second) r.0 r.1)
shape_within OneLetter t s cs l h = let r = letters_within s cs h in (r.0 ∙ l, r.1)
shape_within (AllLetters w) t s cs l h = let r = letters_within s cs h in (r.0 ∙ l, r.1)

-- ---- canonical text

one_cell : (cs : List ℤ) → length cs ≡ 1 → cs ≡ cell_at cs 0 ∷ []
one_cell [] e = absurd (omega arith)
one_cell (z ∷ []) e = refl
one_cell (z ∷ y ∷ cs) e = absurd (omega arith)

two_cells : (cs : List ℤ) → length cs ≡ 2 → cs ≡ cell_at cs 0 ∷ cell_at cs 1 ∷ []
two_cells [] e = absurd (omega arith)
two_cells (z ∷ []) e = absurd (omega arith)
two_cells (z ∷ y ∷ []) e = refl
two_cells (z ∷ y ∷ x ∷ cs) e = absurd (omega arith)

whole_canonical : (w low high : ℕ) → Tens (Whole w low high) → (z : ℤ) → T (holds low high z) → CanonicalI w (text_as (Whole w low high) (z ∷ [])) z
whole_canonical zero low high t z h = absurd (omega (arith, t.0))
whole_canonical (suc k) low high t z h = i_canonical k low high (t.1 ∙ ap (λ n. 10 ^ n) (less k)) t.2 z h

fixed_canonical : (w low high : ℕ) → Tens (Fixed w low high) → (z : ℤ) → T (holds low high z) → CanonicalF w (text_as (Fixed w low high) (z ∷ [])) z
fixed_canonical w low high t z h =
    let a : w - 2 ≡ w - 6 + 4 = omega (arith, t.0) in
    let b : w - 1 ≡ w - 6 + 5 = omega (arith, t.0) in
    let e : w - 6 + 6 ≡ w = omega (arith, t.0) in
    subst (λ (n : ℕ). CanonicalF n (text_as (Fixed n low high) (z ∷ [])) z) e (f_canonical (w - 6) low high (t.1 ∙ ap (λ n. 10 ^ n) a) (t.2 ∙ ap (λ n. 10 ^ n) b) z h)

power_canonical : {m e : ℤ} (c d x p q : ℕ) → Tens (Power c d x p q) → T (holds p p m) → T (holds q q e) → CanonicalE c d x (text_as (Power c d x p q) (m ∷ e ∷ [])) m e
power_canonical zero d x p q t g h = absurd (omega (arith, t.0))
power_canonical {m = m} {e = e} (suc c) d x p q t g h = e_canonical c d x p q t.1 t.2 m e g h

letters_canonical : (cs : List ℤ) → T (every is_letter cs) → IsA (map size_of cs) cs
letters_canonical cs t = record { letters = printable_letters (map size_of cs) (cells_bytes cs t); cells = sym (cells_back cs t) }

within_canonical : (k : Kind) → Tens k → (cs : List ℤ) → Within k cs → CanonicalAs k (text_as k cs) cs
within_canonical (Whole w low high) t cs h = record { cell = cell_at cs 0; cells = one_cell cs h.0; holds = whole_canonical w low high t (cell_at cs 0) h.1 }
within_canonical (Fixed w low high) t cs h = record { cell = cell_at cs 0; cells = one_cell cs h.0; holds = fixed_canonical w low high t (cell_at cs 0) h.1 }
within_canonical (Power c d x p q) t cs h =
    let a = cell_at cs 0 in
    let b = cell_at cs 1 in
    record {
      first = a;
      second = b;
      cells = two_cells cs h.0;
      holds = power_canonical {m = a} {e = b} c d x p q t (and_left (holds p p a) (holds q q b) h.1) (and_right (holds p p a) (holds q q b) h.1);
    }
within_canonical OneLetter t cs h = letters_canonical cs h.1
within_canonical (AllLetters w) t cs h = letters_canonical cs h.1

canonical_shape : (k : Kind) (s : List ℕ) (cs : List ℤ) → CanonicalAs k s cs → ShapeOf k s cs
canonical_shape (Whole w low high) s cs h = record { cell = h.cell; cells = h.cells; holds = canonical_i w s h.cell h.holds }
canonical_shape (Fixed w low high) s cs h = record { cell = h.cell; cells = h.cells; holds = canonical_f w s h.cell h.holds }
canonical_shape (Power c d x p q) s cs h =
    record { first = h.first; second = h.second; cells = h.cells; holds = canonical_e c d x s h.first h.second h.holds }
canonical_shape OneLetter s cs h = h
canonical_shape (AllLetters w) s cs h = h

canonical_one : (k : Kind) (s : List ℕ) (cs : List ℤ) → CanonicalAs k s cs → s ≡ text_as k cs
canonical_one (Whole w low high) s cs h = rw h.cells (i_unique w s h.cell h.holds)
canonical_one (Fixed w low high) s cs h = rw h.cells (f_unique w s h.cell h.holds)
canonical_one (Power c d x p q) s cs h = rw h.cells (e_unique c d x s h.first h.second h.holds)
canonical_one OneLetter s cs h = rw h.cells (sym (bytes_back s))
canonical_one (AllLetters w) s cs h = rw h.cells (sym (bytes_back s))

-- ---- the written text's length and bytes

letters_length : (cs : List ℤ) → length (map size_of cs) ≡ length cs
letters_length cs = simp length-map

text_length : (k : Kind) → Tens k → (cs : List ℤ) → length cs ≡ kind_cells k → length (text_as k cs) ≡ width_of k
text_length (Whole w low high) t cs h = i_length w (cell_at cs 0)
text_length (Fixed w low high) t cs h = f_length w (cell_at cs 0) (omega (arith, t.0))
text_length (Power c d x p q) t cs h = e_length c d x (cell_at cs 0) (cell_at cs 1)
text_length OneLetter t cs h = letters_length cs ∙ h
text_length (AllLetters w) t cs h = letters_length cs ∙ h

text_plain : (k : Kind) (cs : List ℤ) → T (range_of k cs) → T (every printable (text_as k cs))
text_plain (Whole w low high) cs h = i_printable w (cell_at cs 0)
text_plain (Fixed w low high) cs h = f_printable w (cell_at cs 0)
text_plain (Power c d x p q) cs h = e_printable c d x (cell_at cs 0) (cell_at cs 1)
text_plain OneLetter cs h = cells_bytes cs h
text_plain (AllLetters w) cs h = cells_bytes cs h

-- ---- each byte of what reads prints

shape_prints : (k : Kind) (s : List ℕ) (cs : List ℤ) → ShapeOf k s cs → T (every printable s)
shape_prints (Whole w low high) s cs h = i_prints s h.cell h.holds
shape_prints (Fixed w low high) s cs h = f_prints s h.cell h.holds
shape_prints (Power c d x p q) s cs h = e_prints c d x s h.first h.second h.holds
shape_prints OneLetter s cs h = letters_printable s h.letters
shape_prints (AllLetters w) s cs h = letters_printable s h.letters

-- ---- of every form

pub good_width : (f : Form) (s : List ℕ) → T (formed (field_of f s)) → length s ≡ (row_of f).width
unfolding field_of
good_width f s t = by (eqb (length s) (row_of f).width) refl t
  where
    by : (b : Bool) → eqb (length s) (row_of f).width ≡ b → T (formed (cond b (read_as (kind_of f) s) Misformed)) → length s ≡ (row_of f).width
    by true e t = eqb-true (length s) (row_of f).width e
    by false e t = absurd t

-- a part of the form's width reads as its kind says
pub field_as : (f : Form) (s : List ℕ) → length s ≡ (row_of f).width → field_of f s ≡ read_as (kind_of f) s
unfolding field_of
field_as f s e = rw (eq-eqb (length s) (row_of f).width e)

module _ (f : Form) where
  reads_is : (s : List ℕ) (cs : List ℤ) → ReadsAs f s cs → IsField f s cs
  reads_is s cs r =
      let w = good_width f s r.good in
      let e = field_as f s w in
      record { width = w; shape = gives_shape (kind_of f) (kind_tens f) s cs (w ∙ sym (kind_width f)) (rw e at r.good, rw e at r.cells) }

  is_reads : (s : List ℕ) (cs : List ℤ) → IsField f s cs → ReadsAs f s cs
  is_reads s cs i =
      let e = field_as f s i.width in
      let g = shape_gives (kind_of f) s cs (i.width ∙ sym (kind_width f)) i.shape in
      record { good = rw e g.0; cells = rw e g.1 }

  fitting : (s : List ℕ) (cs : List ℤ) → ReadsAs f s cs → T (fits_of f cs)
  fitting s cs r =
      let i = reads_is s cs r in
      let h = shape_within (kind_of f) (kind_tens f) s cs (i.width ∙ sym (kind_width f)) i.shape in
      range_fits f cs (h.0 ∙ kind_cells_lem f) h.1

  wide : (cs : List ℤ) → T (fits_of f cs) → length (field_text f cs) ≡ (row_of f).width
  unfolding field_text
  wide cs t = text_length (kind_of f) (kind_tens f) cs (fits_counted f cs t) ∙ kind_width f

  canonical : (cs : List ℤ) → T (fits_of f cs) → IsCanonical f (field_text f cs) cs
  unfolding field_text
  canonical cs t = record { width = wide cs t; shape = within_canonical (kind_of f) (kind_tens f) cs (fits_counted f cs t, fits_range f cs t) }

  one : (s : List ℕ) (cs : List ℤ) → IsCanonical f s cs → s ≡ field_text f cs
  unfolding field_text
  one s cs c = canonical_one (kind_of f) s cs c.shape

  plain : (cs : List ℤ) → T (fits_of f cs) → T (every printable (field_text f cs))
  unfolding field_text
  plain cs t = text_plain (kind_of f) cs (fits_range f cs t)

  -- a canonical text is a field
  pub canonical_is : (s : List ℕ) (cs : List ℤ) → IsCanonical f s cs → IsField f s cs
  canonical_is s cs c = record { width = c.width; shape = canonical_shape (kind_of f) s cs c.shape }

  back : (cs : List ℤ) → T (fits_of f cs) → ReadsAs f (field_text f cs) cs
  back cs t = is_reads (field_text f cs) cs (canonical_is (field_text f cs) cs (canonical cs t))

  pub good_prints : (s : List ℕ) → T (formed (field_of f s)) → T (every printable s)
  good_prints s t = shape_prints (kind_of f) s (value_cells s (field_of f s)) (reads_is s (value_cells s (field_of f s)) record { good = t; cells = refl }).shape

pub lawful : (f : Form) → Lawful f
lawful f =
    record {
      reads_is = reads_is f;
      is_reads = is_reads f;
      fitting = fitting f;
      sized = fits_sized f;
      back = back f;
      wide = wide f;
      plain = plain f;
      unbroken = λ cs t. printable_without 10 (field_text f cs) (lit< tt) (plain f cs t);
      canonical = canonical f;
      one = one f;
      again = λ s cs c. is_reads f s cs (canonical_is f s cs c);
    }

-- a field is formed exactly if the grammar has some cells for it
pub some_field : (f : Form) (s : List ℕ) → T (formed (field_of f s)) ↔ SomeField f s
some_field f s = (
  λ t. record { cells = value_cells s (field_of f s); is = (lawful f).reads_is s (value_cells s (field_of f s)) record { good = t; cells = refl } },
  λ h. ((lawful f).is_reads s h.cells h.is).good,
)
