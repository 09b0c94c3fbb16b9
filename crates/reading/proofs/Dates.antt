-- The date of group 3: its letters' first 19 decide it, and these are the first bytes of its first line.
-- Assumes nothing.
use Rattle.std.specs.Prelude.{Some, None, Result, Ok, Err}
use Rattle.std.specs.Result.{result_ok}
use mathlib.Core.Path.{◌≡◌, refl, sym, ◌∙◌, ap, ap₂, subst}
use mathlib.Core.Bool.{false}
use mathlib.Core.List.{List, [], ◌∷◌, ◌++◌, map}
use Prim.Native.Nat.{ℕ, zero, suc, ◌+◌, ◌-◌, ◌*◌, ◌≤◌, min}
use native.Mathlib.Nat.{zero-mul, sub-zero, mul-one}
use native.Mathlib.Omega.{arith}
use borrow.Author.Tests.{le-leb, ne_eqb}
use lib.IntN.{ℤ, pos}
use lib.ListN.{length, take, drop, length-take, length-append}
use lib.Seq.{take_at, length-take-le}
use Rattle.rules.specs.declared.Rules.{Rules}
use Rattle.base.specs.Every
use Rattle.base.specs.Every.{up_from}
use Rattle.base.specs.Part.{part}
use Rattle.base.specs.Pieces
use Rattle.base.specs.Pieces.{done, bad, cells_got}
use Rattle.base.specs.Sign.{size_of}
use Rattle.base.proofs.Pieces.{BothDone, both_done}
use Rattle.base.proofs.Taken.{drop_none, take_none, drop_take, take_both, part_begin}
use Rattle.form.specs.declared.Form.TheVariants.{A1}
use Rattle.form.specs.declared.Form.{Form}
use Rattle.form.specs.Table
use Rattle.form.specs.Table.{row_of, form_of}
use Rattle.form.specs.Count
use Rattle.form.specs.Count.{elements_of, lines_of, rounded_up}
use Rattle.form.proofs.Rounding.{quotient}
use Rattle.form.proofs.Segments.{letters_elements}
use Rattle.field.proofs.Letters.{bytes_back}
use Rattle.line.specs.Lines.{reach}
use Rattle.line.proofs.Contents.{content_two}
use Rattle.line.proofs.Reach.{reach_le}
use Rattle.date.specs.Digits
use Rattle.date.specs.Digits.{field_digits, bytes_at}
use Rattle.date.specs.Date
use Rattle.date.specs.Date.{dated_of, year, day_in_year, month, day, hour, minute, second}
use Rattle.date.specs.declared.DigitField.{DigitField}
use Rattle.reading.specs.Blanks.{may_be_short, filled_to}
use Rattle.reading.specs.Plan.{Line, line_at, plan_from, plan_of}
use Rattle.reply.specs.declared.Refusal.{Refusal}
use Rattle.reading.specs.Read.{Cells, read_field, read_fields, columns_of, read_line, read_lines_of, read_lines, verdict_of, dated, by_date, date_verdict, letters_dated, record_dated, date_told}
use Rattle.reading.proofs.Blanks.{filled_enough, right_low}
use Rattle.reading.proofs.Letters.{letter_byte}
use Rattle.reading.proofs.Checking.{lines_more}
use Rattle.reading.proofs.Sizes.{clean_read, field_done, line_done}
use Rattle.date.specs.declared.Date.{Date}

-- ---- only the beginning matters, as far as the fields go

module _ (s : List ℕ) (k : ℕ) (long : 19 ≤ length s) (enough : 19 ≤ k) where
  digits_take : (f : DigitField) → f.first - 1 + f.length ≤ 19 → field_digits f (take k s) ≡ field_digits f s
  unfolding Digits.field_digits
  digits_take f h =
      let a = f.first - 1 in
      let e = f.first - 1 + f.length in
      let m : min (e - a) (k - a) ≡ e - a = omega arith in
      let b : bytes_at f (take k s) ≡ bytes_at f s = ap (take (e - a)) (drop_take a k s) ∙ take_both (e - a) (k - a) (drop a s) ∙ rw m in
      rw (le-leb e (length (take k s)) (omega (arith, length-take k s)), le-leb e (length s) (omega arith), b)

  pub dated_take : dated_of (take k s) ≡ dated_of s
  unfolding Date.dated_of Date.first_blamed
  dated_take =
      rw (
        digits_take year (omega arith),
        digits_take day_in_year (omega arith),
        digits_take month (omega arith),
        digits_take day (omega arith),
        digits_take hour
            (omega arith),
        digits_take minute (omega arith),
        digits_take second (omega arith),
      )

-- ---- letters read as their bytes

letters_bytes : (number e k : ℕ) (s : List ℕ) (cs : List ℤ) → read_fields A1 (record { number = number; first = e; many = k }) s ≡ done cs → cs ≡ map pos (take k s)
unfolding read_fields Pieces.gather Every.up_from Table.row_of Table.listed_as
letters_bytes number e zero s cs h =
    let z : cs ≡ [] = cc in
    z ∙ ap (map pos) (sym (take_none s))
letters_bytes number e (suc k) s cs h =
    let d = both_done (read_field A1 number e (take 1 s)) (read_fields A1 (record { number = number; first = suc e; many = k }) (drop 1 s)) cs h in
    let r = letter_byte (take 1 s) d.first (field_done A1 number e (take 1 s) d.first d.first_is) in
    d.all ∙ ap (λ y. y ++ d.second) r.1 ∙ ap (λ y. map pos (take 1 s) ++ y) (letters_bytes number (suc e) k (drop 1 s) d.second d.second_is) ∙ join s r.0
  where
    join : (s : List ℕ) → length (take 1 s) ≡ 1 → map pos (take 1 s) ++ map pos (take k (drop 1 s)) ≡ map pos (take (suc k) s)
    join [] l = absurd (omega arith)
    join (b ∷ s) l = refl

-- ---- the first line of group 3

map_append : {A B : Type 0} (f : A → B) (a b : List A) → map f (a ++ b) ≡ map f a ++ map f b
map_append f [] b = refl
map_append f (x ∷ a) b = ap (λ l. f x ∷ l) (map_append f a b)

-- A1 has 120 elements of one column to a line
letters_row : ((row_of A1).per_line ≡ 120) × ((row_of A1).width ≡ 1)
unfolding Table.row_of Table.listed_as
letters_row = (refl, refl)

-- the first k letters are the first k bytes
pub record FirstLetters (k : ℕ) (x letters : List ℕ) : Type 0 where
  pub inside : k ≤ length x
  pub many : k ≤ length letters
  pub same : take k letters ≡ take k x

module _ (ρ : Rules) (count : ℕ) (x : List ℕ) (cs : List ℤ) (h : read_lines ρ A1 false count x ≡ done cs) (enough : 19 ≤ count) (k : ℕ)
    (q : k ≡ min (row_of A1).per_line (elements_of ρ A1 count)) where
  p : ℕ
  p = (row_of A1).per_line

  n : ℕ
  n = elements_of ρ A1 count

  line_one : Line
  line_one = line_at p n 0

  first_line : (l : Line) (y : List ℕ) (first : List ℤ) (end : ℕ) → l.many ≡ k → y ≡ part 0 end x → end ≤ length x → read_line ρ A1 false l y ≡ done first
      → (k ≤ length x) × (first ≡ map pos (take k x))
  first_line l y first end u v inside r =
      let d = line_done ρ A1 false l y first r in
      let b = d.bytes in
      let cols : columns_of A1 l ≡ k = ap (λ w. l.many * w) letters_row.1 ∙ mul-one l.many ∙ u in
      let low : k ≤ length (part 0 b y) = subst (λ m. m ≤ length (part 0 b y)) cols (right_low false (columns_of A1 l) (part 0 b y) d.right) in
      let two = content_two ρ y b d.content in
      let long : length y ≤ end - 0 = omega (arith, ap length v, length-take (end - 0) (drop 0 x)) in
      let content : part 0 b y ≡ take b x = ap (part 0 b) v ∙ part_begin 0 end b x (omega arith) ∙ ap (take b) (drop_none x) in
      let fits : k ≤ b = omega (arith, low, ap length content, length-take b x) in
      let m : min k b ≡ k = omega arith in
      let text : filled_to (columns_of A1 l) (part 0 b y) ≡ part 0 b y = filled_enough (columns_of A1 l) (part 0 b y) (omega arith) in
      let fields : read_fields A1 (record { number = l.number; first = l.first; many = l.many }) (part 0 b y) ≡ done first = ap (read_fields A1 l) (sym text) ∙ d.fields in (
        omega (arith, low, ap length content, length-take b x),
        letters_bytes l.number l.first l.many (part 0 b y) first fields
            ∙ ap (map pos) (ap (take l.many) content ∙ ap (λ i. take i (take b x)) u ∙ take_both k b x ∙ ap (λ i. take i x) m),
      )

  pub first_letters : FirstLetters k x (map size_of cs)
  unfolding p n line_one read_lines plan_of Count.lines_of
  first_letters =
      by (both_done (read_line ρ A1 false line_one (part 0 end x)) (read_lines_of ρ A1 false (plan_from p n 1 (rounded_up n p - 1)) (drop end x)) cs
      (sym (lines_more ρ A1 false x p n 0 (rounded_up n p - 1) 0 end refl) ∙ some))
    where
      end : ℕ
      end = 0 + reach (drop 0 x) 1

      lines_some : rounded_up n p ≡ suc (rounded_up n p - 1)
      lines_some = omega (arith, quotient n p (omega (arith, letters_row.0)) (omega (arith, letters_elements ρ count)))

      some : read_lines_of ρ A1 false (plan_from p n 0 (suc (rounded_up n p - 1))) (drop 0 x) ≡ done cs
      some = ap (λ i. read_lines_of ρ A1 false (plan_from p n 0 i) (drop 0 x)) (sym lines_some) ∙ ap (λ y. read_lines_of ρ A1 false (plan_from p n 0 (rounded_up n p)) y) (drop_none x) ∙ h

      many_is : line_one.many ≡ k
      many_is = omega (arith, zero-mul p)

      by : BothDone (read_line ρ A1 false line_one (part 0 end x)) (read_lines_of ρ A1 false (plan_from p n 1 (rounded_up n p - 1)) (drop end x)) cs → FirstLetters k x (map size_of cs)
      by d =
          let r = first_line line_one (part 0 end x) d.first end many_is refl (omega (arith, reach_le (drop 0 x) 1, ap length (drop_none x))) d.first_is in
          let letters : map size_of cs ≡ take k x ++ map size_of d.second =
          ap (map size_of) (d.all ∙ ap (λ y. y ++ d.second) r.1) ∙ map_append size_of (map pos (take k x)) d.second ∙ ap (λ y. y ++ map size_of d.second) (bytes_back (take k x)) in
          let l : length (take k x) ≡ k = length-take-le k x r.0 in
          record {
            inside = r.0;
            many = omega (arith, ap length letters, length-append (take k x) (map size_of d.second));
            same = ap (take k) letters ∙ take_at (take k x) (map size_of d.second) k l;
          }

-- ---- the date

module _ (ρ : Rules) (count : ℕ) (x : List ℕ) (v : verdict_of (read_lines ρ A1 false count x) ≡ Ok tt) (enough : 19 ≤ count) (k : ℕ) (q : k ≡ min (row_of A1).per_line (elements_of ρ A1 count)) where
  letters_first : FirstLetters k x (map size_of (clean_read (read_lines ρ A1 false count x) v).cells)
  letters_first = let r = clean_read (read_lines ρ A1 false count x) v in first_letters ρ count x r.cells r.is enough k q

  pub letters_inside : k ≤ length x
  letters_inside = letters_first.inside

  pub line_dated : dated_of (part 0 k x) ≡ letters_dated (cells_got (read_lines ρ A1 false count x))
  line_dated =
      let r = clean_read (read_lines ρ A1 false count x) v in
      let b = letters_first in
      let long : 19 ≤ k = omega (arith, letters_row.0, letters_elements ρ count) in
      sym (ap dated_of (b.same ∙ ap (take k) (sym (drop_none x)) ∙ ap (λ i. take i (drop 0 x)) (sym (sub-zero k))))
      ∙ dated_take (map size_of r.cells) k (omega (arith, b.many)) long
      ∙ ap (λ c. letters_dated (cells_got c)) (sym r.is)

module _ (c : Cells) where
  -- clean lines: the letters decide
  module _ (v : verdict_of c ≡ Ok tt) {d : Result Date ℕ} (e : letters_dated (cells_got c) ≡ d) where
    same : letters_dated (clean_read c v).cells ≡ d
    same = ap (λ g. letters_dated (cells_got g)) (sym (clean_read c v).is) ∙ e

    pub date_verdict_lem : date_verdict d ≡ verdict_of (dated 3 c)
    date_verdict_lem =
        let r = clean_read c v in
        sym (ap (λ g. verdict_of (dated 3 g)) r.is ∙ verdict r.cells (letters_dated r.cells) ∙ ap date_verdict same)
      where
        verdict : (cs : List ℤ) (d : Result Date ℕ) → verdict_of (by_date cs d) ≡ date_verdict d
        verdict cs (Ok y) = refl
        verdict cs (Err y) = refl

    pub told_clean : date_told c ≡ record_dated d
    told_clean = ap date_told (clean_read c v).is ∙ ap record_dated same

-- whether lines are clean, as the code asks for it
pub told_refused : (c : Cells) → result_ok (verdict_of c) ≡ None → date_told c ≡ None
told_refused (done cs) e = let z : ◌≡◌ {A = ℕ} 0 1 = cc in absurd (omega arith)
told_refused (bad q) e = refl

pub told_lines : (c : Cells) {u : Unit {0}} → result_ok (verdict_of c) ≡ Some u → verdict_of c ≡ Ok tt
told_lines (done cs) e = refl
told_lines (bad q) e = let z : ◌≡◌ {A = ℕ} 0 1 = cc in absurd (omega arith)

-- letters that tell no date are refused, and so tell none either way
pub told_dated : (c : Cells) → date_told (dated 3 c) ≡ date_told c
told_dated (bad r) = refl
told_dated (done cs) = by (letters_dated cs) refl
  where
    by : (d : Result Date ℕ) → letters_dated cs ≡ d → date_told (by_date cs d) ≡ record_dated d
    by (Ok d) e = ap record_dated e
    by (Err p) e = refl

-- ---- the whole check

pub clean_date : (g : ℕ) (c : Cells) → (g ≡ 3 → ⊥) → verdict_of c ≡ Ok tt → Ok tt ≡ verdict_of (dated g c)
clean_date g (done cs) n e = rw (ne_eqb g 3 n)
clean_date g (bad r) n e = sym e

pub bad_date : (g : ℕ) (c : Cells) {r : Refusal} → verdict_of c ≡ Err r → Err r ≡ verdict_of (dated g c)
bad_date g (done cs) e = let z : ◌≡◌ {A = ℕ} 0 1 = cc in absurd (omega arith)
bad_date g (bad r) e = sym e

-- group 3 has the form A1
pub date_has : form_of 3 ≡ Some A1
unfolding Table.form_of Table.form_among Table.listed_as
date_has = refl

pub date_form : (g : ℕ) (f : Form) → form_of g ≡ Some f → g ≡ 3 → f ≡ A1
date_form g f e t =
    let z : Some A1 ≡ Some f = sym date_has ∙ ap form_of (sym t) ∙ e in
    cc

-- and its lines may not be short
pub date_lines : (ρ : Rules) (g : ℕ) (f : Form) (count : ℕ) (x : List ℕ) → form_of g ≡ Some f → g ≡ 3 → read_lines ρ f (may_be_short g) count x ≡ read_lines ρ A1 false count x
date_lines ρ g f count x e t = ap₂ (λ k short. read_lines ρ k short count x) (date_form g f e t) (ap may_be_short t)
