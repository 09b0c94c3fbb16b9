-- The first pass, line by line: its state as it comes to a line; a line more, and where it stops.
-- Assumes nothing.
use Rattle.std.specs.Prelude.{Result, Ok, Err}
use mathlib.Core.Path.{◌≡◌, refl, sym, ◌∙◌, ap, subst}
use mathlib.Core.Bool.{Bool}
use mathlib.Core.List.{List, []}
use Prim.Native.Nat.{ℕ, suc, ◌+◌, ◌-◌, ◌*◌, ◌^◌, ◌<◌, ◌≤◌, min}
use native.Mathlib.Nat.{add-mul, one-mul, mul-le-mul, le-mul_of_pos_right, zero-mul, sub-zero}
use native.Mathlib.Numerals.{add-one}
use native.Mathlib.Omega.{arith}
use lib.ListN.{length, drop, length-drop}
use lib.Seq.{drop-drop}
use Rattle.rules.specs.declared.Rules.{Rules}
use Rattle.base.specs.Every
use Rattle.base.specs.Part.{part}
use Rattle.base.specs.Pieces
use Rattle.base.specs.Pieces.{done, bad, both}
use Rattle.base.proofs.Taken.{drop_none}
use Rattle.form.specs.declared.Form.{Form}
use Rattle.form.specs.declared.Row.{Row}
use Rattle.form.specs.Table.{row_of}
use Rattle.form.specs.Count
use Rattle.form.specs.Count.{elements_of, lines_of}
use Rattle.form.proofs.Rows.{row_fits}
use Rattle.form.proofs.Counted.{lines_few}
use Rattle.line.specs.Lines.{reach}
use Rattle.line.proofs.Reach.{reach_le}
use Rattle.reading.specs.Plan.{Line, line_behind, line_at, plan_from, plan_of}
use Rattle.reply.specs.declared.Refusal.{Refusal}
use Rattle.reading.specs.Read.{Cells, read_line, read_lines_of, read_lines, verdict_of, line_passed}

-- ---- a piece that is clean, and one that isn't

pub past : (g h : Cells) → verdict_of g ≡ Ok tt → verdict_of (both g h) ≡ verdict_of h
past (done a) (done b) e = refl
past (done a) (bad r) e = refl
past (bad r) h e = let z : ◌≡◌ {A = ℕ} 0 1 = cc in absurd (omega arith)

pub stuck : (g h : Cells) (r : Refusal) → verdict_of g ≡ Err r → verdict_of (both g h) ≡ Err r
stuck (done a) h r e = let z : ◌≡◌ {A = ℕ} 0 1 = cc in absurd (omega arith)
stuck (bad q) h r e = e

-- ---- the lines of a plan

module _ (ρ : Rules) (f : Form) (short : Bool) (s : List ℕ) (p n : ℕ) where
  pub lines_more : (j k at end : ℕ) → end ≡ at + reach (drop at s) 1
      → read_lines_of ρ f short (plan_from p n j (suc k)) (drop at s) ≡ both (read_line ρ f short (line_at p n j) (part at end s)) (read_lines_of ρ f short (plan_from p n (j + 1) k) (drop end s))
  unfolding read_lines_of plan_from Pieces.gather Every.up_from
  lines_more j k at end e =
      let r : end - at ≡ reach (drop at s) 1 = omega arith in
      let t : drop end s ≡ drop (reach (drop at s) 1) (drop at s) = ap (λ m. drop m s) e ∙ sym (drop-drop (reach (drop at s) 1) at s) in
      rw (r, t, add-one j)

  pub lines_none : (j at : ℕ) → read_lines_of ρ f short (plan_from p n j 0) (drop at s) ≡ done []
  unfolding read_lines_of plan_from Pieces.gather Every.up_from
  lines_none j at = refl

-- ---- the state before line j

pub width_few : (f : Form) → (row_of f).width ≤ 120
width_few f = omega (arith, (row_fits f).columns, (row_fits f).some, le-mul_of_pos_right (row_of f).width (row_fits f).some)

-- so many fields of a line, in columns
pub columns_few : (f : Form) (k : ℕ) → k ≤ 120 → k * (row_of f).width ≤ 120 * 120
columns_few f k h = mul-le-mul h (width_few f)

module _ (ρ : Rules) (f : Form) (count : ℕ) where
  abbrev p : ℕ
  p = (row_of f).per_line

  abbrev n : ℕ
  n = elements_of ρ f count

  abbrev all : ℕ
  all = lines_of ρ f count

-- a line that the code makes by a row, where the state comes to line l and so many elements are left
pub record OnLine (f : Form) (r : Row) (left : ℕ) (l x : Line) : Type 0 where
  pub is : x ≡ l
  pub most : x.many ≤ (row_of f).per_line
  pub few : x.many ≤ 120
  pub within : x.many ≤ left
  pub taken : left - x.many ≡ left - min (row_of f).per_line left
  pub columns : x.many * r.width ≤ 120 * 120
  pub wide : x.many * r.width ≡ x.many * (row_of f).width
  pub size : x.many * r.cells ≡ l.many * (row_of f).cells
  pub first : x.first ≤ 2 ^ 32

-- what the code's variables are, with j lines behind it, `left` elements left and `at` where the next line begins
pub record Walking (ρ : Rules) (f : Form) (count : ℕ) (s : List ℕ) (left at j : ℕ) : Type 0 where
  pub few : j ≤ all ρ f count
  pub rest : left ≡ n ρ f count - j * p ρ f count
  pub inside : at ≤ length s

pub walking_start : (ρ : Rules) {f : Form} {count : ℕ} {s : List ℕ} {left : ℕ} → left ≡ elements_of ρ f count → Walking ρ f count s left 0 0
walking_start ρ {f = f} e = record { few = omega arith; rest = omega (arith, zero-mul (row_of f).per_line); inside = omega arith }

module _ (ρ : Rules) (f : Form) (count : ℕ) (s : List ℕ) {left at j : ℕ} (b : Walking ρ f count s left at j) where
  -- the line that the state comes to
  abbrev pub line_here : Line
  line_here = line_at (p ρ f count) (n ρ f count) j

  pub many_here : min (p ρ f count) left ≡ line_here.many
  many_here = ap (min (p ρ f count)) b.rest

  pub next_first : (j + 1) * p ρ f count ≡ j * p ρ f count + p ρ f count
  next_first = omega (arith, add-mul j 1 (p ρ f count), one-mul (p ρ f count))

  pub first_small : count ≤ 65535 → j < all ρ f count → j * p ρ f count + 1 ≤ 2 ^ 32
  first_small small h = omega (arith, mul-le-mul few_lines (row_fits f).few, (row_fits f).some, next_first)
    where
      few_lines : j + 1 ≤ 65536
      few_lines = omega (arith, h, lines_few ρ f count small)

  pub elements_before : {r : Row} → r ≡ row_of f → count ≤ 65535 → j < all ρ f count → j * r.per_line + 1 ≤ 2 ^ 32
  elements_before e small h = rw e (first_small small h)

  pub on_line : {r : Row} {x : Line} → r ≡ row_of f → x ≡ line_behind r.per_line left j → count ≤ 65535 → j < all ρ f count → OnLine f r left line_here x
  on_line {r} {x} e m small h =
      let is : x ≡ line_here = rw (m, e, b.rest) refl in
      let many : x.many ≡ min (row_of f).per_line left = ap (λ y. y.many) is ∙ sym many_here in
      let few : x.many ≤ 120 = omega (arith, many, (row_fits f).few) in
      let wide : x.many * r.width ≡ x.many * (row_of f).width = ap (λ q. x.many * q.width) e in record {
        is = is;
        most = omega (arith, many);
        few = few;
        within = omega (arith, many);
        taken = ap (λ n. left - n) many;
        columns = omega (arith, wide, columns_few f x.many few);
        wide = wide;
        size = ap (λ q. x.many * q.cells) e ∙ ap (λ y. y.many * (row_of f).cells) is;
        first = omega (arith, ap (λ y. y.first) is, first_small small h);
      }

  module _ (end : ℕ) (w : end ≡ at + reach (drop at s) 1) where
    pub end_range : (at ≤ end) × (end ≤ length s)
    end_range = (omega arith, omega (arith, reach_le (drop at s) 1, length-drop at s, b.inside))

    pub walking_next : j < all ρ f count → Walking ρ f count s (left - min (p ρ f count) left) end (j + 1)
    walking_next h = record { few = omega arith; rest = omega (arith, b.rest, next_first); inside = end_range.1 }

    pub line_more : (short : Bool) → j < all ρ f count
        → read_lines_of ρ f short (plan_from (p ρ f count) (n ρ f count) j (all ρ f count - j)) (drop at s) ≡ both (read_line ρ f short line_here (part at end s))
        (read_lines_of ρ f short (plan_from (p ρ f count) (n ρ f count) (j + 1) (all ρ f count - (j + 1))) (drop end s))
    line_more short h =
        let m : all ρ f count - j ≡ suc (all ρ f count - (j + 1)) = omega arith in
        rw m (lines_more ρ f short s (p ρ f count) (n ρ f count) j (all ρ f count - (j + 1)) at end w)

-- ---- checking: the verdict on what is left is the verdict on all

pub record Checking (ρ : Rules) (f : Form) (short : Bool) (count : ℕ) (s : List ℕ) (left at j : ℕ) : Type 0 where
  pub walk : Walking ρ f count s left at j
  pub same : verdict_of (read_lines_of ρ f short (plan_from (p ρ f count) (n ρ f count) j (all ρ f count - j)) (drop at s)) ≡ verdict_of (read_lines ρ f short count s)

pub checking_start : (ρ : Rules) {f : Form} {short : Bool} {count : ℕ} {s : List ℕ} {left : ℕ} → left ≡ elements_of ρ f count → Checking ρ f short count s left 0 0
unfolding read_lines plan_of Count.lines_of
checking_start ρ {f} {short} {count} {s} e = record { walk = walking_start ρ e; same = rw (sub-zero (all ρ f count), drop_none s) refl }

pub checking_end : (ρ : Rules) (f : Form) (short : Bool) (count : ℕ) (s : List ℕ) {left at j : ℕ} → Checking ρ f short count s left at j → lines_of ρ f count ≤ j
    → Ok tt ≡ verdict_of (read_lines ρ f short count s)
checking_end ρ f short count s {at = at} {j = j} b h =
    let z : all ρ f count - j ≡ 0 = omega arith in
    sym (ap verdict_of (lines_none ρ f short s (p ρ f count) (n ρ f count) j at)) ∙ (rw z at b.same)

-- what the check of a line answers
pub passed_clean : (behind : ℕ) {m : ℕ} (v : Result (Unit {0}) Refusal) → line_passed behind v ≡ Ok m → (m ≡ behind) × (v ≡ Ok tt)
passed_clean behind {m} (Ok _) e = let p : m ≡ behind = cc in (p, refl)
passed_clean behind (Err r) e = let z : ◌≡◌ {A = ℕ} 0 1 = cc in absurd (omega arith)

pub passed_bad : (behind : ℕ) {r : Refusal} (v : Result (Unit {0}) Refusal) → line_passed behind v ≡ Err r → v ≡ Err r
passed_bad behind (Ok _) e = let z : ◌≡◌ {A = ℕ} 0 1 = cc in absurd (omega arith)
passed_bad behind {r} (Err q) e = let p : q ≡ r = cc in ap Err p

module _ (ρ : Rules) (f : Form) (short : Bool) (count : ℕ) (s : List ℕ) {left at j : ℕ} (b : Checking ρ f short count s left at j) (h : j < lines_of ρ f count) where
  abbrev here : Cells
  here = read_line ρ f short (line_here ρ f count s b.walk) (part at (at + reach (drop at s) 1) s)

  more : verdict_of
      (both here (read_lines_of ρ f short (plan_from (p ρ f count) (n ρ f count) (j + 1) (all ρ f count - (j + 1))) (drop (at + reach (drop at s) 1) s)))
      ≡ verdict_of (read_lines ρ f short count s)
  more = sym (ap verdict_of (line_more ρ f count s b.walk (at + reach (drop at s) 1) refl short h)) ∙ b.same

  -- a clean line: the next one
  pub checking_next : (end : ℕ) → end ≡ at + reach (drop at s) 1 → verdict_of here ≡ Ok tt → Checking ρ f short count s (left - min (p ρ f count) left) end (j + 1)
  checking_next end w clean =
      subst (λ e. Checking ρ f short count s (left - min (p ρ f count) left) e (j + 1)) (sym w)
      record {
        walk = walking_next ρ f count s b.walk (at + reach (drop at s) 1) refl h;
        same = sym
            (past here (read_lines_of ρ f short (plan_from (p ρ f count) (n ρ f count) (j + 1) (all ρ f count - (j + 1))) (drop (at + reach (drop at s) 1) s)) clean)
            ∙ more;
      }

  pub checking_wrong : (r : Refusal) → verdict_of here ≡ Err r → Err r ≡ verdict_of (read_lines ρ f short count s)
  checking_wrong r e =
      sym
      (stuck here (read_lines_of ρ f short (plan_from (p ρ f count) (n ρ f count) (j + 1) (all ρ f count - (j + 1))) (drop (at + reach (drop at s) 1) s)) r e)
      ∙ more
