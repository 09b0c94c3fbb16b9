-- R13, R42: the elements of a count under each rule. Whatever it counts, a count of n has at most n full lines.
-- Assumes nothing.
use mathlib.Core.Path.{◌≡◌, refl, ap, subst}
use mathlib.Core.Bool.{Bool, true, false, cond, not, ◌&&◌, ◌||◌}
use Prim.Native.Nat.{ℕ, zero, suc, ◌+◌, ◌-◌, ◌*◌, ◌<◌, ◌≤◌}
use native.Mathlib.Nat.{le-mul_of_pos_right, suc-mul}
use native.Mathlib.Omega.{arith}
use lib.Dec.{T, eqb, eqb→eq}
use Rattle.base.specs.Every.{every, has}
use Rattle.base.proofs.Choice.{and_left, and_right}
use Rattle.base.proofs.Every.{every_has}
use Rattle.rules.specs.declared.Rules.{Rules}
use Rattle.rules.specs.declared.Counting.{Counting}
use Rattle.rules.specs.declared.Counting.TheVariants.{Elements, Entries}
use Rattle.form.specs.declared.Form.{Form}
use Rattle.form.specs.declared.Form.TheVariants.{A1, E20}
use Rattle.std.proofs.Common.{Some}
use Rattle.form.specs.Table.{listed_as, row_of, forms, form_of}
use Rattle.form.specs.Count.{is_segments, segment_elements, elements_of, rounded_up, lines_of, cells_of}
use Rattle.form.proofs.Table.{each_form, form_listed}
use Rattle.form.proofs.Rows.{row_fits}
use Rattle.form.proofs.Rounding.{rounded_none, lines_are}

-- ---- the form of group 40 has six elements to a line, and its list of groups is 40 alone

abbrev six : Form → Bool
six f = eqb (row_of f).per_line 6

abbrev forty : Form → Bool
forty f = every (λ g. eqb g 40) (listed_as f).groups

all_forty : T (every (λ f. not (is_segments f) || (six f && forty f)) forms)
unfolding is_segments row_of listed_as
all_forty = tt

as_forty : (f : Form) → is_segments f ≡ true → T (six f && forty f)
as_forty f e = subst (λ (t : Bool). T (not t || (six f && forty f))) e (each_form (λ k. not (is_segments k) || (six k && forty k)) all_forty f)

forty_only : (f : Form) → is_segments f ≡ true → (g : ℕ) → T (has (listed_as f).groups g) → g ≡ 40
forty_only f e g h = eqb→eq g 40 (every_has (λ k. eqb k 40) (listed_as f).groups (and_right (six f) (forty f) (as_forty f e)) g h)

segments_six : (f : Form) → is_segments f ≡ true → (row_of f).per_line ≡ 6
segments_six f e = eqb→eq (row_of f).per_line 6 (and_left (six f) (forty f) (as_forty f e))

-- and no other group has it
pub segments_forty : (g : ℕ) (f : Form) → form_of g ≡ Some f → (g ≡ 40 → ⊥) → is_segments f ≡ false
segments_forty g f h other = by (is_segments f) refl
  where
    by : (t : Bool) → is_segments f ≡ t → is_segments f ≡ false
    by true e = absurd (other (forty_only f e g ((form_listed f g).0 h)))
    by false e = e

e20_segments : is_segments E20 ≡ true
unfolding is_segments listed_as
e20_segments = refl

-- ---- bounds

segments_few : (n : ℕ) (k : Counting) → segment_elements n k ≤ n * 6
unfolding segment_elements
segments_few zero k = omega arith
segments_few (suc n) Elements = omega (arith, suc-mul n 6)
segments_few (suc n) Entries = omega (arith, suc-mul n 6)

module _ (ρ : Rules) where
  pub elements_few : (f : Form) (n : ℕ) → elements_of ρ f n ≤ n * (row_of f).per_line
  unfolding elements_of
  elements_few f n = by (is_segments f) refl
    where
      by : (t : Bool) → is_segments f ≡ t → cond t (segment_elements n ρ.counting) n ≤ n * (row_of f).per_line
      by true e = rw (segments_six f e) (segments_few n ρ.counting)
      by false e = le-mul_of_pos_right n (row_fits f).some

-- ---- a count of 0 and of 1, whatever is counted

pub segments_none : (n : ℕ) (k : Counting) → n ≡ 0 → segment_elements n k ≡ 0
unfolding segment_elements
segments_none n k e = rw e refl

pub segments_one : (k : Counting) → segment_elements 1 k ≡ 1
unfolding segment_elements
segments_one Elements = refl
segments_one Entries = refl

module _ (ρ : Rules) where
  pub elements_none : (f : Form) → elements_of ρ f 0 ≡ 0
  unfolding elements_of
  elements_none f = by (is_segments f)
    where
      by : (t : Bool) → cond t (segment_elements 0 ρ.counting) 0 ≡ 0
      by true = segments_none 0 ρ.counting refl
      by false = refl

-- ---- R42: every other group, and all groups where elements are counted

pub segments_plain : (n : ℕ) → segment_elements n Elements ≡ n
unfolding segment_elements
segments_plain zero = refl
segments_plain (suc n) = refl

pub segments_entries : (n : ℕ) → 0 < n → segment_elements n Entries ≡ 6 * (n - 1) + 1
unfolding segment_elements
segments_entries zero h = absurd (omega arith)
segments_entries (suc n) h = omega arith

module _ (ρ : Rules) where
  pub elements_other : (f : Form) (n : ℕ) → is_segments f ≡ false → elements_of ρ f n ≡ n
  unfolding elements_of
  elements_other f n e = rw e

  -- letters, so group 3 among them
  pub letters_elements : (n : ℕ) → elements_of ρ A1 n ≡ n
  unfolding is_segments listed_as
  letters_elements n = elements_other A1 n refl

  pub elements_plain : ρ.counting ≡ Elements → (f : Form) (n : ℕ) → elements_of ρ f n ≡ n
  unfolding elements_of
  elements_plain e f n = rw e (by (is_segments f))
    where
      by : (t : Bool) → cond t (segment_elements n Elements) n ≡ n
      by true = segments_plain n
      by false = refl

  -- ---- R13: n entries are 6(n - 1) + 1 elements, on n lines

  pub entries_elements : ρ.counting ≡ Entries → (n : ℕ) → elements_of ρ E20 (suc n) ≡ 6 * n + 1
  unfolding elements_of is_segments listed_as segment_elements
  entries_elements e n = rw e

  pub entries_lines : ρ.counting ≡ Entries → (n : ℕ) → lines_of ρ E20 n ≡ n
  unfolding lines_of
  entries_lines e zero = rw (elements_none ρ E20) (rounded_none (row_of E20).per_line)
  entries_lines e (suc n) =
      rw (entries_elements e n, segments_six E20 e20_segments)
      ((lines_are (6 * n + 1) 6 (omega arith) (suc n)).1 record { enough = omega (arith, suc-mul n 6); needed = λ h. omega arith })

-- ---- rules that count alike

module _ (σ ρ : Rules) (alike : σ.counting ≡ ρ.counting) (f : Form) (n : ℕ) where
  pub elements_same : elements_of σ f n ≡ elements_of ρ f n
  unfolding elements_of
  elements_same = ap (λ k. cond (is_segments f) (segment_elements n k) n) alike

  pub lines_same : lines_of σ f n ≡ lines_of ρ f n
  unfolding lines_of
  lines_same = ap (λ e. rounded_up e (row_of f).per_line) elements_same

  pub cells_same : cells_of σ f n ≡ cells_of ρ f n
  unfolding cells_of
  cells_same = ap (λ e. e * (row_of f).cells) elements_same
