-- R70, R72, R74: a part reads as an I, F or E field exactly if its columns pass the tests. Over every width.
-- Assumes nothing.
use mathlib.Core.Path.{◌≡◌, refl, sym, ap, ap₂, ◌∙◌}
use mathlib.Core.Bool.{Bool, true, false, cond, ◌&&◌, ◌||◌}
use mathlib.Core.List.{List, [], ◌∷◌, ◌++◌}
use Prim.Native.Nat.{ℕ, suc, ◌+◌, ◌-◌, ◌≤◌}
use native.Mathlib.Omega.{arith}
use borrow.Author.Tests.{le-leb, eq-eqb}
use lib.Dec.{eqb}
use lib.ListN.{length, get_or, take, length-append}
use lib.Seq.{take-suc, take_at, length-take-le, get_or-append_seam}
use Rattle.base.specs.Every.{every}
use Rattle.base.specs.Part.{part}
use Rattle.base.proofs.Choice.{and_false}
use Rattle.base.proofs.Taken.{part_zero}
use Rattle.number.specs.declared.Scan.{Scan}
use Rattle.number.specs.declared.Scan.TheVariants.{Blanks, Signed, Digits, Broken}
use Rattle.number.specs.declared.Number.{Number}
use Rattle.number.specs.declared.Number.TheVariants.{Misformed}
use Rattle.number.specs.Read.{one_of, point_of, lead_of, sign_of, pair_of, read_i, read_f, read_e}
use Rattle.number.specs.Scan.{class_of, step_of, scan_of}
use Rattle.field.specs.Read.{value_of, formed}
use Rattle.run.specs.Columns.{is_figure, pairs, is_column, is_head, is_lead, is_leading, is_sign, is_whole_field, is_fixed, is_power}
use Rattle.run.proofs.Testing.{Column, blank, minus, digit, other, column_of, row_ask}
use Rattle.run.proofs.Leading.{good, low, leads, point_settled, sign_settled, lead_settled, settled_good, lead_good}

-- ---- I

digit_one : (b : ℕ) → good (step_of (class_of b) Blanks) ≡ is_figure b
digit_one b = by (column_of b)
  where
    by : Column b → good (step_of (class_of b) Blanks) ≡ is_figure b
    by (blank t) = ap good (t.step Blanks) ∙ sym t.digit_is
    by (minus t) = ap good (t.step Blanks) ∙ sym t.digit_is
    by (digit d t) = ap good (t.step Blanks) ∙ sym t.digit_is
    by (other t) = ap good (t.step Blanks) ∙ sym t.digit_is

-- R70
pub whole_formed : (s : List ℕ) → 1 ≤ length s → formed (value_of (read_i s)) ≡ is_whole_field s
whole_formed [] h = absurd (omega arith)
whole_formed (x ∷ s) h = row_ask good is_figure record { asks = record { digits = λ g n. refl; broken = refl }; one = digit_one; digit_ends = λ b e. e } x s

-- ---- F

abbrev goes : Scan → Bool
goes st = good (point_of st)

column_one : (b : ℕ) → goes (step_of (class_of b) Blanks) ≡ is_column b
column_one b = by (column_of b)
  where
    by : Column b → goes (step_of (class_of b) Blanks) ≡ is_column b
    by (blank t) = ap goes (t.step Blanks) ∙ sym (rw t.blank_is)
    by (minus t) = ap goes (t.step Blanks) ∙ sym (rw (t.blank_is, t.minus_is))
    by (digit d t) = ap goes (t.step Blanks) ∙ sym (rw (t.blank_is, t.minus_is, t.digit_is))
    by (other t) = ap goes (t.step Blanks) ∙ sym (rw (t.blank_is, t.minus_is, t.digit_is))

or_last : (a b : Bool) → (a || (b || true)) ≡ true
or_last true b = refl
or_last false true = refl
or_last false false = refl

head_formed : (s : List ℕ) → 1 ≤ length s → goes (scan_of Blanks s) ≡ is_head s
head_formed [] h = absurd (omega arith)
head_formed (x ∷ s) h =
    row_ask goes is_column record { asks = record { digits = λ g n. refl; broken = refl }; one = column_one; digit_ends = λ b e. rw e (or_last (eqb b 32) (eqb b 45)) } x s

-- a number that is read only where a test passes
tested : (t : Bool) (n : Number) (b : Bool) → formed (value_of n) ≡ b → formed (value_of (cond t n Misformed)) ≡ (t && b)
tested true n b e = e
tested false n b e = refl

-- R72
pub fixed_formed : (s : List ℕ) → 5 ≤ length s → formed (value_of (read_f s)) ≡ is_fixed s
fixed_formed s h =
    let head = part 0 (length s - 4) s in
    let tail = part (length s - 3) (length s) s in
    let l : length head ≡ length s - 4 = ap length (part_zero (length s - 4) s) ∙ length-take-le (length s - 4) s (omega arith) in
    rw (le-leb 4 (length s) (omega arith))
    (tested (eqb (get_or s (length s - 4) 0) 46) (one_of (scan_of (point_of (scan_of Blanks head)) tail)) (is_head head && every is_figure tail)
    (settled_good (point_of (scan_of Blanks head)) (point_settled (scan_of Blanks head)) tail ∙ ap (λ b. b && every is_figure tail) (head_formed head (omega arith))))

-- ---- E

pair_formed : (a b : Scan) → formed (value_of (pair_of (one_of a) (one_of b))) ≡ (good a && good b)
pair_formed Blanks b = refl
pair_formed Signed b = refl
pair_formed (Digits g n) Blanks = refl
pair_formed (Digits g n) Signed = refl
pair_formed (Digits g n) (Digits h m) = refl
pair_formed (Digits g n) Broken = refl
pair_formed Broken b = refl

sign_formed : (b : ℕ) → good (sign_of b) ≡ is_sign b
sign_formed b = by (eqb b 43) (eqb b 45)
  where
    by : (x y : Bool) → good (cond x (Digits false 0) (cond y (Digits true 0) Broken)) ≡ (x || y)
    by true y = refl
    by false true = refl
    by false false = refl

-- the last of some columns, and those before it
leading_parts : (r : List ℕ) (b : ℕ) → is_leading (r ++ (b ∷ [])) ≡ leads r b
leading_parts r b =
    let s = r ++ (b ∷ []) in
    let e : length s - 1 ≡ length r = omega (arith, length-append r (b ∷ [])) in
    ap₂ (λ x y. pairs s && (is_lead x && every low y))
    (ap (λ n. get_or s n 0) e ∙ get_or-append_seam r b [] 0)
    (part_zero (length s - 1) s ∙ ap (λ n. take n s) e ∙ take_at r (b ∷ []) (length r) refl)

part_last : (s : List ℕ) (c : ℕ) → 1 ≤ c → c ≤ length s → part 0 c s ≡ part 0 (c - 1) s ++ (get_or s (c - 1) 0 ∷ [])
part_last s c h l =
    let e : c ≡ suc (c - 1) = omega arith in
    part_zero c s ∙ ap (λ n. take n s) e ∙ take-suc s (c - 1) 0 (omega arith) ∙ ap (λ r. r ++ (get_or s (c - 1) 0 ∷ [])) (sym (part_zero (c - 1) s))

shuffle : (l d s x : Bool) → ((l && d) && (s && x)) ≡ (s && (l && (d && x)))
shuffle true d true x = refl
shuffle true d false x = and_false d
shuffle false d true x = refl
shuffle false d false x = refl

-- R74
pub power_formed : (c d x : ℕ) (s : List ℕ) → 1 ≤ c → length s ≡ c + d + x + 3 → formed (value_of (read_e c d x s)) ≡ is_power c d s
power_formed c d x s h l =
    let front = scan_of Blanks (part 0 (c - 1) s) in
    let b = get_or s (c - 1) 0 in
    let g = get_or s (c + 2 + d) 0 in
    let ds = part (c + 1) (c + 1 + d) s in
    let xs = part (c + 3 + d) (length s) s in
    let lead : good (lead_of front b) ≡ is_leading (part 0 c s) =
    lead_good (part 0 (c - 1) s) b ∙ sym (ap is_leading (part_last s c h (omega arith)) ∙ leading_parts (part 0 (c - 1) s) b) in
    rw (eq-eqb (length s) (c + d + x + 3) l)
    (tested (eqb (get_or s c 0) 46) _ _
    (tested (eqb (get_or s (c + 1 + d) 0) 69) (pair_of (one_of (scan_of (lead_of front b) ds)) (one_of (scan_of (sign_of g) xs))) _
    (pair_formed (scan_of (lead_of front b) ds) (scan_of (sign_of g) xs)
    ∙ ap₂ ◌&&◌
    (settled_good (lead_of front b) (lead_settled front b) ds ∙ ap (λ t. t && every is_figure ds) lead)
    (settled_good (sign_of g) (sign_settled g) xs ∙ ap (λ t. t && every is_figure xs) (sign_formed g))
    ∙ shuffle (is_leading (part 0 c s)) (every is_figure ds) (is_sign g) (every is_figure xs))))
