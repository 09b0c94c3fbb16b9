-- The fields of a line, one after the other: the bytes that the code lends for field i are that field, filled with blanks; one field more;
-- the line's end, sought from within its content.
-- Assumes nothing.
use Rattle.std.specs.Prelude.{Some}
use mathlib.Core.Path.{◌≡◌, refl, sym, ◌∙◌, ap, subst}
use mathlib.Core.Bool.{Bool, true, false}
use mathlib.Core.List.{List, []}
use Prim.Native.Nat.{ℕ, suc, ◌+◌, ◌-◌, ◌*◌, ◌<◌, ◌≤◌, min}
use native.Mathlib.Nat.{add-mul, one-mul, mul-le-mul_right, zero-mul, add-zero, sub-zero}
use native.Mathlib.Omega.{arith}
use borrow.Author.Tests.{leb-true, leb-false}
use lib.Dec.{leb}
use lib.ListN.{length, take, drop, replicate, length-take, length-drop, drop_of_length-le}
use lib.Seq.{drop-drop, length-take-le, take-take}
use Rattle.rules.specs.declared.Rules.{Rules}
use Rattle.base.proofs.Taken.{drop_none, take_none, drop_take, take_both, part_begin}
use Rattle.base.specs.Every.{up_from}
use Rattle.base.specs.Part.{part}
use Rattle.base.specs.Pieces
use Rattle.base.specs.Pieces.{done, both, gather}
use Rattle.base.specs.Every
use Rattle.form.specs.declared.Form.{Form}
use Rattle.form.specs.Table.{row_of}
use Rattle.line.specs.Lines.{reach, Plain}
use Rattle.line.proofs.Feeds.{plain_take}
use Rattle.line.proofs.Reach.{reach_past}
use Rattle.line.proofs.Contents.{content_two, first_plain}
use Rattle.reading.specs.Blanks.{shortest, filled_to, field_part, right_content}
use Rattle.reading.specs.Plan.{Line}
use Rattle.reading.specs.Read.{read_field, read_fields, columns_of}
use Rattle.reading.specs.Values.{planned, field_in}
use Rattle.reading.proofs.Blanks.{filled_nil, filled_drop, filled_take, take_blanks, right_low, Fits}
use Rattle.reading.proofs.Lines.{right_is}

-- the line without its first i elements
abbrev pub rest_of : Line → ℕ → Line
rest_of l i = record { number = l.number; first = l.first + i; many = l.many - i }

-- the columns of a line's fields, as they are read: its content of n bytes, filled with blanks
abbrev pub line_text : Form → Line → List ℕ → ℕ → ℕ → ℕ → List ℕ
line_text f l s at end n = filled_to (columns_of f l) (part 0 n (part at end s))

next_column : (i w : ℕ) → i * w + w ≡ (i + 1) * w
next_column i w = omega (arith, add-mul i 1 w, one-mul w)

-- R65: an element that is missing is blanks: the content ends where its columns begin, or before
module _ (ρ : Rules) (f : Form) (count j : ℕ) (s : List ℕ) (k : ℕ) (h : k < (planned ρ f count j).many) where
  abbrev wide : ℕ
  wide = (row_of f).width

  abbrev behind : ℕ
  behind = columns_of f (planned ρ f count j) - k * (row_of f).width

  pub missing_blanks : length s ≤ k * (row_of f).width → field_in ρ f count j s k ≡ replicate (row_of f).width 32
  missing_blanks e =
      ap (take wide) (filled_drop (columns_of f (planned ρ f count j)) (k * wide) s ∙ ap (filled_to behind) (drop_of_length-le s e) ∙ filled_nil behind)
      ∙ take_blanks wide behind (omega (arith, next_column k wide, mul-le-mul_right {m = k + 1} {n = (planned ρ f count j).many} wide (omega arith)))

-- ---- one field more

module _ (f : Form) (l : Line) (text : List ℕ) where
  abbrev width : ℕ
  width = (row_of f).width

  pub fields_start : read_fields f (rest_of l 0) (drop (0 * width) text) ≡ read_fields f l text
  unfolding read_fields
  fields_start = rw (add-zero l.first, sub-zero l.many, zero-mul width, drop_none text)

  pub fields_more : (i : ℕ) → i < l.many
      → read_fields f (rest_of l i) (drop (i * width) text) ≡ both (read_field f l.number (l.first + i) (take width (drop (i * width) text)))
      (read_fields f (rest_of l (i + 1)) (drop ((i + 1) * width) text))
  unfolding read_fields Pieces.gather Every.up_from
  fields_more i h =
      let n : l.many - i ≡ suc (l.many - (i + 1)) = omega arith in
      let a : suc (l.first + i) ≡ l.first + (i + 1) = omega arith in
      let d : drop width (drop (i * width) text) ≡ drop ((i + 1) * width) text = drop-drop width (i * width) text ∙ ap (λ m. drop m text) (next_column i width) in
      rw (n, a, d)

  pub fields_none : (i : ℕ) (s : List ℕ) → l.many ≤ i → read_fields f (rest_of l i) s ≡ done []
  unfolding read_fields Pieces.gather Every.up_from
  fields_none i s h = let n : l.many - i ≡ 0 = omega arith in rw n

-- ---- the bytes of a field

-- what there is of field i, filled, is the field's columns of what there is of the line, filled
pub filled_piece : (columns w i at n : ℕ) (s : List ℕ) {from to : ℕ} → i * w + w ≤ columns → from ≡ min (at + i * w) (at + n) → to ≡ min (at + i * w + w) (at + n)
    → filled_to w (part from to s) ≡ take w (drop (i * w) (filled_to columns (take n (drop at s))))
filled_piece columns w i at n s {from} {to} few b e =
    sym
    (ap (take w) (filled_drop columns (i * w) (take n (drop at s)))
    ∙ filled_take w (columns - i * w) (drop (i * w) (take n (drop at s))) (omega (arith, few))
    ∙ ap (filled_to w)
    (ap (take w) (drop_take (i * w) n (drop at s)) ∙ take_both w (n - i * w) (drop (i * w) (drop at s))
    ∙ ap (take (min w (n - i * w))) (drop-drop (i * w) at s) ∙ cut (leb (i * w) n) refl))
  where
    cut : (t : Bool) → leb (i * w) n ≡ t → take (min w (n - i * w)) (drop (at + i * w) s) ≡ part from to s
    cut true u =
        let v = leb-true (i * w) n u in
        let m : at + i * w ≡ from = omega arith in
        let k : min w (n - i * w) ≡ to - from = omega arith in
        rw (m, k)
    cut false u =
        let v = leb-false (i * w) n u in
        let m : min w (n - i * w) ≡ 0 = omega arith in
        let k : to - from ≡ 0 = omega arith in
        rw (m, k) (take_none (drop (at + i * w) s) ∙ sym (take_none (drop from s)))

-- as the code finds them: from the lesser of column and end, and from there no more than the width
pub part_found : (width column stop from to : ℕ) (s : List ℕ) → from ≡ min column stop → to ≡ from + min width (stop - from) → part from to s ≡ field_part width column stop s
part_found width column stop from to s b e =
    let t : to ≡ min (column + width) stop = omega arith in
    rw (t, b)

module _ (ρ : Rules) (f : Form) (short : Bool) (l : Line) (s : List ℕ) (at end n : ℕ) (inside : end ≤ length s) (e : right_content ρ short (columns_of f l) (part at end s) ≡ Some n) where
  abbrev w : ℕ
  w = (row_of f).width

  pub line_ends : at + n < end
  line_ends =
      let r = right_is ρ short (columns_of f l) (part at end s) n e in
      omega (arith, (content_two ρ (part at end s) n r.content).0, length-take (end - at) (drop at s), length-drop at s)

  content : part 0 n (part at end s) ≡ take n (drop at s)
  content = part_begin at end n s (omega (arith, line_ends))

  content_long_lem : length (part 0 n (part at end s)) ≡ n
  content_long_lem = ap length content ∙ length-take-le n (drop at s) (omega (arith, line_ends, length-drop at s))

  pub enough : shortest short (columns_of f l) ≤ n
  enough = subst (λ m. shortest short (columns_of f l) ≤ m) content_long_lem (right_low short (columns_of f l) (part 0 n (part at end s)) (right_is ρ short (columns_of f l) (part at end s) n e).right)

  -- no line feed stands in the content, so the line's end may be sought from any place of it
  pub end_from : end ≡ at + reach (drop at s) 1 → (m : ℕ) → m ≤ n → at + m + reach (drop (at + m) s) 1 ≡ at + reach (drop at s) 1
  end_from w m h = reach_past s at (at + m) 0 (omega arith) (omega (arith, line_ends)) (subst Plain first (plain_take m (take n (drop at s)) plain))
    where
      plain : Plain (take n (drop at s))
      plain =
          let r : end - at ≡ reach (drop at s) 1 = omega arith in
          first_plain ρ (drop at s) n (rw r at (right_is ρ short (columns_of f l) (part at end s) n e).content)

      first : take m (take n (drop at s)) ≡ part at (at + m) s
      first =
          let r : m ≡ at + m - at = omega arith in
          take-take m n (drop at s) h ∙ ap (λ k. take k (drop at s)) r

  -- field i stands between two places, neither of them behind the content
  module _ (i column from to : ℕ) (h : i < l.many) (p : column ≡ at + i * w) (o : from ≡ min column (at + n)) (q : to ≡ min (column + w) (at + n)) where
    columns : i * w + w ≤ columns_of f l
    columns = subst (λ m. m ≤ columns_of f l) (sym (next_column i w)) (mul-le-mul_right {m = i + 1} {n = l.many} w (omega arith))

    pub piece : filled_to w (part from to s) ≡ take w (drop (i * w) (line_text f l s at end n))
    piece =
        let b : from ≡ min (at + i * w) (at + n) = omega arith in
        let e : to ≡ min (at + i * w + w) (at + n) = omega arith in
        filled_piece (columns_of f l) w i at n s columns b e ∙ ap (λ c. take w (drop (i * w) (filled_to (columns_of f l) c))) (sym content)

    pub piece_range : (from ≤ to) × (to ≤ length s) × Fits f short (to - from)
    piece_range = (omega arith, omega (arith, line_ends), record { low = least short enough; high = omega arith })
      where
        least : (t : Bool) → shortest t (columns_of f l) ≤ n → shortest t w ≤ to - from
        least true e = omega arith
        least false e = omega (arith, columns)
