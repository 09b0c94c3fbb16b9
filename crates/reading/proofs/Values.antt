-- The values of a group: the lines of a group and the fields of a line are pieces one behind the other; what was read is the value of each
-- element, in its line and its columns, and no other cells are; element i stands in line i / per line, with i mod per line
-- fields before it.
-- Assumes nothing.
use mathlib.Core.Path.{◌≡◌, refl, sym, ◌∙◌, ap, subst}
use mathlib.Core.Bool.{Bool}
use mathlib.Core.List.{List, []}
use mathlib.Core.Logic.{⊎_elim}
use Prim.Native.Nat.{ℕ, suc, ◌+◌, ◌-◌, ◌*◌, ◌/◌, ◌%◌, ◌<◌, ◌≤◌, min}
use native.Mathlib.Nat.{sub-zero, add-mul, suc-mul, zero-mul, mul-le-mul_right, div-add-mod', mod-lt}
use native.Mathlib.Numerals.{add-one}
use native.Mathlib.Omega.{arith}
use lib.IntN.{ℤ}
use lib.ListN.{length, take, drop}
use Rattle.rules.specs.declared.Rules.{Rules}
use Rattle.base.specs.Part.{part}
use Rattle.base.specs.Pieces.{done, both}
use Rattle.base.proofs.FirstBad.{InPieces, Sized, piece_done}
use Rattle.base.proofs.Order.{le_or_lt}
use Rattle.base.proofs.Taken.{drop_none, part_zero, part_part, parts_same}
use Rattle.form.specs.declared.Form.{Form}
use Rattle.form.specs.Table.{row_of}
use Rattle.form.specs.Count
use Rattle.form.specs.Count.{elements_of, lines_of, cells_of}
use Rattle.form.proofs.Rows.{row_fits}
use Rattle.form.proofs.Rounding.{lines_enough}
use Rattle.field.specs.Read.{field_of, value_cells, ReadsAs}
use Rattle.field.proofs.Laws.{lawful}
use Rattle.line.specs.Lines.{reach, behind}
use Rattle.line.proofs.Reach.{reach_zero, reach_add}
use Rattle.line.proofs.Contents.{is_content, content_one}
use Rattle.reading.specs.Blanks.{may_be_short, is_right, filled_to}
use Rattle.reading.specs.Plan.{Line, plan_from, plan_of}
use Rattle.reading.specs.Read.{Cells, read_field, read_fields, columns_of, read_line, read_lines_of, read_lines}
use Rattle.reading.specs.Values.{line_of, planned, field_in, RightLine, Stands, Values}
use Rattle.reading.proofs.Blanks.{right_plain}
use Rattle.reading.proofs.Fields.{rest_of, fields_start, fields_more, fields_none}
use Rattle.reading.proofs.Checking.{lines_more, lines_none}
use Rattle.reading.proofs.Sizes.{field_done, reads_size, line_done, line_size, group_size}

-- ---- pieces one behind the other

-- the fields of a line
module _ (f : Form) (l : Line) (text : List ℕ) where
  abbrev pub field_at : ℕ → Cells
  field_at k = read_field f l.number (l.first + k) (take (row_of f).width (drop (k * (row_of f).width) text))

  abbrev pub fields_from : ℕ → Cells
  fields_from k = read_fields f (rest_of l k) (drop (k * (row_of f).width) text)

  pub fields_pieces : InPieces l.many field_at fields_from
  fields_pieces = record {
    more = λ i h. fields_more f l text i h ∙ rw (add-one i) refl;
    none = fields_none f l text l.many (drop (l.many * (row_of f).width) text) (omega arith);
  }

  fields_sized : Sized l.many field_at (λ i. i * (row_of f).cells)
  fields_sized = record { begin = zero-mul (row_of f).cells; size = size }
    where
      size : (i : ℕ) → i < l.many → (ds : List ℤ) → field_at i ≡ done ds → i * (row_of f).cells + length ds ≡ suc i * (row_of f).cells
      size i h ds u =
          let y = take (row_of f).width (drop (i * (row_of f).width) text) in
          omega (arith, suc-mul i (row_of f).cells, reads_size f y ds (field_done f l.number (l.first + i) y ds u))

-- the lines of a group
module _ (ρ : Rules) (f : Form) (short : Bool) (count : ℕ) (x : List ℕ) where
  abbrev pub line_read : ℕ → Cells
  line_read j = read_line ρ f short (planned ρ f count j) (line_of x j)

  abbrev pub lines_from : ℕ → Cells
  lines_from j = read_lines_of ρ f short (plan_from (row_of f).per_line (elements_of ρ f count) j (lines_of ρ f count - j)) (behind j x)

  pub lines_pieces : InPieces (lines_of ρ f count) line_read lines_from
  lines_pieces = record { more = more; none = none }
    where
      p : ℕ
      p = (row_of f).per_line

      n : ℕ
      n = elements_of ρ f count

      more : (j : ℕ) → j < lines_of ρ f count → lines_from j ≡ both (line_read j) (lines_from (suc j))
      more j h =
          let at = reach x j in
          let end = at + reach (drop at x) 1 in
          let m : lines_of ρ f count - j ≡ suc (lines_of ρ f count - suc j) = omega arith in
          let c : end - at ≡ reach (drop at x) 1 = omega arith in
          let e : end ≡ reach x (suc j) = sym (reach_add x j 1) ∙ ap (reach x) (add-one j) in
          rw m (lines_more ρ f short x p n j (lines_of ρ f count - suc j) at end refl ∙ rw (c, e, add-one j) refl)

      none : lines_from (lines_of ρ f count) ≡ done []
      none =
          let m : lines_of ρ f count - lines_of ρ f count ≡ 0 = omega arith in
          rw m (lines_none ρ f short x p n (lines_of ρ f count) (reach x (lines_of ρ f count)))

  pub lines_start_lem : lines_from 0 ≡ read_lines ρ f short count x
  unfolding read_lines plan_of Count.lines_of
  lines_start_lem = rw (reach_zero x, drop_none x, sub-zero (lines_of ρ f count)) refl

-- ---- a line that was read

module _ (ρ : Rules) (f : Form) (g : ℕ) (count : ℕ) (x : List ℕ) where
  abbrev short : Bool
  short = may_be_short g

  -- it is right, and each of its fields has its cells
  pub record ReadLine (j : ℕ) (cs : List ℤ) : Type 0 where
    pub content : List ℕ
    pub line : RightLine ρ f g count x j content
    pub each : (k : ℕ) → k < (planned ρ f count j).many → ReadsAs f (field_in ρ f count j content k) (part (k * (row_of f).cells) (suc k * (row_of f).cells) cs)

  pub line_read_lem : (j : ℕ) (cs : List ℤ) → line_read ρ f short count x j ≡ done cs → ReadLine j cs
  line_read_lem j cs e =
      let l = planned ρ f count j in
      let y = line_of x j in
      let d = line_done ρ f short l y cs e in
      let t = part_zero d.bytes y in
      let s = take d.bytes y in
      let text = filled_to (columns_of f l) s in
      let fields : fields_from f l text 0 ≡ done cs = fields_start f l text ∙ ap (λ z. read_fields f l (filled_to (columns_of f l) z)) (sym t) ∙ d.fields in
      record {
        content = s;
        line = record { content = (is_content ρ y d.bytes d.content).0; right = (right_plain g (columns_of f l) s).0 (ap (is_right short (columns_of f l)) (sym t) ∙ d.right) };
        each = λ k h. field_done f l.number (l.first + k) (field_in ρ f count j s k) (part (k * (row_of f).cells) (suc k * (row_of f).cells) cs)
            (piece_done (fields_pieces f l text) (fields_sized f l text) cs fields k h);
      }

  -- ---- the group

  abbrev p : ℕ
  p = (row_of f).per_line

  abbrev n : ℕ
  n = elements_of ρ f count

  -- where the cells of line j begin
  abbrev begins : ℕ → ℕ
  begins j = min n (j * p) * (row_of f).cells

  line_inside : (j : ℕ) → j * p < n → j < lines_of ρ f count
  unfolding Count.lines_of
  line_inside j h =
      ⊎_elim
      (λ (l : lines_of ρ f count ≤ j). absurd (omega (arith, mul-le-mul_right p l, lines_enough n p (row_fits f).some)))
      (λ l. l)
      (le_or_lt (lines_of ρ f count) j)

  module _ (cs : List ℤ) (e : read_lines ρ f short count x ≡ done cs) where
    pub line_cells_lem : (j : ℕ) → j < lines_of ρ f count → line_read ρ f short count x j ≡ done (part (begins j) (begins (suc j)) cs)
    line_cells_lem j h =
        piece_done (lines_pieces ρ f short count x) record { begin = first; size = size } cs (lines_start_lem ρ f short count x ∙ e) j h
      where
        first : begins 0 ≡ 0
        first =
            let z : min n (0 * p) ≡ 0 = rw (zero-mul p) (omega arith) in
            rw z (zero-mul (row_of f).cells)

        size : (i : ℕ) → i < lines_of ρ f count → (ds : List ℤ) → line_read ρ f short count x i ≡ done ds → begins i + length ds ≡ begins (suc i)
        size i l ds u =
            let m : min n (i * p) + min p (n - i * p) ≡ min n (suc i * p) = omega (arith, suc-mul i p) in
            omega (arith, line_size ρ f short (planned ρ f count i) (line_of x i) ds u, add-mul (min n (i * p)) (min p (n - i * p)) (row_of f).cells, ap (λ k. k * (row_of f).cells) m)

    stands : (j k : ℕ) → k < p → j * p + k < n → Stands ρ f g count x cs (j * p + k) j k
    stands j k h l =
        let c = (row_of f).cells in
        let r = line_read_lem j (part (begins j) (begins (suc j)) cs) (line_cells_lem j (line_inside j (omega arith))) in
        let m : min n (j * p) ≡ j * p = omega arith in
        let b : begins j ≡ j * p * c = ap (λ i. i * c) m in
        let from : begins j + k * c ≡ (j * p + k) * c = omega (arith, add-mul (j * p) k c) in
        let to : begins j + suc k * c ≡ (j * p + k) * c + c = omega (arith, add-mul (j * p) k c, suc-mul k c) in
        let few : suc (j * p + k) ≤ min n (suc j * p) = omega (arith, suc-mul j p) in
        let within : begins j + suc k * c ≤ begins (suc j) = omega (arith, mul-le-mul_right c few, suc-mul (j * p + k) c) in
        record {
          content = r.content;
          line = r.line;
          reads = (lawful f).reads_is (field_in ρ f count j r.content k) (part ((j * p + k) * c) ((j * p + k) * c + c) cs)
              (subst (ReadsAs f (field_in ρ f count j r.content k)) (part_part (begins j) (begins (suc j)) (k * c) (suc k * c) cs within ∙ rw (from, to) refl) (r.each k (omega arith)));
        }

    -- what was read is the group's values
    pub read_values : Values ρ f g count x cs
    read_values = record { size = group_size ρ f short count x cs e; each = stands }

  -- R45: counted from 0, element i stands in line i / per line, and i mod per line others stand before it there
  pub values_divided : (cs : List ℤ) → Values ρ f g count x cs → (i : ℕ) → i < n → Stands ρ f g count x cs i (i / p) (i % p)
  values_divided cs v i h =
      let e = div-add-mod' i p in
      subst (λ m. Stands ρ f g count x cs m (i / p) (i % p)) e (v.each (i / p) (i % p) (mod-lt i (row_fits f).some) (omega arith))

  -- a group has one list of values
  pub values_one : (cs ds : List ℤ) → Values ρ f g count x cs → Values ρ f g count x ds → cs ≡ ds
  unfolding Count.cells_of
  values_one cs ds u v = parts_same (row_of f).cells n cs ds u.size v.size same
    where
      same : (i : ℕ) → i < n → part (i * (row_of f).cells) (i * (row_of f).cells + (row_of f).cells) cs ≡ part (i * (row_of f).cells) (i * (row_of f).cells + (row_of f).cells) ds
      same i h =
          let a = values_divided cs u i h in
          let b = values_divided ds v i h in
          let c : a.content ≡ b.content = content_one ρ (line_of x (i / p)) a.content b.content a.line.content b.line.content in
          let d = (lawful f).is_reads (field_in ρ f count (i / p) a.content (i % p)) (part (i * (row_of f).cells) (i * (row_of f).cells + (row_of f).cells) cs) a.reads in
          let o = (lawful f).is_reads (field_in ρ f count (i / p) b.content (i % p)) (part (i * (row_of f).cells) (i * (row_of f).cells + (row_of f).cells) ds) b.reads in
          sym d.cells ∙ ap (λ s. value_cells (field_in ρ f count (i / p) s (i % p)) (field_of f (field_in ρ f count (i / p) s (i % p)))) c ∙ o.cells
