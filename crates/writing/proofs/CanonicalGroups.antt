-- A canonical group, line by line: how many lines and cells it has, that it is the text that is written for its cells, and that it reads as
-- these.
-- Assumes nothing.
use mathlib.Core.Path.{◌≡◌, sym, ◌∙◌, ap, subst}
use mathlib.Core.Bool.{Bool, true, false, cond}
use mathlib.Core.List.{List, [], ◌++◌, append-nil}
use Prim.Native.Nat.{ℕ, zero, suc, ◌-◌, ◌*◌, ◌≤◌, min}
use native.Mathlib.Nat.{mul_comm, mul-le-mul_right}
use native.Mathlib.Omega.{arith}
use lib.Dec.{T, leb, leb→le, le→leb}
use lib.IntN.{ℤ}
use lib.ListN.{length, take}
use lib.Seq.{take_at}
use Rattle.rules.specs.declared.Rules.{Rules}
use Rattle.base.specs.Every
use Rattle.base.specs.Every.{every}
use Rattle.base.specs.Part.{part}
use Rattle.base.specs.Pieces.{done, Each}
use Rattle.base.proofs.Choice.{T_true, and_both}
use Rattle.base.proofs.Each.{each_cells, each_bytes, each_passed, each_gather, each_emit}
use Rattle.base.proofs.Sum.{sum_ones}
use Rattle.base.proofs.Taken.{drop_none}
use Rattle.base.proofs.UpFrom.{sum_up_same}
use Rattle.form.specs.declared.Form.{Form}
use Rattle.form.specs.Table.{row_of}
use Rattle.form.specs.Count
use Rattle.form.specs.Count.{elements_of, lines_of, cells_of}
use Rattle.form.proofs.Rows.{row_fits}
use Rattle.field.specs.Read.{field_of, formed}
use Rattle.field.specs.Write.{field_text, fits_of}
use Rattle.field.specs.Canonical.{IsCanonical}
use Rattle.field.proofs.Laws.{lawful}
use Rattle.line.specs.Lines.{reach, Whole, Plain}
use Rattle.line.proofs.Pieces.{each_whole, each_plain, unbroken_plain}
use Rattle.line.proofs.Whole.{reach_whole}
use Rattle.line.proofs.Contents.{content_append, content_line}
use Rattle.reading.specs.Blanks.{is_right}
use Rattle.reading.proofs.Blanks.{filled_enough, right_exact}
use Rattle.reading.specs.Plan
use Rattle.reading.specs.Plan.{Line, plan_from, plan_of, elements_in}
use Rattle.reading.specs.Read
use Rattle.reading.specs.Read.{read_field, read_fields, columns_of, read_line, read_lines}
use Rattle.reading.proofs.Sizes.{group_size}
use Rattle.writing.specs.Text.{line_end, line_cells, fields_text, line_text, many_text, lines_text}
use Rattle.writing.specs.Canonical.{CanonicalLine, CanonicalLines}
use Rattle.writing.proofs.Lengths.{plan_length}

-- ---- a field, and the fields of a line

module _ (ρ : Rules) (f : Form) where
  abbrev Field : ℕ → List ℕ → List ℤ → Type 0
  Field e s c = IsCanonical f s c

  field_fits : (s : List ℕ) (c : List ℤ) → IsCanonical f s c → T (fits_of f c)
  field_fits s c p = (lawful f).fitting s c ((lawful f).again s c p)

  field_cells : (e : ℕ) (s : List ℕ) (c : List ℤ) → IsCanonical f s c → length c ≡ (row_of f).cells
  field_cells e s c p = (lawful f).sized c (field_fits s c p)

  field_plain : (e : ℕ) (s : List ℕ) (c : List ℤ) → IsCanonical f s c → Plain s
  field_plain e s c p = unbroken_plain s (rw ((lawful f).one s c p) ((lawful f).unbroken c (field_fits s c p)))

  field_read : (number e : ℕ) (s : List ℕ) (c : List ℤ) → IsCanonical f s c → read_field f number e s ≡ done c
  field_read number e s c p =
      let r = (lawful f).again s c p in
      rw (T_true (formed (field_of f s)) r.good) (ap done r.cells)

  module _ (l : Line) (s : List ℕ) (cs : List ℤ) (h : Each Field (elements_in l) s cs) where
    fields_cells : length cs ≡ line_cells f l
    fields_cells = each_cells (λ (e : ℕ). (row_of f).cells) field_cells (elements_in l) s cs h ∙ sum_up_same (row_of f).cells l.first l.many

    fields_bytes : length s ≡ columns_of f l
    fields_bytes = each_bytes (λ (e : ℕ). (row_of f).width) (λ e x c p. p.width) (elements_in l) s cs h ∙ sum_up_same (row_of f).width l.first l.many

    fields_text_lem : s ≡ fields_text f l cs
    unfolding fields_text
    fields_text_lem = each_emit (λ (e : ℕ). (row_of f).cells) (λ (e : ℕ) c. field_text f c) (λ e x c p. ((lawful f).one x c p, field_cells e x c p)) (elements_in l) s cs h

    fields_read : read_fields f l s ≡ done cs
    unfolding Read.read_fields
    fields_read =
        ap (read_fields f l) (sym (append-nil s))
        ∙ each_gather {wide = λ (e : ℕ) x. (row_of f).width} {read = read_field f l.number} record { back = field_read l.number; exact = λ e x c b p. sym p.width } (elements_in l) s cs [] h

  -- ---- a line

  module _ (l : Line) (x : List ℕ) (cs : List ℤ) (h : CanonicalLine f l x cs) where
    pub line_cells_lem : length cs ≡ line_cells f l
    line_cells_lem = fields_cells l h.content cs h.good

    pub line_text_lem : x ≡ line_text f l cs
    unfolding line_text
    line_text_lem = h.is ∙ ap (λ s. s ++ line_end) (fields_text_lem l h.content cs h.good)

    pub line_whole : Whole 1 x
    line_whole = subst (Whole 1) (sym h.is) (content_line h.content (each_plain field_plain (elements_in l) h.content cs h.good))

    -- nothing stands behind the fields, and nothing is filled
    pub line_read_lem : (short : Bool) → l.many ≤ (row_of f).per_line → read_line ρ f short l x ≡ done cs
    unfolding Read.read_line
    line_read_lem short few =
        let s = h.content in
        let n : length s ≡ columns_of f l = fields_bytes l s cs h.good in
        let w : columns_of f l ≤ 120 = omega (arith, mul-le-mul_right (row_of f).width few, (row_fits f).columns, mul_comm (row_of f).width (row_of f).per_line) in
        let p : part 0 (length s) (s ++ line_end) ≡ s = ap (take (length s - 0)) (drop_none (s ++ line_end)) ∙ take_at s line_end (length s - 0) (omega arith) in
        let r : is_right short (columns_of f l) s ≡ true = right_exact short (columns_of f l) s (enough short n) (omega arith) (omega arith) in
        rw (h.is, content_append ρ s, p, r, filled_enough (columns_of f l) s (omega arith)) (fields_read l s cs h.good)
      where
        enough : (t : Bool) {n m : ℕ} → n ≡ m → cond t 0 m ≤ n
        enough true e = omega arith
        enough false e = omega arith

  -- ---- a group

  -- no line of a plan has more elements than a line may have
  plan_few : (p n j k : ℕ) → T (every (λ l. leb l.many p) (plan_from p n j k))
  unfolding Plan.plan_from Every.up_from
  plan_few p n j zero = tt
  plan_few p n j (suc k) =
      and_both (leb (min p (n - j * p)) p) (every (λ l. leb l.many p) (plan_from p n (suc j) k)) (le→leb (min p (n - j * p)) p (omega arith)) (plan_few p n (suc j) k)

  module _ (count : ℕ) (x : List ℕ) (cs : List ℤ) (h : CanonicalLines ρ f count x cs) where
    pub lines_text_lem : x ≡ lines_text ρ f count cs
    unfolding lines_text many_text Plan.plan_of
    lines_text_lem = each_emit (line_cells f) (line_text f) (λ l x c p. (line_text_lem l x c p, line_cells_lem l x c p)) (plan_of ρ f count) x cs h

    pub lines_whole : Whole (lines_of ρ f count) x
    unfolding Plan.plan_of Count.lines_of
    lines_whole =
        subst (λ k. Whole k x) (sum_ones (plan_of ρ f count) ∙ plan_length ρ f count)
        (each_whole (λ (l : Line). 1) line_whole (plan_of ρ f count) x cs h)

    pub lines_read : (short : Bool) → read_lines ρ f short count x ≡ done cs
    unfolding Read.read_lines Read.read_lines_of Plan.plan_of Count.lines_of
    lines_read short =
        let p = (row_of f).per_line in
        let few = each_passed (λ l. leb l.many p) (plan_of ρ f count) x cs (plan_few p (elements_of ρ f count) 0 (lines_of ρ f count)) h in
        ap (read_lines ρ f short count) (sym (append-nil x))
        ∙ each_gather {wide = λ (l : Line) s. reach s 1} {read = read_line ρ f short} record {
          back = λ l y c q. line_read_lem l y c q.1 short
              (leb→le l.many p q.0);
          exact = λ l y c b q. reach_whole b (line_whole l y c q.1);
        } (plan_of ρ f count) x cs [] few

    pub lines_cells : length cs ≡ cells_of ρ f count
    lines_cells = group_size ρ f false count x cs (lines_read false)
