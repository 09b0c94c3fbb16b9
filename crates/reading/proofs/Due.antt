-- First due: reading a group under its record's counts gives a reply exactly if that reply is due (specs/Due.antt).
-- Assumes nothing.
use Rattle.std.specs.Prelude.{Option, Some, None, Result, Ok, Err}
use mathlib.Core.Path.{◌≡◌, refl, sym, ◌∙◌, ap, subst}
use mathlib.Core.Bool.{Bool, true, false, cond}
use mathlib.Core.List.{List, map}
use mathlib.Core.Logic.{◌↔◌, ◌⊎◌, inl, inr, ⊎_elim}
use Prim.Native.Nat.{ℕ, ◌+◌, ◌*◌}
use native.Mathlib.Nat.{mul-one}
use native.Mathlib.Omega.{arith}
use borrow.Author.Tests.{le-leb, lt-leb, leb-true, leb-false, eq-eqb, eqb-true, eqb-false}
use lib.Dec.{T, leb, eqb}
use lib.IntN.{ℤ}
use lib.ListN.{length, take}
use Rattle.rules.specs.declared.Rules.{Rules}
use Rattle.base.specs.Part.{part}
use Rattle.base.specs.Pieces.{done, bad}
use Rattle.base.specs.Sign.{size_of}
use Rattle.base.proofs.Choice.{T_true, not_T_false}
use Rattle.base.proofs.FirstBad.{IsDone, FirstBad, bad_told, first_bad, all_done}
use Rattle.base.proofs.Taken.{part_zero}
use Rattle.form.specs.declared.Form.{Form}
use Rattle.form.specs.declared.Form.TheVariants.{A120}
use Rattle.form.specs.Table
use Rattle.form.specs.Table.{row_of, form_of}
use Rattle.form.specs.Count.{lines_of, cells_of}
use Rattle.form.proofs.Table.{no_group as none_has, group_form, form_range}
use Rattle.field.specs.Read.{field_of, formed, value_cells}
use Rattle.field.specs.Grammar.{SomeField}
use Rattle.field.proofs.Laws.{some_field}
use Rattle.line.proofs.Contents.{is_content, content_is, content_taken}
use Rattle.count.specs.Tally.{count_of}
use Rattle.count.specs.Rules.{ruling_of}
use Rattle.count.proofs.Rulings.{kept_ruling, ruling_kept, broken_ruling, ruling_broken}
use Rattle.date.proofs.Due as Letters
use Rattle.date.specs.Date.{dated_of}
use Rattle.reply.specs.declared.Refusal.{Refusal}
use Rattle.reply.specs.declared.Refusal.TheVariants.{NoRoom, BadLine, BadField}
use Rattle.reading.specs.Blanks.{may_be_short, is_right, filled_to, right_content}
use Rattle.reading.specs.Plan.{Line}
use Rattle.reading.specs.Read.{Cells, read_field, read_fields, columns_of, read_lines, by_date, dated, read_form, read_ruled, read_by, read_group}
use Rattle.reading.specs.Values.{line_of, planned, field_in, RightLine, Values}
use Rattle.reading.specs.Due.{CleanLine, AllClean, ComesTo, WrongLine, WrongField, Ruled, Roomy, CellsRead, DoneDue, RefusedFor, no_group, broken_rule}
use Rattle.reading.specs.Due.{no_room, bad_line, bad_field, bad_date, Due}
use Rattle.reading.proofs.Blanks.{right_plain}
use Rattle.reading.proofs.Lines.{right_yes, right_is, line_right, line_wrong}
use Rattle.reading.proofs.Fields.{fields_start}
use Rattle.reading.proofs.Sizes.{field_done}
use Rattle.reading.proofs.Values.{fields_pieces, line_read, lines_pieces, lines_start_lem, line_read_lem, line_cells_lem, read_values, values_one}
use Rattle.date.specs.declared.Date.{Date}

-- ---- a field: 9

module _ (f : Form) (line e : ℕ) (y : List ℕ) where
  field_reads : SomeField f y → IsDone (read_field f line e y)
  field_reads h = record { cells = value_cells y (field_of f y); is = rw (T_true (formed (field_of f y)) ((some_field f y).1 h)) refl }

  field_told : (SomeField f y → ⊥) → read_field f line e y ≡ bad (BadField line e)
  field_told n = rw (not_T_false (formed (field_of f y)) (λ t. n ((some_field f y).0 t))) refl

  record FieldBad (r : Refusal) : Type 0 where
    none : SomeField f y → ⊥
    is : r ≡ BadField line e

  field_bad : (r : Refusal) → read_field f line e y ≡ bad r → FieldBad r
  field_bad r h = by (formed (field_of f y)) refl h
    where
      by : (t : Bool) → formed (field_of f y) ≡ t → cond t (done (value_cells y (field_of f y))) (bad (BadField line e)) ≡ bad r → FieldBad r
      by true u w = let z : ◌≡◌ {A = ℕ} 0 1 = cc in absurd (omega arith)
      by false u w = record { none = λ h. let v : T false = rw u at ((some_field f y).1 h) in v; is = cc }

-- ---- a line: 8, then 9

module _ (ρ : Rules) (f : Form) (g : ℕ) (count : ℕ) (x : List ℕ) where
  abbrev short : Bool
  short = may_be_short g

  module _ (j : ℕ) where
    abbrev l : Line
    l = planned ρ f count j

    -- the line is right, and its fields decide
    record LineRight : Type 0 where
      content : List ℕ
      line : RightLine ρ f g count x j content
      reads : line_read ρ f short count x j ≡ read_fields f (planned ρ f count j) (filled_to (columns_of f (planned ρ f count j)) content)

    record LineWrong : Type 0 where
      none : (s : List ℕ) → RightLine ρ f g count x j s → ⊥
      told : line_read ρ f short count x j ≡ bad (BadLine (planned ρ f count j).number)

    right_content_lem : (s : List ℕ) → RightLine ρ f g count x j s → (right_content ρ short (columns_of f l) (line_of x j) ≡ Some (length s)) × (part 0 (length s) (line_of x j) ≡ s)
    right_content_lem s r =
        let y = line_of x j in
        let e = content_is ρ y s r.content in
        let t : part 0 (length s) y ≡ s = part_zero (length s) y ∙ content_taken ρ y s (length s) r.content e in
        (right_yes ρ short (columns_of f l) y (length s) e (ap (is_right short (columns_of f l)) t ∙ (right_plain g (columns_of f l) s).1 r.right), t)

    right_reads : (s : List ℕ) → RightLine ρ f g count x j s → line_read ρ f short count x j ≡ read_fields f (planned ρ f count j) (filled_to (columns_of f (planned ρ f count j)) s)
    right_reads s r =
        let c = right_content_lem s r in
        line_right ρ f short l (line_of x j) (length s) c.0 ∙ ap (λ z. read_fields f l (filled_to (columns_of f l) z)) c.1

    line_either : LineRight ⊎ LineWrong
    line_either = by (right_content ρ short (columns_of f l) (line_of x j)) refl
      where
        by : (c : Option ℕ) → right_content ρ short (columns_of f l) (line_of x j) ≡ c → LineRight ⊎ LineWrong
        by (Some n) e =
            let i = right_is ρ short (columns_of f l) (line_of x j) n e in
            let r : RightLine ρ f g count x j (take n (line_of x j)) =
            record {
              content = (is_content ρ (line_of x j) n i.content).0;
              right = (right_plain g (columns_of f l) (take n (line_of x j))).0
                  (ap (is_right short (columns_of f l)) (sym (part_zero n (line_of x j))) ∙ i.right);
            } in
            inl record { content = take n (line_of x j); line = r; reads = right_reads (take n (line_of x j)) r }
        by None e =
            inr record {
              none = λ s r. let w : Some (length s) ≡ None = sym (right_content_lem s r).0 ∙ e in let z : ◌≡◌ {A = ℕ} 0 1 = cc in omega arith;
              told = line_wrong ρ f short l (line_of x j) e;
            }

    wrong_told : ((s : List ℕ) → RightLine ρ f g count x j s → ⊥) → line_read ρ f short count x j ≡ bad (BadLine (planned ρ f count j).number)
    wrong_told n = ⊎_elim (λ (r : LineRight). absurd (n r.content r.line)) (λ (w : LineWrong). w.told) line_either

    -- ---- clean exactly if it was read

    clean_done : CleanLine ρ f g count x j → IsDone (line_read ρ f short count x j)
    clean_done c =
        let text = filled_to (columns_of f l) c.content in
        let d = all_done (fields_pieces f l text) (λ k h. field_reads f l.number (l.first + k) (field_in ρ f count j c.content k) (c.fields k h)) in
        record { cells = d.cells; is = right_reads c.content c.line ∙ sym (fields_start f l text) ∙ d.is }

    done_clean : IsDone (line_read ρ f short count x j) → CleanLine ρ f g count x j
    done_clean d =
        let r = line_read_lem ρ f g count x j d.cells d.is in
        record { content = r.content; line = r.line; fields = λ k h. (some_field f (field_in ρ f count j r.content k)).0 (r.each k h).good }

  -- ---- the lines

  data LinesDue : Refusal → Type 0 where
    wrong_line : (n : ℕ) → WrongLine ρ f g count x n → LinesDue (BadLine n)
    wrong_field : (n e : ℕ) → WrongField ρ f g count x n e → LinesDue (BadField n e)

  lines_told : (r : Refusal) (j : ℕ) → ComesTo ρ f g count x j → line_read ρ f short count x j ≡ bad r → read_lines ρ f short count x ≡ bad r
  lines_told r j c e =
      sym (lines_start_lem ρ f short count x)
      ∙ bad_told (lines_pieces ρ f short count x) r record { at = j; inside = c.inside; earlier = λ i h. clean_done i (c.earlier i h); told = e }

  line_given : (n : ℕ) → WrongLine ρ f g count x n → read_lines ρ f short count x ≡ bad (BadLine n)
  line_given n w = lines_told (BadLine n) w.j w.comes (wrong_told w.j w.wrong ∙ ap (λ k. bad (BadLine k)) (sym w.number))

  field_given : (n e : ℕ) → WrongField ρ f g count x n e → read_lines ρ f short count x ≡ bad (BadField n e)
  field_given n e w =
      let t = filled_to (columns_of f (l w.j)) w.content in
      lines_told (BadField n e) w.j w.comes
      (right_reads w.j w.content w.line
      ∙ sym (fields_start f (l w.j) t)
      ∙ bad_told (fields_pieces f (l w.j) t) (BadField n e) record {
        at = w.k;
        inside = w.inside;
        earlier = λ i h. field_reads f (l w.j).number ((l w.j).first + i) (field_in ρ f count w.j w.content i) (w.earlier i h);
        told = field_told f (l w.j).number ((l w.j).first + w.k) (field_in ρ f count w.j w.content w.k) w.misformed ∙ rw (w.number, w.element) refl;
      })

  -- what is told of the lines
  lines_due : (r : Refusal) → read_lines ρ f short count x ≡ bad r → LinesDue r
  lines_due r e = ⊎_elim inside wrong (line_either b.at)
    where
      b : FirstBad (lines_of ρ f count) (line_read ρ f short count x) r
      b = (first_bad (lines_pieces ρ f short count x) r).0 (lines_start_lem ρ f short count x ∙ e)

      comes : ComesTo ρ f g count x b.at
      comes = record { inside = b.inside; earlier = λ i h. done_clean i (b.earlier i h) }

      wrong : LineWrong b.at → LinesDue r
      wrong w =
          let t : bad (BadLine (l b.at).number) ≡ bad r = sym w.told ∙ b.told in
          let u : BadLine (l b.at).number ≡ r = cc in
          subst LinesDue u (wrong_line (l b.at).number record { j = b.at; comes = comes; wrong = w.none; number = refl })

      inside : LineRight b.at → LinesDue r
      inside w =
          let t = filled_to (columns_of f (l b.at)) w.content in
          let c = (first_bad (fields_pieces f (l b.at) t) r).0 (fields_start f (l b.at) t ∙ sym w.reads ∙ b.told) in
          let q = field_bad f (l b.at).number ((l b.at).first + c.at) (field_in ρ f count b.at w.content c.at) r c.told in
          subst LinesDue (sym q.is) (wrong_field (l b.at).number ((l b.at).first + c.at) record {
            j = b.at;
            k = c.at;
            comes = comes;
            content = w.content;
            line = w.line;
            inside = c.inside;
            earlier =
                λ i h. (some_field f (field_in ρ f count b.at w.content i)).0
                (field_done f (l b.at).number ((l b.at).first + i) (field_in ρ f count b.at w.content i) (c.earlier i h).cells (c.earlier i h).is).good;
            misformed = q.none;
            number = refl;
            element = refl;
          })

  letters_one : (row_of A120).per_line ≡ 1
  unfolding Table.row_of Table.listed_as
  letters_one = refl

  -- R232: in A120 a line is an element, so both have the same number
  pub letters_line : f ≡ A120 → (n e : ℕ) → WrongField ρ f g count x n e → e ≡ n
  letters_line u n e w =
      let p : (row_of f).per_line ≡ 1 = ap (λ k. (row_of k).per_line) u ∙ letters_one in
      let m : w.j * (row_of f).per_line ≡ w.j = ap (λ k. w.j * k) p ∙ mul-one w.j in
      omega (arith, w.number, w.element, w.inside, p)

  -- all clean, with these values: these cells were read
  pub lines_read : (cs : List ℤ) → AllClean ρ f g count x → Values ρ f g count x cs → read_lines ρ f short count x ≡ done cs
  lines_read cs c v =
      let d = all_done (lines_pieces ρ f short count x) (λ j h. clean_done j (c j h)) in
      let e : read_lines ρ f short count x ≡ done d.cells = sym (lines_start_lem ρ f short count x) ∙ d.is in
      e ∙ ap done (values_one ρ f g count x d.cells cs (read_values ρ f g count x d.cells e) v)

  pub lines_clean : (cs : List ℤ) → read_lines ρ f short count x ≡ done cs → AllClean ρ f g count x
  lines_clean cs e j h = done_clean j record { cells = _; is = line_cells_lem ρ f g count x cs e j h }

-- ---- a group

module _ (ρ : Rules) (ns : List ℕ) (g : ℕ) (x : List ℕ) (room : ℕ) where
  -- ---- what is due is given

  to_lines : (f : Form) → Roomy ρ ns g x room f → read_group ρ ns g x room ≡ dated g (read_lines ρ f (may_be_short g) (count_of ns g) x)
  unfolding read_group read_form
  to_lines f r = rw (r.ruled.form, kept_ruling ns r.ruled.kept, le-leb (cells_of ρ f (count_of ns g)) room r.enough) refl

  to_cells : (cs : List ℤ) → CellsRead ρ ns g x room cs → read_group ρ ns g x room ≡ dated g (done cs)
  to_cells cs h = to_lines h.f h.roomy ∙ ap (dated g) (lines_read ρ h.f g (count_of ns g) x cs h.clean h.values)

  refusal_given : (r : Refusal) → RefusedFor ρ ns g x room r → read_group ρ ns g x room ≡ bad r
  unfolding read_group read_form
  refusal_given r (no_group d) = rw ((none_has g).1 (λ i. d (i.low, i.high))) refl
  refusal_given r (broken_rule h d) = rw ((group_form g d.low d.high).1, broken_ruling ns d.broken) refl
  refusal_given r (no_room d) = rw (d.ruled.form, kept_ruling ns d.ruled.kept, lt-leb (cells_of ρ d.f (count_of ns g)) room d.few) refl
  refusal_given r (bad_line n d) = to_lines d.f d.roomy ∙ ap (dated g) (line_given ρ d.f g (count_of ns g) x n d.line)
  refusal_given r (bad_field n e d) = to_lines d.f d.roomy ∙ ap (dated g) (field_given ρ d.f g (count_of ns g) x n e d.field)
  refusal_given r (bad_date p d) =
      to_cells d.cs d.cells
      ∙ rw (eq-eqb g 3 d.three, (Letters.first_due (map size_of d.cs) (Err p)).1 d.wrong) refl

  done_given : (cs : List ℤ) → DoneDue ρ ns g x room cs → read_group ρ ns g x room ≡ done cs
  done_given cs d = to_cells cs d.cells ∙ by (eqb g 3) refl
    where
      by : (t : Bool) → eqb g 3 ≡ t → cond t (by_date cs (dated_of (map size_of cs))) (done cs) ≡ done cs
      by true e = let t = d.date (eqb-true g 3 e) in rw ((Letters.first_due (map size_of cs) (Ok t.0)).1 t.1) refl
      by false e = refl

  given : (c : Cells) → Due ρ ns g x room c → read_group ρ ns g x room ≡ c
  given (done cs) d = done_given cs d
  given (bad r) d = refusal_given r d

  -- ---- what is given is due

  from_bad : (f : Form) (r : Refusal) → Roomy ρ ns g x room f → LinesDue ρ f g (count_of ns g) x r → RefusedFor ρ ns g x room r
  from_bad f r h (wrong_line n d) = bad_line n record { f = f; roomy = h; line = d }
  from_bad f r h (wrong_field n e d) = bad_field n e record { f = f; roomy = h; field = d }

  from_date : (cs : List ℤ) (t : Bool) (c : Result Date ℕ) → CellsRead ρ ns g x room cs → eqb g 3 ≡ t → dated_of (map size_of cs) ≡ c → Due ρ ns g x room (cond t (by_date cs c) (done cs))
  from_date cs true (Ok d) h e u = record { cells = h; date = λ three. (d, (Letters.first_due (map size_of cs) (Ok d)).0 u) }
  from_date cs true (Err p) h e u = bad_date p record { cs = cs; cells = h; three = eqb-true g 3 e; wrong = (Letters.first_due (map size_of cs) (Err p)).0 u }
  from_date cs false c h e u = record { cells = h; date = λ three. absurd (eqb-false g 3 e three) }

  from_lines : (f : Form) (c : Cells) → Roomy ρ ns g x room f → read_lines ρ f (may_be_short g) (count_of ns g) x ≡ c → Due ρ ns g x room (dated g c)
  from_lines f (done cs) h e =
      from_date cs (eqb g 3) (dated_of (map size_of cs)) record { f = f; roomy = h; clean = lines_clean ρ f g (count_of ns g) x cs e; values = read_values ρ f g (count_of ns g) x cs e } refl refl
  from_lines f (bad r) h e = from_bad f r h (lines_due ρ f g (count_of ns g) x r e)

  from_room : (f : Form) (t : Bool) → Ruled ρ ns g x room f → leb (cells_of ρ f (count_of ns g)) room ≡ t
      → Due ρ ns g x room (cond t (dated g (read_lines ρ f (may_be_short g) (count_of ns g) x)) (bad NoRoom))
  from_room f true h e = from_lines f (read_lines ρ f (may_be_short g) (count_of ns g) x) record { ruled = h; enough = leb-true (cells_of ρ f (count_of ns g)) room e } refl
  from_room f false h e = no_room record { f = f; ruled = h; few = leb-false (cells_of ρ f (count_of ns g)) room e }

  from_ruling : (f : Form) (k : Option ℕ) → form_of g ≡ Some f → ruling_of ns ≡ k → Due ρ ns g x room (read_ruled ρ f ns g x room k)
  unfolding read_form
  from_ruling f None h e = from_room f (leb (cells_of ρ f (count_of ns g)) room) record { form = h; kept = ruling_kept ns e } refl
  from_ruling f (Some k) h e = let r = form_range g f h in broken_rule k record { low = r.0; high = r.1; broken = ruling_broken ns e }

  is_due : Due ρ ns g x room (read_group ρ ns g x room)
  unfolding read_group
  is_due = by (form_of g) refl
    where
      by : (h : Option Form) → form_of g ≡ h → Due ρ ns g x room (read_by ρ ns g x room h)
      by (Some f) e = from_ruling f (ruling_of ns) e refl
      by None e = no_group (λ i. (none_has g).0 e record { low = i.0; high = i.1 })

  -- the reply that is given is the one that is due, and no other is
  pub first_due : (c : Cells) → read_group ρ ns g x room ≡ c ↔ Due ρ ns g x room c
  first_due c = (λ e. subst (Due ρ ns g x room) e is_due, given c)
