-- How many cells are read: a field's as many as its form has, a line's for each of its elements, a group's for each of its elements.
-- Assumes nothing.
use Rattle.std.specs.Prelude.{Option, Some, None, Ok}
use mathlib.Core.Path.{◌≡◌, refl, sym, ◌∙◌, ap}
use mathlib.Core.Bool.{Bool, true, false, cond}
use mathlib.Core.List.{List, []}
use Prim.Native.Nat.{ℕ, zero, suc, ◌+◌, ◌-◌, ◌*◌, min}
use native.Mathlib.Nat.{add-mul, one-mul, zero-mul, suc-mul, add-zero, zero-add}
use native.Mathlib.Omega.{arith}
use lib.IntN.{ℤ}
use lib.ListN.{length, take, drop, length-append}
use Rattle.rules.specs.declared.Rules.{Rules}
use Rattle.base.specs.Every
use Rattle.base.specs.Every.{up_from}
use Rattle.base.specs.Part.{part}
use Rattle.base.specs.Pieces
use Rattle.base.specs.Pieces.{done, bad, gather}
use Rattle.base.proofs.Choice.{true_T}
use Rattle.base.proofs.FirstBad.{IsDone}
use Rattle.base.proofs.Pieces.{both_done}
use Rattle.base.proofs.Taken.{drop_none}
use Rattle.form.specs.declared.Form.{Form}
use Rattle.form.specs.Table.{row_of}
use Rattle.form.specs.Count
use Rattle.form.specs.Count.{elements_of, lines_of, cells_of, rounded_up}
use Rattle.form.proofs.Rows.{row_fits}
use Rattle.form.proofs.Rounding.{lines_enough}
use Rattle.field.specs.Read.{field_of, formed, value_cells, ReadsAs}
use Rattle.field.proofs.Laws.{lawful}
use Rattle.line.specs.Lines.{reach}
use Rattle.line.specs.Contents.{content_of}
use Rattle.reading.specs.Blanks.{filled_to, is_right}
use Rattle.reading.specs.Plan.{Line, line_at, plan_from, plan_of}
use Rattle.reply.specs.declared.Refusal.{Refusal}
use Rattle.reply.specs.declared.Refusal.TheVariants.{BadLine, BadField}
use Rattle.reading.specs.Read.{Cells, read_field, read_fields, columns_of, read_content, read_line, read_lines_of, read_lines, verdict_of}
use Rattle.reading.proofs.Checking.{lines_more, lines_none}

no_done : {A : Type 0} {r : Refusal} {cs : List ℤ} → ◌≡◌ {A = Cells} (bad r) (done cs) → A
no_done e = let z : ◌≡◌ {A = ℕ} 0 1 = cc in absurd (omega arith)

-- what is clean was read
pub clean_read : (g : Cells) → verdict_of g ≡ Ok tt → IsDone g
clean_read (done cs) e = record { cells = cs; is = refl }
clean_read (bad r) e = let z : ◌≡◌ {A = ℕ} 0 1 = cc in absurd (omega arith)

-- ---- a field

pub field_done : (f : Form) (line e : ℕ) (x : List ℕ) (cs : List ℤ) → read_field f line e x ≡ done cs → ReadsAs f x cs
field_done f line e x cs h = by (formed (field_of f x)) refl h
  where
    by : (t : Bool) → formed (field_of f x) ≡ t → cond t (done (value_cells x (field_of f x))) (bad (BadField line e)) ≡ done cs → ReadsAs f x cs
    by true u v = record { good = true_T (formed (field_of f x)) u; cells = cc }
    by false u v = no_done v

pub reads_size : (f : Form) (x : List ℕ) (cs : List ℤ) → ReadsAs f x cs → length cs ≡ (row_of f).cells
reads_size f x cs r = (lawful f).sized cs ((lawful f).fitting x cs r)

-- ---- a line

pub fields_size : (f : Form) (number e k : ℕ) (s : List ℕ) (cs : List ℤ) → read_fields f (record { number = number; first = e; many = k }) s ≡ done cs → length cs ≡ k * (row_of f).cells
unfolding read_fields Pieces.gather Every.up_from
fields_size f number e zero s cs h =
    let z : [] ≡ cs = cc in
    sym (ap length z) ∙ sym (zero-mul (row_of f).cells)
fields_size f number e (suc k) s cs h =
    let w = (row_of f).width in
    let d = both_done (read_field f number e (take w s)) (read_fields f (record { number = number; first = suc e; many = k }) (drop w s)) cs h in
    ap length d.all ∙ length-append d.first d.second
    ∙ omega (
      arith,
      reads_size f (take w s) d.first (field_done f number e (take w s) d.first d.first_is),
      fields_size f number (suc e) k (drop w s) d.second
          d.second_is,
      suc-mul k (row_of f).cells,
    )

-- a line that was read is right, and its fields were
pub record LineDone (ρ : Rules) (f : Form) (short : Bool) (l : Line) (x : List ℕ) (cs : List ℤ) : Type 0 where
  pub bytes : ℕ
  pub content : content_of ρ x ≡ Some bytes
  pub right : is_right short (columns_of f l) (part 0 bytes x) ≡ true
  pub fields : read_fields f l (filled_to (columns_of f l) (part 0 bytes x)) ≡ done cs

pub line_done : (ρ : Rules) (f : Form) (short : Bool) (l : Line) (x : List ℕ) (cs : List ℤ) → read_line ρ f short l x ≡ done cs → LineDone ρ f short l x cs
unfolding read_line
line_done ρ f short l x cs h = by (content_of ρ x) refl h
  where
    test : (n : ℕ) (t : Bool) → content_of ρ x ≡ Some n → is_right short (columns_of f l) (part 0 n x) ≡ t
        → cond t (read_fields f l (filled_to (columns_of f l) (part 0 n x))) (bad (BadLine l.number)) ≡ done cs → LineDone ρ f short l x cs
    test n true u v w = record { bytes = n; content = u; right = v; fields = w }
    test n false u v w = no_done w

    by : (c : Option ℕ) → content_of ρ x ≡ c → read_content f short l x c ≡ done cs → LineDone ρ f short l x cs
    by (Some n) u w = test n (is_right short (columns_of f l) (part 0 n x)) u refl w
    by None u w = no_done w

pub line_size : (ρ : Rules) (f : Form) (short : Bool) (l : Line) (x : List ℕ) (cs : List ℤ) → read_line ρ f short l x ≡ done cs → length cs ≡ l.many * (row_of f).cells
line_size ρ f short l x cs h =
    let d = line_done ρ f short l x cs h in
    fields_size f l.number l.first l.many (filled_to (columns_of f l) (part 0 d.bytes x)) cs d.fields

-- ---- a group

module _ (ρ : Rules) (f : Form) (short : Bool) (s : List ℕ) (p n : ℕ) where
  pub lines_size : (j k at : ℕ) (cs : List ℤ) → read_lines_of ρ f short (plan_from p n j k) (drop at s) ≡ done cs → length cs ≡ (min n ((j + k) * p) - j * p) * (row_of f).cells
  lines_size j zero at cs h =
      let z : [] ≡ cs = done_same [] cs (sym (lines_none ρ f short s p n j at) ∙ h) in
      let m : min n ((j + 0) * p) - j * p ≡ 0 = rw (add-zero j) (omega arith) in
      sym (ap length z) ∙ sym (rw m (zero-mul (row_of f).cells))
    where
      done_same : (a b : List ℤ) → ◌≡◌ {A = Cells} (done a) (done b) → a ≡ b
      done_same a b e = cc
  lines_size j (suc k) at cs h =
      let end = at + reach (drop at s) 1 in
      let d = both_done (read_line ρ f short (line_at p n j) (part at end s)) (read_lines_of ρ f short (plan_from p n (j + 1) k) (drop end s)) cs (sym (lines_more ρ f short s p n j k at end refl) ∙ h) in
      let one = line_size ρ f short (line_at p n j) (part at end s) d.first d.first_is in
      let two = lines_size (j + 1) k end d.second d.second_is in
      ap length d.all ∙ length-append d.first d.second
      ∙ rw (one, two, ← add-mul (min p (n - j * p)) (min n ((j + 1 + k) * p) - (j + 1) * p) (row_of f).cells)
      (ap (λ m. m * (row_of f).cells) (together j k))
    where
      together : (j k : ℕ) → min p (n - j * p) + (min n ((j + 1 + k) * p) - (j + 1) * p) ≡ min n ((j + suc k) * p) - j * p
      together j k =
          let e : j + suc k ≡ j + 1 + k = omega arith in
          rw e (omega (arith, add-mul j 1 p, one-mul p, add-mul (j + 1) k p))

pub group_size : (ρ : Rules) (f : Form) (short : Bool) (count : ℕ) (s : List ℕ) (cs : List ℤ) → read_lines ρ f short count s ≡ done cs → length cs ≡ cells_of ρ f count
unfolding read_lines plan_of Count.cells_of Count.lines_of
group_size ρ f short count s cs h =
    let p = (row_of f).per_line in
    let n = elements_of ρ f count in
    let m : min n ((0 + rounded_up n p) * p) - 0 * p ≡ n = rw (zero-add (rounded_up n p), zero-mul p) (omega (arith, lines_enough n p (row_fits f).some)) in
    lines_size ρ f short s p n 0 (rounded_up n p) 0 cs (rw (drop_none s) h) ∙ rw m
