-- What reads fits: where the lines of a group read with 0, each of its elements' cells has a field of its form.
-- Assumes nothing.
use Rattle.std.specs.Prelude.{Ok}
use mathlib.Core.Path.{◌≡◌, refl, sym, ◌∙◌, ap, subst}
use mathlib.Core.Bool.{Bool}
use mathlib.Core.List.{List, ◌++◌, flat_map}
use Prim.Native.Nat.{ℕ, zero, suc, ◌+◌, ◌-◌, ◌*◌, min}
use native.Mathlib.Nat.{add-zero, zero-add, zero-mul, add-mul, suc-mul}
use native.Mathlib.Omega.{arith}
use lib.Dec.{T}
use lib.IntN.{ℤ}
use Rattle.rules.specs.declared.Rules.{Rules}
use Rattle.base.specs.Every
use Rattle.base.specs.Every.{up_from}
use Rattle.base.specs.Part.{part}
use Rattle.base.specs.Pieces.{done}
use Rattle.base.proofs.Choice.{T_true}
use Rattle.base.proofs.Each.{each_imply, each_own, Pieced, gather_each, each_flat}
use Rattle.base.proofs.UpFrom.{up_append}
use Rattle.form.specs.declared.Form.{Form}
use Rattle.form.specs.Table.{row_of}
use Rattle.form.specs.Count
use Rattle.form.specs.Count.{elements_of, rounded_up}
use Rattle.form.proofs.Rows.{row_fits}
use Rattle.form.proofs.Rounding.{lines_enough}
use Rattle.field.specs.Write.{fits_of}
use Rattle.field.proofs.Laws.{lawful}
use Rattle.line.specs.Lines.{reach}
use Rattle.reading.specs.Blanks.{filled_to}
use Rattle.reading.specs.Plan
use Rattle.reading.specs.Plan.{Line, plan_from, plan_of, elements_in}
use Rattle.reading.specs.Read
use Rattle.reading.specs.Read.{read_field, read_fields, columns_of, read_line, read_lines}
use Rattle.reading.proofs.Sizes.{field_done, line_done}
use Rattle.writing.specs.Fitting.{element_fit, elements_fit}
use Rattle.writing.proofs.Fitting.{own_misfit}

-- ---- the elements of a plan's lines are all elements, in order

plan_elements : (p n j k : ℕ) → flat_map elements_in (plan_from p n j k) ≡ up_from (j * p + 1) (min n ((j + k) * p) - j * p)
unfolding Plan.plan_from Every.up_from flat_map
plan_elements p n j zero =
    let z : min n ((j + 0) * p) - j * p ≡ 0 = rw (add-zero j) (omega arith) in
    rw z
plan_elements p n j (suc k) =
    let m = min p (n - j * p) in
    let r = min n ((suc j + k) * p) - suc j * p in
    let e : suc j + k ≡ j + suc k = omega arith in
    ap (λ l. up_from (j * p + 1) m ++ l) (plan_elements p n (suc j) k ∙ next r refl)
    ∙ sym (up_append (j * p + 1) m r)
    ∙ ap (up_from (j * p + 1)) (together ∙ ap (λ i. min n (i * p) - j * p) e)
  where
    together : min p (n - j * p) + (min n ((suc j + k) * p) - suc j * p) ≡ min n ((suc j + k) * p) - j * p
    together = omega (arith, suc-mul j p, add-mul (suc j) k p)

    next : (r : ℕ) → min n ((suc j + k) * p) - suc j * p ≡ r → up_from (suc j * p + 1) r ≡ up_from (j * p + 1 + min p (n - j * p)) r
    next zero e = refl
    next (suc r) e = ap (λ a. up_from a (suc r)) full
      where
        full : suc j * p + 1 ≡ j * p + 1 + min p (n - j * p)
        full = omega (arith, suc-mul j p)

-- ---- what reads fits

module _ (ρ : Rules) (f : Form) where
  abbrev Fits : ℕ → List ℕ → List ℤ → Type 0
  Fits e x c = T (fits_of f c)

  fields_fit : (l : Line) (s : List ℕ) (c : List ℤ) → read_fields f l s ≡ done c → Pieced Fits (elements_in l) c
  unfolding Read.read_fields
  fields_fit l s c e =
      let g = gather_each (λ (e : ℕ) x. (row_of f).width) (read_field f l.number) (elements_in l) s c e in
      record { text = g.text; each = each_imply (λ e x c r. (lawful f).fitting x c (field_done f l.number e x c r)) (elements_in l) g.text c g.each }

  line_fits : (short : Bool) (l : Line) (x : List ℕ) (c : List ℤ) → read_line ρ f short l x ≡ done c → Pieced Fits (elements_in l) c
  line_fits short l x c e =
      let d = line_done ρ f short l x c e in
      fields_fit l (filled_to (columns_of f l) (part 0 d.bytes x)) c d.fields

  lines_fit : (short : Bool) (count : ℕ) (x : List ℕ) (c : List ℤ) → read_lines ρ f short count x ≡ done c → Pieced Fits (up_from 1 (elements_of ρ f count)) c
  unfolding Read.read_lines Read.read_lines_of Plan.plan_of Count.lines_of
  lines_fit short count x c e =
      let g = gather_each (λ (l : Line) s. reach s 1) (read_line ρ f short) (plan_of ρ f count) x c e in
      let p = (row_of f).per_line in
      let n = elements_of ρ f count in
      let k = rounded_up n p in
      let m : min n ((0 + k) * p) - 0 * p ≡ n = rw (zero-add k, zero-mul p) (omega (arith, lines_enough n p (row_fits f).some)) in
      let a : 0 * p + 1 ≡ 1 = rw (zero-mul p) (omega arith) in
      subst (λ es. Pieced Fits es c) (plan_elements p n 0 k ∙ rw (m, a))
      (each_flat elements_in (plan_of ρ f count) g.text c (each_imply (λ l y d r. line_fits short l y d r) (plan_of ρ f count) g.text c g.each))

  pub group_fit_lem : (short : Bool) (g count : ℕ) (x : List ℕ) (c : List ℤ) → read_lines ρ f short count x ≡ done c → elements_fit ρ f g count c ≡ Ok tt
  unfolding elements_fit
  group_fit_lem short g count x c e =
      let p = lines_fit short count x c e in
      let es = up_from 1 (elements_of ρ f count) in
      own_misfit (λ (e : ℕ). (row_of f).cells) (element_fit f g) es c
      (each_own (λ (e : ℕ). (row_of f).cells) (λ e c. element_fit f g e c ≡ Ok tt) (λ e x c t. ((lawful f).sized c t, element g e c t)) es p.text c p.each)
    where
      element : (g e : ℕ) (c : List ℤ) → T (fits_of f c) → element_fit f g e c ≡ Ok tt
      element g e c t = rw (T_true (fits_of f c) t)
