-- What it says that all cells fit: each element's own cells fit a field of its form, in a group, in each line of it, and in each group of a
-- record; only the cells that the counts need matter.
-- Assumes nothing.
use Rattle.std.specs.Prelude.{Some, Result, Ok, Err}
use mathlib.Core.Path.{◌≡◌, refl, sym, ◌∙◌, ap, subst}
use mathlib.Core.Bool.{Bool, true, false, cond}
use mathlib.Core.List.{List, [], ◌∷◌, map}
use Prim.Native.Nat.{ℕ, zero, suc, ◌+◌, ◌-◌, ◌*◌, ◌<◌, ◌≤◌, min}
use native.Mathlib.Nat.{add-mul, zero-mul, one-mul, mul-le-mul_right}
use native.Mathlib.Numerals.{add-one}
use native.Mathlib.Omega.{arith}
use lib.Dec.{T}
use lib.IntN.{ℤ}
use lib.ListN.{take, drop}
use lib.Seq.{take-take, drop-drop}
use Rattle.rules.specs.declared.Rules.{Rules}
use Rattle.base.specs.Every
use Rattle.base.specs.Every.{up_from}
use Rattle.base.specs.Pieces
use Rattle.base.specs.Pieces.{Own}
use Rattle.base.specs.Sum
use Rattle.base.specs.Sum.{sum}
use Rattle.base.proofs.Choice.{T_true}
use Rattle.base.proofs.Taken.{drop_take, drop_none}
use Rattle.base.proofs.UpFrom.{sum_up_same, sum_up_more, own_up, up_own}
use Rattle.form.specs.declared.Form.{Form}
use Rattle.form.specs.Table.{row_of, form_of}
use Rattle.form.specs.Count
use Rattle.form.specs.Count.{elements_of, rounded_up, cells_of}
use Rattle.field.specs.Write.{fits_of}
use Rattle.count.specs.Tally
use Rattle.count.specs.Tally.{count_of, cells_in, cells_before}
use Rattle.count.proofs.Tallied.{cells_first, cells_next}
use Rattle.reading.specs.Plan
use Rattle.reading.specs.Plan.{plan_from, plan_of, many_plan}
use Rattle.writing.specs.Fitting.{Fitted, first_of, first_misfit, element_fit, elements_fit, group_fit, fit_of}
use Rattle.writing.specs.Text.{line_cells}
use Rattle.reply.specs.declared.Refusal.TheVariants.{NoField}
use Rattle.reply.specs.declared.Refusal.{Refusal}

-- ---- pieces of which all fit

first_left : (x y : Result (Unit {0}) Refusal) → first_of x y ≡ Ok tt → x ≡ Ok tt
first_left (Ok all) y e = refl
first_left (Err r) y e = cc

first_right : (x y : Result (Unit {0}) Refusal) → first_of x y ≡ Ok tt → y ≡ Ok tt
first_right (Ok all) y e = e
first_right (Err r) y e = cc

module _ {A : Type 0} (size : A → ℕ) (fit : A → List ℤ → Result (Unit {0}) Refusal) where
  pub misfit_own : (bs : List A) (cs : List ℤ) → first_misfit size fit bs cs ≡ Ok tt → Own size (λ a c. fit a c ≡ Ok tt) bs cs
  unfolding first_misfit Pieces.Own
  misfit_own [] cs e = tt
  misfit_own (a ∷ bs) cs e =
      let x = fit a (take (size a) cs) in
      let y = first_misfit size fit bs (drop (size a) cs) in
      (first_left x y e, misfit_own bs (drop (size a) cs) (first_right x y e))

  pub own_misfit : (bs : List A) (cs : List ℤ) → Own size (λ a c. fit a c ≡ Ok tt) bs cs → first_misfit size fit bs cs ≡ Ok tt
  unfolding first_misfit Pieces.Own
  own_misfit [] cs o = refl
  own_misfit (a ∷ bs) cs o = rw (o.0, own_misfit bs (drop (size a) cs) o.1)

  -- only the cells that the pieces take matter
  pub misfit_take : (bs : List A) (cs : List ℤ) (n : ℕ) → sum (map size bs) ≤ n → first_misfit size fit bs (take n cs) ≡ first_misfit size fit bs cs
  unfolding first_misfit Sum.sum
  misfit_take [] cs n h = refl
  misfit_take (a ∷ bs) cs n h =
      rw (take-take (size a) n cs (omega arith), drop_take (size a) n cs, misfit_take bs (drop (size a) cs) (n - size a) (omega arith))

-- ---- the elements of a group

element_fits : (f : Form) (g e : ℕ) (c : List ℤ) → element_fit f g e c ≡ Ok tt → T (fits_of f c)
element_fits f g e c h = by (fits_of f c) h
  where
    by : (t : Bool) → ◌≡◌ {A = Result (Unit {0}) Refusal} (cond t (Ok tt) (Err (NoField g e))) (Ok tt) → T t
    by true u = tt
    by false u = cc

fits_element : (f : Form) (g e : ℕ) (c : List ℤ) → T (fits_of f c) → element_fit f g e c ≡ Ok tt
fits_element f g e c t = rw (T_true (fits_of f c) t)

-- those with j lines before them have min n (j * p) elements before them
pub line_behind : (p n j : ℕ) → min n (j * p) + min p (n - j * p) ≡ min n ((j + 1) * p)
line_behind p n j = omega (arith, add-mul j 1 p, one-mul p)

module _ (f : Form) where
  abbrev size : ℕ → ℕ
  size e = (row_of f).cells

  -- the elements behind the first j, and those of a line's cells alone
  pub fitted_drop : (k j : ℕ) (cs : List ℤ) → Fitted f k cs → Fitted f (k - j) (drop (j * (row_of f).cells) cs)
  fitted_drop k j cs h i l =
      let e : drop (i * (row_of f).cells) (drop (j * (row_of f).cells) cs) ≡ drop ((j + i) * (row_of f).cells) cs =
      drop-drop (i * (row_of f).cells) (j * (row_of f).cells) cs ∙ ap (λ m. drop m cs) (sym (add-mul j i (row_of f).cells)) in
      rw e (h (j + i) (omega arith))

  pub fitted_take : (k j : ℕ) (cs : List ℤ) → j ≤ k → Fitted f k cs → Fitted f j (take (j * (row_of f).cells) cs)
  fitted_take k j cs m h i l =
      let c = (row_of f).cells in
      let n : c ≤ j * c - i * c = omega (arith, mul-le-mul_right {m = i + 1} {n = j} c (omega arith), add-mul i 1 c, one-mul c) in
      let e : take c (drop (i * c) (take (j * c) cs)) ≡ take c (drop (i * c) cs) = ap (take c) (drop_take (i * c) (j * c) cs) ∙ take-take c (j * c - i * c) (drop (i * c) cs) n in
      rw e (h i (omega arith))

  -- as pieces, whatever their numbers are
  pub fitted_own : (a k : ℕ) (cs : List ℤ) → Fitted f k cs → Own (λ (e : ℕ). (row_of f).cells) (λ (e : ℕ) c. T (fits_of f c)) (up_from a k) cs
  fitted_own a k cs h =
      up_own size (λ (e : ℕ) c. T (fits_of f c)) a k cs each
    where
      each : (i : ℕ) → i < k → T (fits_of f (take (row_of f).cells (drop (sum (map size (up_from a i))) cs)))
      each i l = subst (λ m. T (fits_of f (take (row_of f).cells (drop m cs)))) (sym (sum_up_same (row_of f).cells a i)) (h i l)

  -- ---- the lines

  pub fitted_lines : (p n j k : ℕ) (cs : List ℤ) → Fitted f n cs → Own (line_cells f) (λ l c. Fitted f l.many c) (plan_from p n j k) (drop (min n (j * p) * (row_of f).cells) cs)
  unfolding Plan.plan_from Pieces.Own Every.up_from
  fitted_lines p n j zero cs h = tt
  fitted_lines p n j (suc k) cs h =
      let c = (row_of f).cells in
      let m = min n (j * p) in
      let many = min p (n - j * p) in
      let e : drop (many * c) (drop (m * c) cs) ≡ drop (min n (suc j * p) * c) cs =
      drop-drop (many * c) (m * c) cs ∙ ap (λ x. drop x cs) (sym (add-mul m many c) ∙ ap (λ x. x * c) (line_behind p n j ∙ ap (λ i. min n (i * p)) (add-one j))) in
      (fitted_take (n - m) many (drop (m * c) cs) (omega arith) (fitted_drop n m cs h), rw e (fitted_lines p n (suc j) k cs h))

  -- each line has its own cells, and they fit
  pub many_own : (n : ℕ) (cs : List ℤ) → Fitted f n cs → Own (line_cells f) (λ l c. Fitted f l.many c) (many_plan f n) cs
  many_own n cs h =
      let p = (row_of f).per_line in
      let z : min n (0 * p) ≡ 0 = omega (arith, zero-mul p) in
      rw (z, zero-mul (row_of f).cells, drop_none cs) at (fitted_lines p n 0 (rounded_up n p) cs h)

module _ (ρ : Rules) (f : Form) where
  pub elements_fitted : (g count : ℕ) (cs : List ℤ) → elements_fit ρ f g count cs ≡ Ok tt → Fitted f (elements_of ρ f count) cs
  unfolding elements_fit
  elements_fitted g count cs h i l =
      let o = own_up (size f) (λ e c. element_fit f g e c ≡ Ok tt) 1 (elements_of ρ f count) cs (misfit_own (size f) (element_fit f g) (up_from 1 (elements_of ρ f count)) cs h) i l in
      element_fits f g (1 + i) (take (row_of f).cells (drop (i * (row_of f).cells) cs))
      (subst (λ m. element_fit f g (1 + i) (take (row_of f).cells (drop m cs)) ≡ Ok tt) (sum_up_same (row_of f).cells 1 i) o)

  pub fitted_elements : (g count : ℕ) (cs : List ℤ) → Fitted f (elements_of ρ f count) cs → elements_fit ρ f g count cs ≡ Ok tt
  unfolding elements_fit
  fitted_elements g count cs h =
      own_misfit (size f) (element_fit f g) (up_from 1 (elements_of ρ f count)) cs
      (up_own (size f) (λ e c. element_fit f g e c ≡ Ok tt) 1 (elements_of ρ f count) cs each)
    where
      each : (i : ℕ) → i < elements_of ρ f count → element_fit f g (1 + i) (take (row_of f).cells (drop (sum (map (size f) (up_from 1 i))) cs)) ≡ Ok tt
      each i l =
          subst (λ m. element_fit f g (1 + i) (take (row_of f).cells (drop m cs)) ≡ Ok tt) (sym (sum_up_same (row_of f).cells 1 i))
          (fits_element f g (1 + i) (take (row_of f).cells (drop (i * (row_of f).cells) cs)) (h i l))

  -- only the group's own cells matter
  pub elements_take : (g count : ℕ) (cs : List ℤ) → elements_fit ρ f g count (take (cells_of ρ f count) cs) ≡ elements_fit ρ f g count cs
  unfolding elements_fit Count.cells_of
  elements_take g count cs =
      misfit_take (size f) (element_fit f g) (up_from 1 (elements_of ρ f count)) cs (elements_of ρ f count * (row_of f).cells) (omega (arith, sum_up_same (row_of f).cells 1 (elements_of ρ f count)))

  pub lines_own : (count : ℕ) (cs : List ℤ) → Fitted f (elements_of ρ f count) cs → Own (line_cells f) (λ l c. Fitted f l.many c) (plan_of ρ f count) cs
  unfolding Plan.plan_of
  lines_own count cs h = many_own f (elements_of ρ f count) cs h

-- ---- the groups of a record

sum_up_none : (f : ℕ → ℕ) (a : ℕ) → sum (map f (up_from a 0)) ≡ 0
unfolding Every.up_from Sum.sum
sum_up_none f a = refl

pub groups_own : (ρ : Rules) (ns : List ℕ) (cs : List ℤ) → fit_of ρ ns cs ≡ Ok tt → Own (cells_in ρ ns) (λ g c. group_fit ρ ns g c ≡ Ok tt) (up_from 1 60) cs
unfolding fit_of
groups_own ρ ns cs e = misfit_own (cells_in ρ ns) (group_fit ρ ns) (up_from 1 60) cs e

pub own_groups : (ρ : Rules) (ns : List ℕ) (cs : List ℤ) → Own (cells_in ρ ns) (λ g c. group_fit ρ ns g c ≡ Ok tt) (up_from 1 60) cs → fit_of ρ ns cs ≡ Ok tt
unfolding fit_of
own_groups ρ ns cs o = own_misfit (cells_in ρ ns) (group_fit ρ ns) (up_from 1 60) cs o

-- the cells before group i + 1 are those of the groups 1 to i
pub cells_before_lem : (ρ : Rules) (ns : List ℕ) (i : ℕ) → i < 61 → sum (map (cells_in ρ ns) (up_from 1 i)) ≡ cells_before ρ ns (suc i)
cells_before_lem ρ ns zero h = sum_up_none (cells_in ρ ns) 1 ∙ sym (cells_first ρ ns)
cells_before_lem ρ ns (suc i) h =
    sum_up_more (cells_in ρ ns) 1 i
    ∙ ap (λ m. m + cells_in ρ ns (1 + i)) (cells_before_lem ρ ns i (omega arith))
    ∙ ap (λ g. cells_before ρ ns (suc i) + cells_in ρ ns g) (next i)
    ∙ sym (rw (add-one (suc i)) at (cells_next ρ ns (suc i) (omega arith) (omega arith)))
  where
    next : (i : ℕ) → 1 + i ≡ suc i
    next i = omega arith

-- the cells of group g fit its form
pub group_fits : (ρ : Rules) (ns : List ℕ) (cs : List ℤ) → fit_of ρ ns cs ≡ Ok tt → (g : ℕ) → 0 < g → g < 61 → group_fit ρ ns g (take (cells_in ρ ns g) (drop (cells_before ρ ns g) cs)) ≡ Ok tt
group_fits ρ ns cs e zero a b = absurd (omega arith)
group_fits ρ ns cs e (suc i) a b =
    let o = own_up (cells_in ρ ns) (λ g c. group_fit ρ ns g c ≡ Ok tt) 1 60 cs (groups_own ρ ns cs e) i (omega arith) in
    let k : 1 + i ≡ suc i = omega arith in
    subst (λ g. group_fit ρ ns g (take (cells_in ρ ns g) (drop (cells_before ρ ns (suc i)) cs)) ≡ Ok tt) k
    (subst (λ m. group_fit ρ ns (1 + i) (take (cells_in ρ ns (1 + i)) (drop m cs)) ≡ Ok tt) (cells_before_lem ρ ns i (omega arith)) o)

pub group_fitted : (ρ : Rules) (ns : List ℕ) (cs : List ℤ) → fit_of ρ ns cs ≡ Ok tt → (g : ℕ) (f : Form) → 0 < g → g < 61 → form_of g ≡ Some f
    → Fitted f (elements_of ρ f (count_of ns g)) (drop (cells_before ρ ns g) cs)
unfolding Tally.cells_in
group_fitted ρ ns cs e g f a b h =
    let u : group_fit ρ ns g (take (cells_in ρ ns g) (drop (cells_before ρ ns g) cs)) ≡ Ok tt = group_fits ρ ns cs e g a b in
    let v : elements_fit ρ f g (count_of ns g) (take (cells_of ρ f (count_of ns g)) (drop (cells_before ρ ns g) cs)) ≡ Ok tt = rw h at u in
    elements_fitted ρ f g (count_of ns g) (drop (cells_before ρ ns g) cs) (sym (elements_take ρ f g (count_of ns g) (drop (cells_before ρ ns g) cs)) ∙ v)
