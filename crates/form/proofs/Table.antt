-- R40: each group 1 to 60 stands in exactly one row of R41, and no other number stands in any.
-- Assumes nothing.
use mathlib.Core.Path.{◌≡◌, refl, sym, ◌∙◌, ap, subst}
use mathlib.Core.Bool.{Bool, true, false, cond, ◌&&◌}
use mathlib.Core.List.{List, [], ◌∷◌}
use mathlib.Core.Logic.{◌↔◌}
use Prim.Native.Nat.{ℕ, suc, ◌<◌, ◌≤◌}
use native.Mathlib.Omega.{arith}
use borrow.Author.Tests.{lt-ltb}
use lib.Dec.{T, eqb, leb, ltb, eqb→eq, leb→le}
use lib.ListN.{get_or}
use Rattle.base.specs.Every.{every, has, up_from}
use Rattle.base.proofs.Every.{every_get_d, every_has, every_between}
use Rattle.base.proofs.Choice.{and_left, and_right}
use Rattle.form.specs.declared.Form.{Form}
use Rattle.form.specs.declared.Form.TheVariants.{F7, A120, A1, F8, I2, I3, I1, E11, E20, E8}
use Rattle.std.proofs.Common.{Option, Some, None}
use Rattle.form.specs.Table.{listed_as, forms, form_number, form_among, form_of}

-- ---- a test that passes at every form passes at each

pub forms_number : (f : Form) → get_or forms (form_number f) F7 ≡ f
forms_number F7 = refl
forms_number A120 = refl
forms_number A1 = refl
forms_number F8 = refl
forms_number I2 = refl
forms_number I3 = refl
forms_number I1 = refl
forms_number E11 = refl
forms_number E20 = refl
forms_number E8 = refl

-- the first form passes too, since it is one of them
pub each_form : (test : Form → Bool) → T (every test forms) → (f : Form) → T (test f)
each_form test t f =
    subst (λ (g : Form). T (test g)) (forms_number f) (every_get_d test F7 forms t (every_get_d test F7 forms t (and_left (test F7) _ t) 0) (form_number f))

pub number_below : (f : Form) → form_number f < 10
number_below f = leb→le (suc (form_number f)) 10 (each_form (λ g. leb (suc (form_number g)) 10) tt f)

-- ---- a computed test of two answers' equality

abbrev pub code : Option Form → ℕ
code (Some f) = form_number f
code None = 10

abbrev back : ℕ → Option Form
back n = cond (ltb n 10) (Some (get_or forms n F7)) None

back_code : (f : Option Form) → back (code f) ≡ f
back_code (Some f) = rw (lt-ltb (form_number f) 10 (number_below f)) (ap Some (forms_number f))
back_code None = refl

-- the group has this form, or there is no such group
abbrev pub is : Option Form → ℕ → Bool
is f g = eqb (code f) (code (form_of g))

pub is_form : (f : Option Form) (g : ℕ) → T (is f g) → f ≡ form_of g
is_form f g t = sym (back_code f) ∙ ap back (eqb→eq (code f) (code (form_of g)) t) ∙ back_code (form_of g)

-- ---- a form's groups have the form

abbrev listed : Form → Bool
listed f = every (is (Some f)) (listed_as f).groups

all_listed : T (every listed forms)
unfolding listed_as form_of form_among
all_listed = tt

pub listed_form : (f : Form) (g : ℕ) → T (has (listed_as f).groups g) → form_of g ≡ Some f
listed_form f g h = sym (is_form (Some f) g (every_has (is (Some f)) (listed_as f).groups (each_form listed all_listed f) g h))

-- ---- a group's form lists the group

step : (k f : Form) (fs : List Form) (g : ℕ) (t : Bool) → has (listed_as k).groups g ≡ t → (form_among fs g ≡ Some f → T (has (listed_as f).groups g))
    → cond t (Some k) (form_among fs g) ≡ Some f → T (has (listed_as f).groups g)
step k f fs g true u rest e =
    let p : k ≡ f = cc in
    rw (← p, u) tt
step k f fs g false u rest e = rest e

among : (fs : List Form) (f : Form) (g : ℕ) → form_among fs g ≡ Some f → T (has (listed_as f).groups g)
unfolding form_among
among [] f g e = let z : ◌≡◌ {A = ℕ} 0 1 = cc in absurd (omega arith)
among (k ∷ fs) f g e = step k f fs g (has (listed_as k).groups g) refl (among fs f g) e

-- a group has a form exactly if the form's row lists the group
pub form_listed : (f : Form) (g : ℕ) → form_of g ≡ Some f ↔ T (has (listed_as f).groups g)
unfolding form_of
form_listed f g = (among forms f g, listed_form f g)

-- ---- the groups are 1 to 60

-- a test that antt computes for the numbers 1 to 60, and for the numbers that stand in the table
abbrev is_group : ℕ → Bool
is_group g = leb (code (form_of g)) 9

all_groups : T (every is_group (up_from 1 60))
unfolding up_from listed_as form_of form_among
all_groups = tt

abbrev inside : ℕ → Bool
inside g = leb 1 g && leb g 60

all_inside : T (every (λ f. every inside (listed_as f).groups) forms)
unfolding listed_as
all_inside = tt

pub record IsGroup (g : ℕ) : Type 0 where
  pub low : 1 ≤ g
  pub high : g ≤ 60

has_group : (g : ℕ) (f : Form) → form_of g ≡ Some f → IsGroup g
has_group g f e =
    let t = every_has inside (listed_as f).groups (each_form (λ k. every inside (listed_as k).groups) all_inside f) g ((form_listed f g).0 e) in
    record {
      low = leb→le 1 g (and_left (leb 1 g) (leb g 60) t);
      high = leb→le g 60 (and_right (leb 1 g) (leb g 60) t);
    }

-- a number has a form exactly if it is a group
pub no_group : (g : ℕ) → form_of g ≡ None ↔ (IsGroup g → ⊥)
no_group g = (there, back_again (form_of g) refl)
  where
    there : form_of g ≡ None → IsGroup g → ⊥
    there e i =
        let t : T (is_group g) = every_between is_group 1 60 all_groups g i.low (omega (arith, i.high)) in
        let z : T (leb 10 9) = rw e at t in
        z

    back_again : (f : Option Form) → form_of g ≡ f → (IsGroup g → ⊥) → form_of g ≡ None
    back_again (Some f) e n = absurd (n (has_group g f e))
    back_again None e n = e

-- each of 1 to 60 has a form
pub has_form : (g : ℕ) → 0 < g → g < 61 → form_of g ≡ None → ⊥
has_form g some few e = (no_group g).0 e record { low = some; high = omega arith }

pub group_form : (g : ℕ) → 1 ≤ g → g ≤ 60 → (f : Form) × (form_of g ≡ Some f)
group_form g a b = by (form_of g) refl
  where
    by : (h : Option Form) → form_of g ≡ h → (f : Form) × (form_of g ≡ Some f)
    by (Some f) e = (f, e)
    by None e = absurd (has_form g a (omega arith) e)

-- and what has a form is one of them
pub form_range : (g : ℕ) (f : Form) → form_of g ≡ Some f → (1 ≤ g) × (g ≤ 60)
form_range g f e = let i = has_group g f e in (i.low, i.high)
