-- Forms of letters: groups whose lines may be short have one; a text of their width is a field exactly if its bytes print, and its cells are
-- its bytes.
-- Assumes nothing.
use Rattle.std.specs.Prelude.{Some}
use mathlib.Core.Path.{◌≡◌, refl, sym, ◌∙◌, ap, subst}
use mathlib.Core.Bool.{Bool, true, false, cond, ◌||◌}
use mathlib.Core.List.{List, [], ◌∷◌, map}
use mathlib.Core.Logic.{◌⊎◌, ◌↔◌, inl, inr, ⊎_elim}
use Prim.Native.Nat.{ℕ, suc}
use native.Mathlib.Omega.{arith}
use borrow.Author.Tests.{eq-eqb, ne_eqb}
use lib.Dec.{T, eqb, eqb→eq}
use lib.IntN.{ℤ, pos}
use lib.ListN.{length, get_or}
use Rattle.base.specs.Ascii.{printable}
use Rattle.base.specs.Every.{every}
use Rattle.base.proofs.Choice.{or_elim, true_T, not_T_false}
use Rattle.form.specs.declared.Form.{Form}
use Rattle.form.specs.declared.Form.TheVariants.{F7, A120, A1, F8, I2, I3, I1, E11, E20, E8}
use Rattle.form.specs.Table
use Rattle.form.specs.Table.{row_of, form_of}
use Rattle.field.specs.Read
use Rattle.field.specs.Read.{field_of, formed, value_cells, ReadsAs}
use Rattle.field.specs.declared.Value.{Value}
use Rattle.field.specs.declared.Value.TheVariants.{Cell, Letters, Misformed}
use Rattle.reading.specs.Blanks.{MayBeShort, may_be_short, is_letters, HoldsLetters}

-- R64: the test passes exactly where the statement holds
pub short_exactly : (g : ℕ) → T (may_be_short g) ↔ MayBeShort g
short_exactly g = (there, back)
  where
    there : T (may_be_short g) → MayBeShort g
    there t =
        ⊎_elim
        (λ h. inl (eqb→eq g 2 h))
        (λ h. inr (⊎_elim (λ u. inl (eqb→eq g 54 u)) (λ u. inr (eqb→eq g 55 u)) (or_elim (eqb g 54) (eqb g 55) h)))
        (or_elim (eqb g 2) (eqb g 54 || eqb g 55) t)

    back : MayBeShort g → T (may_be_short g)
    back (inl e) = rw e tt
    back (inr (inl e)) = rw e tt
    back (inr (inr e)) = rw e tt

pub not_short : (g : ℕ) → (MayBeShort g → ⊥) → may_be_short g ≡ false
not_short g n = not_T_false (may_be_short g) (λ t. n ((short_exactly g).0 t))

pub short_letters : (g : ℕ) (f : Form) → form_of g ≡ Some f → HoldsLetters f (may_be_short g)
unfolding Table.form_of Table.form_among Table.listed_as
short_letters g f e t =
    ⊎_elim
    (λ h. subst (λ k. T (is_letters k)) (sym (form_is A120 2 h refl)) tt)
    (⊎_elim
    (λ h. subst (λ k. T (is_letters k)) (sym (form_is A1 54 h refl)) tt)
    (λ h. subst (λ k. T (is_letters k)) (sym (form_is A1 55 h refl)) tt))
    ((short_exactly g).0 (true_T (may_be_short g) t))
  where
    form_is : (k : Form) (n : ℕ) → g ≡ n → form_of n ≡ Some k → f ≡ k
    form_is k n h u =
        let z : Some f ≡ Some k = sym e ∙ ap form_of h ∙ u in
        cc

-- the two forms of letters
pub letters_forms : (f : Form) → T (is_letters f) → (f ≡ A120) ⊎ (f ≡ A1)
letters_forms A120 t = inl refl
letters_forms A1 t = inr refl
letters_forms F7 t = absurd t
letters_forms F8 t = absurd t
letters_forms I2 t = absurd t
letters_forms I3 t = absurd t
letters_forms I1 t = absurd t
letters_forms E11 t = absurd t
letters_forms E20 t = absurd t
letters_forms E8 t = absurd t

-- a statement on forms of letters holds if it holds of both
both_forms : (P : Form → Type 0) {f : Form} → (f ≡ A120) ⊎ (f ≡ A1) → P A120 → P A1 → P f
both_forms P h all one = ⊎_elim (λ e. subst P (sym e) all) (λ e. subst P (sym e) one) h

Formed : List ℕ → Form → Type 0
Formed s f = length s ≡ (row_of f).width → every printable s ≡ formed (field_of f s)

test : (t : Bool) (v : Value) → formed v ≡ true → t ≡ formed (cond t v Misformed)
test true v e = sym e
test false v e = refl

all_formed_lem : (s : List ℕ) → Formed s A120
unfolding Formed Read.field_of
all_formed_lem s w = rw (eq-eqb (length s) (row_of A120).width w) (test (every printable s) Letters refl)

one_formed : (s : List ℕ) → Formed s A1
unfolding Formed Read.field_of
one_formed s w = rw (eq-eqb (length s) (row_of A1).width w) (test (every printable s) (Cell (pos (get_or s 0 0))) refl)

pub letters_formed : (f : Form) (s : List ℕ) → (f ≡ A120) ⊎ (f ≡ A1) → length s ≡ (row_of f).width → every printable s ≡ formed (field_of f s)
unfolding Formed
letters_formed f s h = both_forms (Formed s) h (all_formed_lem s) (one_formed s)

pub letter_byte : (x : List ℕ) (cs : List ℤ) → ReadsAs A1 x cs → (length x ≡ 1) × (cs ≡ map pos x)
unfolding Read.field_of Table.row_of Table.listed_as
letter_byte [] cs r = absurd r.good
letter_byte (b ∷ []) cs r = (refl, by (every printable (b ∷ [])) r.good r.cells)
  where
    by : (t : Bool) → T (formed (cond t (Cell (pos b)) Misformed)) → value_cells (b ∷ []) (cond t (Cell (pos b)) Misformed) ≡ cs → cs ≡ pos b ∷ []
    by true g e = sym e
    by false g e = absurd g
letter_byte (a ∷ b ∷ x) cs r = absurd (no (length x) r.good)
  where
    no : (n : ℕ) → T (formed (cond (eqb (suc (suc n)) 1) (cond (every printable (a ∷ b ∷ x)) (Cell (pos a)) Misformed) Misformed)) → ⊥
    no n t = rw (ne_eqb (suc (suc n)) 1 (λ e. omega arith)) at t
