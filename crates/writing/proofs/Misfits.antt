-- The first piece whose cells don't fit, in plain words: it doesn't, and each before it does; among numbered pieces, the elements of a group and
-- the groups of a record. Cells fit exactly if some field reads as them.
-- Assumes nothing.
use Rattle.std.specs.Prelude.{Some, Result, Ok, Err}
use mathlib.Core.Path.{◌≡◌, refl, sym, ◌∙◌, ap, subst}
use mathlib.Core.Bool.{Bool, true, false, cond}
use mathlib.Core.List.{List, map}
use Prim.Native.Nat.{ℕ, zero, suc, ◌+◌, ◌-◌, ◌*◌, ◌<◌}
use native.Mathlib.Nat.{add-zero}
use native.Mathlib.Omega.{arith}
use lib.Dec.{T}
use lib.IntN.{ℤ}
use lib.ListN.{take, drop}
use lib.Seq.{drop-drop}
use Rattle.rules.specs.declared.Rules.{Rules}
use Rattle.base.specs.Every
use Rattle.base.specs.Every.{up_from}
use Rattle.base.specs.Sum
use Rattle.base.specs.Sum.{sum}
use Rattle.base.proofs.Choice.{T_true, not_T_false}
use Rattle.base.proofs.Taken.{drop_none}
use Rattle.base.proofs.UpFrom.{sum_up_same, up_own}
use Rattle.form.specs.declared.Form.{Form}
use Rattle.form.specs.Table.{row_of, form_of}
use Rattle.form.specs.Count.{elements_of}
use Rattle.field.specs.Write.{fits_of, field_text}
use Rattle.field.proofs.Laws.{lawful}
use Rattle.count.specs.Tally.{count_of, cells_in, cells_before}
use Rattle.count.proofs.Tallied.{cells_has}
use Rattle.writing.specs.Fitting.{first_of, first_misfit, element_fit, elements_fit, group_fit, fit_of}
use Rattle.writing.specs.Due.{HasField, HasNone, Element, element_cells}
use Rattle.writing.proofs.Fitting.{elements_fitted, fitted_elements, elements_take, own_groups, cells_before_lem}
use Rattle.reply.specs.declared.Refusal.TheVariants.{NoField}
use Rattle.reply.specs.declared.Refusal.{Refusal}

-- ---- numbered pieces

module _ (size : ℕ → ℕ) (fit : ℕ → List ℤ → Result (Unit {0}) Refusal) where
  -- piece a + i, with its cells behind those of the i before it
  abbrev piece_at : ℕ → ℕ → List ℤ → Result (Unit {0}) Refusal
  piece_at a i cs = fit (a + i) (take (size (a + i)) (drop (sum (map size (up_from a i))) cs))

  pub record FirstNot (a n : ℕ) (cs : List ℤ) (r : Refusal) : Type 0 where
    pub at : ℕ
    pub inside : at < n
    pub earlier : (i : ℕ) → i < at → piece_at a i cs ≡ Ok tt
    pub told : piece_at a at cs ≡ Err r

  here : (a : ℕ) (cs : List ℤ) → piece_at a 0 cs ≡ fit a (take (size a) cs)
  unfolding Every.up_from Sum.sum
  here a cs = rw (add-zero a, drop_none cs)

  next : (a i : ℕ) (cs : List ℤ) → piece_at a (suc i) cs ≡ piece_at (suc a) i (drop (size a) cs)
  unfolding Every.up_from Sum.sum
  next a i cs =
      let e : a + suc i ≡ suc a + i = omega arith in
      rw (e, drop-drop (sum (map size (up_from (suc a) i))) (size a) cs)

  pub first_found : (a n : ℕ) (cs : List ℤ) (why : Refusal) → first_misfit size fit (up_from a n) cs ≡ Err why → FirstNot a n cs why
  unfolding first_misfit Every.up_from
  first_found a zero cs why h = cc
  first_found a (suc n) cs why h = by (fit a (take (size a) cs)) refl h (first_found (suc a) n (drop (size a) cs) why)
    where
      by : (x : Result (Unit {0}) Refusal) → fit a (take (size a) cs) ≡ x → first_of x (first_misfit size fit (up_from (suc a) n) (drop (size a) cs)) ≡ Err why
          → (first_misfit size fit (up_from (suc a) n) (drop (size a) cs) ≡ Err why → FirstNot (suc a) n (drop (size a) cs) why) → FirstNot a (suc n) cs why
      by (Ok all) u v rest =
          let r = rest v in
          record {
            at = suc r.at;
            inside = omega (arith, r.inside);
            earlier = λ i l. before i r.earlier l;
            told = next a r.at cs ∙ r.told;
          }
        where
          before : (i : ℕ) {k : ℕ} → ((j : ℕ) → j < k → piece_at (suc a) j (drop (size a) cs) ≡ Ok tt) → i < suc k → piece_at a i cs ≡ Ok tt
          before zero f l = here a cs ∙ u
          before (suc i) f l = next a i cs ∙ f i (omega arith)
      by (Err other) u v rest = record { at = 0; inside = omega arith; earlier = λ i l. absurd (omega arith); told = here a cs ∙ u ∙ v }

  pub found_first : (a n : ℕ) (cs : List ℤ) (why : Refusal) → FirstNot a n cs why → first_misfit size fit (up_from a n) cs ≡ Err why
  unfolding first_misfit Every.up_from
  found_first a zero cs why r = absurd (omega (arith, r.inside))
  found_first a (suc n) cs why r = by r.at r.inside r.earlier r.told (found_first (suc a) n (drop (size a) cs) why)
    where
      by : (k : ℕ) → k < suc n → ((i : ℕ) → i < k → piece_at a i cs ≡ Ok tt) → piece_at a k cs ≡ Err why
          → (FirstNot (suc a) n (drop (size a) cs) why → first_misfit size fit (up_from (suc a) n) (drop (size a) cs) ≡ Err why)
          → first_of (fit a (take (size a) cs)) (first_misfit size fit (up_from (suc a) n) (drop (size a) cs)) ≡ Err why
      by zero l f t rest = rw (sym (here a cs) ∙ t)
      by (suc k) l f t rest =
          rw (sym (here a cs) ∙ f 0 (omega arith))
          (rest record { at = k; inside = omega arith; earlier = λ i j. sym (next a i cs) ∙ f (suc i) (omega arith); told = sym (next a k cs) ∙ t })

-- ---- cells fit exactly if some field reads as them

module _ (f : Form) (c : List ℤ) where
  pub has_field : T (fits_of f c) → HasField f c
  has_field t = record { field = field_text f c; is = (lawful f).reads_is (field_text f c) c ((lawful f).back c t) }

  pub field_fits : HasField f c → T (fits_of f c)
  field_fits h = (lawful f).fitting h.field c ((lawful f).is_reads h.field c h.is)

  none_fits : HasNone f c → fits_of f c ≡ false
  none_fits h = not_T_false (fits_of f c) (λ t. h (field_text f c) ((lawful f).reads_is (field_text f c) c ((lawful f).back c t)))

  fits_none : fits_of f c ≡ false → HasNone f c
  fits_none e s r = rw e at ((lawful f).fitting s c ((lawful f).is_reads s c r))

-- ---- the elements of a group

module _ (ρ : Rules) (ns : List ℕ) (cs : List ℤ) where
  -- what is found of a group
  abbrev pub group_found : ℕ → Result (Unit {0}) Refusal
  group_found g = group_fit ρ ns g (take (cells_in ρ ns g) (drop (cells_before ρ ns g) cs))

  module _ (g : ℕ) (f : Form) (h : form_of g ≡ Some f) where
    found_is : group_found g ≡ elements_fit ρ f g (count_of ns g) (drop (cells_before ρ ns g) cs)
    found_is = ap (λ n. group_fit ρ ns g (take n (drop (cells_before ρ ns g) cs))) (cells_has ρ ns g f h) ∙ rw h (elements_take ρ f g (count_of ns g) (drop (cells_before ρ ns g) cs))

    cells_is : (i : ℕ) → take (row_of f).cells (drop (i * (row_of f).cells) (drop (cells_before ρ ns g) cs)) ≡ element_cells ρ ns cs g (suc i) f
    cells_is i =
        let e : suc i - 1 ≡ i = omega arith in
        rw e (ap (take (row_of f).cells) (drop-drop (i * (row_of f).cells) (cells_before ρ ns g) cs))

    cells_of : (e : ℕ) → take (row_of f).cells (drop ((e - 1) * (row_of f).cells) (drop (cells_before ρ ns g) cs)) ≡ element_cells ρ ns cs g e f
    cells_of e = ap (take (row_of f).cells) (drop-drop ((e - 1) * (row_of f).cells) (cells_before ρ ns g) cs)

    pub all_fields : group_found g ≡ Ok tt → (e : ℕ) → Element ρ ns cs g e f → HasField f (element_cells ρ ns cs g e f)
    all_fields a e x =
        let t = elements_fitted ρ f g (count_of ns g) (drop (cells_before ρ ns g) cs) (sym found_is ∙ a) (e - 1) (omega (arith, x.low, x.high)) in
        has_field f (element_cells ρ ns cs g e f) (subst (λ c. T (fits_of f c)) (cells_of e) t)

    pub fields_all : ((e : ℕ) → Element ρ ns cs g e f → HasField f (element_cells ρ ns cs g e f)) → group_found g ≡ Ok tt
    fields_all k =
        found_is
        ∙ fitted_elements ρ f g (count_of ns g) (drop (cells_before ρ ns g) cs)
        (λ i l. subst (λ c. T (fits_of f c)) (sym (cells_is i)) (field_fits f (element_cells ρ ns cs g (suc i) f) (k (suc i) record { form = h; low = omega arith; high = omega arith })))

    -- the first element without a field
    pub record Lowest (e : ℕ) : Type 0 where
      pub element : Element ρ ns cs g e f
      pub none : HasNone f (element_cells ρ ns cs g e f)
      pub before : (d : ℕ) → Element ρ ns cs g d f → d < e → HasField f (element_cells ρ ns cs g d f)

    piece_is : (i : ℕ)
        → element_fit f g (1 + i) (take (row_of f).cells (drop (sum (map (λ (e : ℕ). (row_of f).cells) (up_from 1 i))) (drop (cells_before ρ ns g) cs))) ≡ element_fit f g (1 + i)
        (element_cells ρ ns cs g (suc i) f)
    piece_is i = ap (λ n. element_fit f g (1 + i) (take (row_of f).cells (drop n (drop (cells_before ρ ns g) cs)))) (sum_up_same (row_of f).cells 1 i) ∙ ap (element_fit f g (1 + i)) (cells_is i)

    pub found_none : (why : Refusal) → group_found g ≡ Err why → (e : ℕ) × (why ≡ NoField g e) × Lowest e
    unfolding elements_fit
    found_none why a =
        let r = first_found (λ (n : ℕ). (row_of f).cells) (element_fit f g) 1 (elements_of ρ f (count_of ns g)) (drop (cells_before ρ ns g) cs) why (sym found_is ∙ a) in
        by r.at r.inside r.earlier (sym (piece_is r.at) ∙ r.told)
      where
        fitted_one : (i : ℕ) (t : Bool) → ◌≡◌ {A = Result (Unit {0}) Refusal} (cond t (Ok tt) (Err (NoField g (1 + i)))) (Ok tt) → T t
        fitted_one i true u = tt
        fitted_one i false u = cc

        misfit : (i : ℕ) (t : Bool) → ◌≡◌ {A = Result (Unit {0}) Refusal} (cond t (Ok tt) (Err (NoField g (1 + i)))) (Err why) → (t ≡ false) × (why ≡ NoField g (1 + i))
        misfit i true u = cc
        misfit i false u = (refl, cc)

        by : (k : ℕ) → k < elements_of ρ f (count_of ns g)
            → ((i : ℕ) → i < k → element_fit f g (1 + i) (take (row_of f).cells (drop (sum (map (λ (e : ℕ). (row_of f).cells) (up_from 1 i))) (drop (cells_before ρ ns g) cs))) ≡ Ok tt)
            → element_fit f g (1 + k) (element_cells ρ ns cs g (suc k) f) ≡ Err why → (e : ℕ) × (why ≡ NoField g e) × Lowest e
        by k l earlier told =
            let m = misfit k (fits_of f (element_cells ρ ns cs g (suc k) f)) told in
            let q : 1 + k ≡ suc k = omega arith in (
              suc k,
              m.1 ∙ ap (NoField g) q,
              record {
                element = record { form = h; low = omega arith; high = omega arith };
                none = fits_none f (element_cells ρ ns cs g (suc k) f) m.0;
                before = λ d x j. lower d x j;
              },
            )
          where
            lower : (d : ℕ) → Element ρ ns cs g d f → d < suc k → HasField f (element_cells ρ ns cs g d f)
            lower zero x j = absurd (omega (arith, x.low))
            lower (suc i) x j = has_field f (element_cells ρ ns cs g (suc i) f) (fitted_one i (fits_of f (element_cells ρ ns cs g (suc i) f)) (sym (piece_is i) ∙ earlier i (omega arith)))

    pub none_found : (e : ℕ) → Lowest e → group_found g ≡ Err (NoField g e)
    unfolding elements_fit
    none_found zero x = absurd (omega (arith, x.element.low))
    none_found (suc k) x =
        found_is
        ∙ found_first (λ (n : ℕ). (row_of f).cells) (element_fit f g) 1 (elements_of ρ f (count_of ns g)) (drop (cells_before ρ ns g) cs) (NoField g (suc k)) record {
          at = k;
          inside = x.element.high;
          earlier = λ i l. piece_is i ∙ fits i (x.before (suc i) record { form = h; low = omega arith; high = omega (arith, x.element.high) } (omega arith));
          told = piece_is k ∙ misfit;
        }
      where
        fits : (i : ℕ) → HasField f (element_cells ρ ns cs g (suc i) f) → element_fit f g (1 + i) (element_cells ρ ns cs g (suc i) f) ≡ Ok tt
        fits i y = rw (T_true (fits_of f (element_cells ρ ns cs g (suc i) f)) (field_fits f (element_cells ρ ns cs g (suc i) f) y))

        misfit : element_fit f g (1 + k) (element_cells ρ ns cs g (suc k) f) ≡ Err (NoField g (suc k))
        misfit = let q : 1 + k ≡ suc k = omega arith in rw (none_fits f (element_cells ρ ns cs g (suc k) f) x.none, q)

  -- ---- the groups of a record

  pub groups_all : ((g : ℕ) → 0 < g → g < 61 → group_found g ≡ Ok tt) → fit_of ρ ns cs ≡ Ok tt
  groups_all h = own_groups ρ ns cs (up_own (cells_in ρ ns) (λ g c. group_fit ρ ns g c ≡ Ok tt) 1 60 cs each)
    where
      each : (i : ℕ) → i < 60 → group_fit ρ ns (1 + i) (take (cells_in ρ ns (1 + i)) (drop (sum (map (cells_in ρ ns) (up_from 1 i))) cs)) ≡ Ok tt
      each i l =
          let e : 1 + i ≡ suc i = omega arith in
          rw (e, cells_before_lem ρ ns i (omega arith)) (h (suc i) (omega arith) (omega arith))
