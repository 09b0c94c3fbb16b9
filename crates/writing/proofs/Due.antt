-- First due: writing gives a reply exactly if that reply is due (specs/Due.antt).
-- Assumes nothing.
use Rattle.std.specs.Prelude.{Some, Result, Ok, Err}
use mathlib.Core.Path.{◌≡◌, refl, sym, ◌∙◌, ap, subst}
use mathlib.Core.Bool.{Bool, true, false, cond}
use mathlib.Core.List.{List, map}
use mathlib.Core.Logic.{◌↔◌}
use Prim.Native.Nat.{ℕ, zero, suc, ◌+◌, ◌<◌, ◌≤◌}
use native.Mathlib.Omega.{arith}
use borrow.Author.Tests.{leb-true, leb-false, le-leb, lt-leb}
use lib.Dec.{leb}
use lib.IntN.{ℤ}
use lib.ListN.{length, take, drop}
use Rattle.rules.specs.declared.Rules.{Rules}
use Rattle.base.specs.Every.{up_from}
use Rattle.base.specs.Sum.{sum}
use Rattle.form.specs.declared.Form.{Form}
use Rattle.form.specs.Table.{form_of}
use Rattle.count.specs.Tally.{cells_in}
use Rattle.count.specs.Check.{checked_of}
use Rattle.count.specs.Due as Counted
use Rattle.count.specs.Due.{HasCells}
use Rattle.count.proofs.Due as Counts
use Rattle.form.proofs.Table.{group_form, form_range}
use Rattle.date.specs.Date.{dated_of}
use Rattle.date.proofs.Due as Letters
use Rattle.reply.specs.declared.Refusal.{Refusal}
use Rattle.reply.specs.declared.Refusal.TheVariants.{NoRoom, NoField}
use Rattle.writing.specs.Fitting.{group_fit, fit_of}
use Rattle.writing.specs.Text.{record_bytes}
use Rattle.writing.specs.Writing.{date_letters, write_room, write_dated, write_fit, write_checked, writing_of}
use Rattle.writing.specs.Due.{HasField, Element, element_cells, HasFields, HasDate, LowestNone, RefusedFor, wrong_counts, no_field, bad_date, no_room, Due}
use Rattle.writing.proofs.Fitting.{cells_before_lem, group_fits}
use Rattle.writing.proofs.Misfits.{first_found, found_first, group_found, all_fields, fields_all, Lowest, found_none, none_found, groups_all}
use Rattle.date.specs.declared.Date.{Date}

module _ (ρ : Rules) (ns : List ℕ) (cs : List ℤ) where
  -- ---- 13

  piece : (i : ℕ) → i < 60 → group_fit ρ ns (1 + i) (take (cells_in ρ ns (1 + i)) (drop (sum (map (cells_in ρ ns) (up_from 1 i))) cs)) ≡ group_found ρ ns cs (suc i)
  piece i l =
      let e : 1 + i ≡ suc i = omega arith in
      rw (e, cells_before_lem ρ ns i (omega arith))

  found_lowest : HasCells ρ ns (length cs) → (why : Refusal) → fit_of ρ ns cs ≡ Err why → (g : ℕ) × (e : ℕ) × (why ≡ NoField g e) × LowestNone ρ ns cs g e
  unfolding fit_of
  found_lowest t why h =
      let r = first_found (cells_in ρ ns) (group_fit ρ ns) 1 60 cs why h in
      let k = r.at in
      let x = group_form (suc k) (omega arith) (omega (arith, r.inside)) in
      let y = found_none ρ ns cs (suc k) x.0 x.1 why (sym (piece k r.inside) ∙ r.told) in
      (suc k, y.0, y.1, by k r.inside r.earlier x.0 x.1 y.2)
    where
      by : (k : ℕ) → k < 60 → ((i : ℕ) → i < k → group_fit ρ ns (1 + i) (take (cells_in ρ ns (1 + i)) (drop (sum (map (cells_in ρ ns) (up_from 1 i))) cs)) ≡ Ok tt)
          → (f : Form) (q : form_of (suc k) ≡ Some f) {e : ℕ} → Lowest ρ ns cs (suc k) f q e → LowestNone ρ ns cs (suc k) e
      by k l earlier f q y =
          record {
            table = t;
            form = f;
            element = y.element;
            none = y.none;
            lower = λ h d p x j. lower h d p x j;
            before = y.before;
          }
        where
          lower : (h d : ℕ) (p : Form) → Element ρ ns cs h d p → h < suc k → HasField p (element_cells ρ ns cs h d p)
          lower zero d p x j = absurd (omega (arith, (form_range 0 p x.form).0))
          lower (suc i) d p x j = all_fields ρ ns cs (suc i) p x.form (sym (piece i (omega arith)) ∙ earlier i (omega arith)) d x

  lowest_found : (g e : ℕ) → LowestNone ρ ns cs g e → fit_of ρ ns cs ≡ Err (NoField g e)
  unfolding fit_of
  lowest_found g e d = by g d (form_range g d.form d.element.form).0 (form_range g d.form d.element.form).1
    where
      by : (g : ℕ) (d : LowestNone ρ ns cs g e) → 1 ≤ g → g ≤ 60 → fit_of ρ ns cs ≡ Err (NoField g e)
      by zero d a b = absurd (omega arith)
      by (suc k) d a b =
          found_first (cells_in ρ ns) (group_fit ρ ns) 1 60 cs (NoField (suc k) e) record {
            at = k;
            inside = omega arith;
            earlier = λ i l. piece i (omega arith) ∙ lower i l;
            told = piece k (omega arith) ∙ none_found ρ ns cs (suc k) d.form d.element.form e record { element = d.element; none = d.none; before = d.before };
          }
        where
          lower : (i : ℕ) → i < k → group_found ρ ns cs (suc i) ≡ Ok tt
          lower i l =
              let x = group_form (suc i) (omega arith) (omega arith) in
              fields_all ρ ns cs (suc i) x.0 x.1 (λ n y. d.lower (suc i) n x.0 y (omega arith))

  pub fits_fields : HasCells ρ ns (length cs) → fit_of ρ ns cs ≡ Ok tt → HasFields ρ ns cs
  fits_fields t h =
      record {
        table = t;
        each = λ g e f x. all_fields ρ ns cs g f x.form (group_fits ρ ns cs h g (form_range g f x.form).0 (omega (arith, (form_range g f x.form).1))) e x;
      }

  pub fields_fit : HasFields ρ ns cs → fit_of ρ ns cs ≡ Ok tt
  fields_fit h = groups_all ρ ns cs found
    where
      found : (g : ℕ) → 0 < g → g < 61 → group_found ρ ns cs g ≡ Ok tt
      found g a b =
          let x = group_form g a (omega arith) in
          fields_all ρ ns cs g x.0 x.1 (λ e y. h.each g e x.0 y)

  module _ (room : ℕ) where
    -- ---- what is due is given

    to_checked : HasCells ρ ns (length cs) → checked_of ρ ns (length cs) ≡ Ok tt
    to_checked h = (Counts.first_due ρ ns (length cs) (Ok tt)).1 h

    to_refused : (c : Result (Unit {0}) Refusal) → Counted.Due ρ ns (length cs) c → writing_of ρ ns cs room ≡ write_checked ρ ns cs room c
    unfolding writing_of
    to_refused c d = ap (write_checked ρ ns cs room) ((Counts.first_due ρ ns (length cs) c).1 d)

    to_dated : HasFields ρ ns cs → writing_of ρ ns cs room ≡ write_dated ρ ns room (dated_of (date_letters ρ ns cs))
    unfolding writing_of
    to_dated h = rw (to_checked h.table, fields_fit h)

    to_room : HasDate ρ ns cs → writing_of ρ ns cs room ≡ write_room ρ ns room
    to_room h = to_dated h.fields ∙ rw ((Letters.first_due (date_letters ρ ns cs) (Ok h.date)).1 h.right)

    refusal_given : (r : Refusal) → RefusedFor ρ ns cs room r → writing_of ρ ns cs room ≡ Err r
    unfolding writing_of
    refusal_given r (wrong_counts q d) = to_refused (Err q) d
    refusal_given r (no_field g e d) = rw (to_checked d.table, lowest_found g e d)
    refusal_given r (bad_date p d) = to_dated d.fields ∙ rw ((Letters.first_due (date_letters ρ ns cs) (Err p)).1 d.wrong)
    refusal_given r (no_room d) = to_room d.date ∙ rw (lt-leb (record_bytes ρ ns) room d.short)

    given : (w : Result ℕ Refusal) → Due ρ ns cs room w → writing_of ρ ns cs room ≡ w
    given (Err r) d = refusal_given r d
    given (Ok n) d = to_room d.date ∙ rw (le-leb (record_bytes ρ ns) room d.enough) (ap Ok (sym d.bytes))

    -- ---- what is given is due

    from_room : (t : Bool) → HasDate ρ ns cs → leb (record_bytes ρ ns) room ≡ t → Due ρ ns cs room (cond t (Ok (record_bytes ρ ns)) (Err NoRoom))
    from_room true h e = record { date = h; enough = leb-true (record_bytes ρ ns) room e; bytes = refl }
    from_room false h e = no_room record { date = h; short = leb-false (record_bytes ρ ns) room e }

    from_dated : (d : Result Date ℕ) → HasFields ρ ns cs → dated_of (date_letters ρ ns cs) ≡ d → Due ρ ns cs room (write_dated ρ ns room d)
    from_dated (Ok d) h e = from_room (leb (record_bytes ρ ns) room) record { fields = h; date = d; right = (Letters.first_due (date_letters ρ ns cs) (Ok d)).0 e } refl
    from_dated (Err p) h e = bad_date p record { fields = h; wrong = (Letters.first_due (date_letters ρ ns cs) (Err p)).0 e }

    from_fit : (x : Result (Unit {0}) Refusal) → HasCells ρ ns (length cs) → fit_of ρ ns cs ≡ x → Due ρ ns cs room (write_fit ρ ns cs room x)
    from_fit (Ok all) h e = from_dated (dated_of (date_letters ρ ns cs)) (fits_fields h e) refl
    from_fit (Err why) h e = let x = found_lowest h why e in subst (λ r. RefusedFor ρ ns cs room r) (sym x.2) (no_field x.0 x.1 x.3)

    from_checked : (c : Result (Unit {0}) Refusal) → Counted.Due ρ ns (length cs) c → Due ρ ns cs room (write_checked ρ ns cs room c)
    from_checked (Ok done) h = from_fit (fit_of ρ ns cs) h refl
    from_checked (Err r) h = wrong_counts r h

    is_due : Due ρ ns cs room (writing_of ρ ns cs room)
    unfolding writing_of
    is_due = from_checked (checked_of ρ ns (length cs)) ((Counts.first_due ρ ns (length cs) (checked_of ρ ns (length cs))).0 refl)

    -- the reply that is given is the one that is due, and no other is
    pub first_due : (w : Result ℕ Refusal) → writing_of ρ ns cs room ≡ w ↔ Due ρ ns cs room w
    first_due w = (λ e. subst (Due ρ ns cs room) e is_due, given w)
