-- Reading a group, reply by reply: each answer, with the table that it leaves, by what led to it.
-- Assumes nothing.
use Rattle.std.specs.Prelude.{Some, None, Result, Ok, Err}
use mathlib.Core.Path.{◌≡◌, refl, sym, ◌∙◌, ap, subst}
use mathlib.Core.Bool.{Bool, true, false, cond}
use mathlib.Core.List.{List, map}
use mathlib.Core.Logic.{inl, inr}
use Prim.Native.Nat.{ℕ, ◌<◌, ◌≤◌}
use native.Mathlib.Omega.{arith}
use borrow.Author.Tests.{le-leb, lt-leb, leb-true}
use lib.Dec.{leb, eqb}
use lib.IntN.{ℤ}
use lib.ListN.{length}
use Rattle.rules.specs.declared.Rules.{Rules}
use Rattle.base.specs.Part.{over}
use Rattle.base.specs.Pieces.{done, bad, cells_got}
use Rattle.base.specs.Sign.{size_of}
use Rattle.date.specs.Date.{dated_of}
use Rattle.form.specs.declared.Form.{Form}
use Rattle.form.specs.Table.{form_of}
use Rattle.form.specs.Count.{cells_of}
use Rattle.count.specs.Tally.{count_of}
use Rattle.count.specs.Rules
use Rattle.count.specs.Rules.{ruling_of}
use Rattle.count.specs.Blame
use Rattle.count.proofs.Rulings.{ruling_kept}
use Rattle.reply.specs.declared.Refusal.{Refusal}
use Rattle.reply.specs.declared.Refusal.TheVariants.{NoSuchNumber, NoRoom}
use Rattle.reading.specs.Blanks.{may_be_short}
use Rattle.reading.specs.Read.{Cells, read_lines, dated, by_date, read_form, read_group, reading_of, table_by, verdict_of}
use Rattle.reading.proofs.Sizes.{clean_read, group_size}
use Rattle.date.specs.declared.Date.{Date}

-- what an answer and a table at exit owe
abbrev pub Answers : Cells → List ℤ → Result ℕ Refusal → List ℤ → Type 0
Answers g old r new = (r ≡ reading_of g) × (new ≡ table_by g old)

refuses : {g : Cells} {r : Refusal} (old : List ℤ) → g ≡ bad r → Answers g old (Err r) old
refuses old e = rw e (refl, refl)

bad_is : (g : Cells) (r : Refusal) → verdict_of g ≡ Err r → g ≡ bad r
bad_is (done cs) r e = let z : ◌≡◌ {A = ℕ} 0 1 = cc in absurd (omega arith)
bad_is (bad q) r e = let p : q ≡ r = cc in ap bad p

-- a clean date leaves the cells as they are
pub clean_cells : (g : ℕ) (c : Cells) → verdict_of (dated g c) ≡ Ok tt → dated g c ≡ c
clean_cells g (done cs) e = by (eqb g 3) (dated_of (map size_of cs)) e
  where
    by : (t : Bool) (d : Result Date ℕ) → verdict_of (cond t (by_date cs d) (done cs)) ≡ Ok tt → cond t (by_date cs d) (done cs) ≡ done cs
    by true (Ok d) e = refl
    by true (Err p) e = let z : ◌≡◌ {A = ℕ} 0 1 = cc in absurd (omega arith)
    by false d e = refl
clean_cells g (bad r) e = refl

module _ (ρ : Rules) (f : Form) (g count : ℕ) (x : List ℕ) (old : List ℤ) where
  pub form_none : length old < cells_of ρ f count → Answers (read_form ρ f g count x (length old)) old (Err NoRoom) old
  unfolding read_form
  form_none h =
      let e : read_form ρ f g count x (length old) ≡ bad NoRoom = rw (lt-leb (cells_of ρ f count) (length old) h) in
      refuses old e

  module _ (room : cells_of ρ f count ≤ length old) where
    roomy : read_form ρ f g count x (length old) ≡ dated g (read_lines ρ f (may_be_short g) count x)
    unfolding read_form
    roomy = rw (le-leb (cells_of ρ f count) (length old) room)

    pub form_bad : (r : Refusal) → verdict_of (dated g (read_lines ρ f (may_be_short g) count x)) ≡ Err r → Answers (read_form ρ f g count x (length old)) old (Err r) old
    form_bad r e = refuses old (roomy ∙ bad_is (dated g (read_lines ρ f (may_be_short g) count x)) r e)

    module _ (e : verdict_of (dated g (read_lines ρ f (may_be_short g) count x)) ≡ Ok tt) where
      pub lines_clean : verdict_of (read_lines ρ f (may_be_short g) count x) ≡ Ok tt
      lines_clean = ap verdict_of (sym (clean_cells g (read_lines ρ f (may_be_short g) count x) e)) ∙ e

      pub form_done : {new : List ℤ} → new ≡ over 0 (cells_got (read_lines ρ f (may_be_short g) count x)) old → Answers (read_form ρ f g count x (length old)) old (Ok (cells_of ρ f count)) new
      form_done {new = new} n =
          let r = clean_read (read_lines ρ f (may_be_short g) count x) lines_clean in
          let all : read_form ρ f g count x (length old) ≡ done r.cells = roomy ∙ clean_cells g (read_lines ρ f (may_be_short g) count x) e ∙ r.is in
          subst (λ y. Answers y old (Ok (cells_of ρ f count)) new) (sym all) (ap Ok (sym (group_size ρ f (may_be_short g) count x r.cells r.is)), n ∙ ap (λ y. over 0 (cells_got y) old) r.is)

-- R123: group 3 has room for a date
pub kept_letters : (ns : List ℕ) → ruling_of ns ≡ None → 19 ≤ count_of ns 3
unfolding Blame.Blames Rules.head_rules
kept_letters ns e = by (leb 19 (count_of ns 3)) refl
  where
    by : (t : Bool) → leb 19 (count_of ns 3) ≡ t → 19 ≤ count_of ns 3
    by true u = leb-true 19 (count_of ns 3) u
    by false u = absurd (ruling_kept ns e 3 (inr (inr (inl (u, refl)))))

-- the same of the count of any group: if it is group 3
pub kept_date : (ns : List ℕ) {g n : ℕ} → ruling_of ns ≡ None → n ≡ count_of ns g → g ≡ 3 → 19 ≤ n
kept_date ns e c t = subst (λ m. 19 ≤ m) (sym (c ∙ ap (count_of ns) t)) (kept_letters ns e)

module _ (ρ : Rules) (ns : List ℕ) (g : ℕ) (x : List ℕ) (old : List ℤ) where
  pub group_none : form_of g ≡ None → Answers (read_group ρ ns g x (length old)) old (Err NoSuchNumber) old
  unfolding read_group
  group_none e =
      let n : read_group ρ ns g x (length old) ≡ bad NoSuchNumber = rw e in
      refuses old n

  module _ (f : Form) (e : form_of g ≡ Some f) where
    pub group_kept : ruling_of ns ≡ None → (count : ℕ) → count ≡ count_of ns g → {a : Result ℕ Refusal} {new : List ℤ} → Answers (read_form ρ f g count x (length old)) old a new
        → Answers (read_group ρ ns g x (length old)) old a new
    unfolding read_group
    group_kept r count c {a = a} {new = new} b =
        let n : read_group ρ ns g x (length old) ≡ read_form ρ f g (count_of ns g) x (length old) = rw (e, r) in
        subst (λ y. Answers y old a new) (ap (λ m. read_form ρ f g m x (length old)) c ∙ sym n) b
