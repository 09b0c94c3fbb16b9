-- Whether a group can be asked about at a place, the counts of its record, and its lines as a part of the text: when they can be given,
-- where they begin, and that they are the group's lines.
-- Assumes nothing.
use Rattle.std.specs.Prelude.{Option, Some, None, Result, Ok, Err}
use mathlib.Core.Path.{◌≡◌, refl, sym, ◌∙◌}
use mathlib.Core.List.{List, []}
use Prim.Native.Nat.{ℕ, suc, ◌+◌, ◌-◌, ◌≤◌}
use native.Mathlib.Omega.{arith}
use lib.ListN.{length, get_or, drop, length-take, length-drop}
use Rattle.rules.specs.declared.Rules.{Rules}
use Rattle.base.specs.Part.{part}
use Rattle.base.proofs.Taken.{take_none, part_zero}
use Rattle.form.specs.declared.Form.{Form}
use Rattle.form.specs.Table.{form_of}
use Rattle.line.specs.Lines.{Whole}
use Rattle.count.specs.Tally.{line_tally}
use Rattle.count.specs.Rules.{ruling_of}
use Rattle.place.specs.declared.Placing.{Placing}
use Rattle.place.specs.declared.Placing.TheVariants.{Placed, BrokenRule, Refused}
use Rattle.place.specs.Numbered.{as_checked}
use Rattle.place.specs.Placing.{placing_of, counts_at, starts_at, ends_at}
use Rattle.place.specs.Parts
use Rattle.place.specs.Parts.{group_part}
use Rattle.place.proofs.Placed.{located_range}
use Rattle.place.proofs.Spans.{start_at, end_at_lem}
use Rattle.place.proofs.Tiling.{part_whole, start_mono, start_within}
use Rattle.place.proofs.Zero.{is_placed_lem}
use Rattle.reply.specs.declared.Refusal.{Refusal}
use Rattle.reply.specs.declared.Refusal.TheVariants.{NoSuchNumber}
use Rattle.form.proofs.Table.{form_range}
use Rattle.group.specs.Held.{found_in, found_at, start_by, part_start, part_end, part_at}

-- a number that has a form is a group's
group_range : (g : ℕ) → (form_of g ≡ None → ⊥) → (1 ≤ g) × (g ≤ 60)
group_range g n = by (form_of g) refl
  where
    by : (h : Option Form) → form_of g ≡ h → (1 ≤ g) × (g ≤ 60)
    by (Some f) e = form_range g f e
    by None e = absurd (n e)

pub group_low : (g : ℕ) → (form_of g ≡ None → ⊥) → 1 ≤ g
group_low g n = (group_range g n).0

pub group_high : (g : ℕ) → (form_of g ≡ None → ⊥) → g ≤ 60
group_high g n = (group_range g n).1

module _ (ρ : Rules) (s : List ℕ) (at g : ℕ) where
  -- 12, and what placing answers
  pub found_none : form_of g ≡ None → found_at ρ s at g ≡ Err NoSuchNumber
  unfolding found_at
  found_none e = rw e

  pub found_by : (f : Form) (p : Placing) → form_of g ≡ Some f → placing_of ρ s at ≡ p → found_at ρ s at g ≡ as_checked p
  unfolding found_at
  found_by f p e u = rw (e, u)

  -- what it says that the lines can be given
  pub record IsGiven : Type 0 where
    pub form : Form
    pub has : form_of g ≡ Some form
    pub next : ℕ
    pub placed : placing_of ρ s at ≡ Placed next

  pub given_is : found_at ρ s at g ≡ Ok tt → IsGiven
  unfolding found_at
  given_is e = by (form_of g) refl e
    where
      place : (f : Form) (p : Placing) → form_of g ≡ Some f → placing_of ρ s at ≡ p → as_checked p ≡ Ok tt → IsGiven
      place f (Placed n) h u v = record { form = f; has = h; next = n; placed = u }
      place f (BrokenRule k n) h u v = let z : ◌≡◌ {A = ℕ} 0 1 = cc in absurd (omega arith)
      place f (Refused r) h u v = let z : ◌≡◌ {A = ℕ} 0 1 = cc in absurd (omega arith)

      by : (h : Option Form) → form_of g ≡ h → found_in ρ s at h ≡ Ok tt → IsGiven
      by (Some f) h v = place f (placing_of ρ s at) h refl v
      by None h v = let z : ◌≡◌ {A = ℕ} 0 1 = cc in absurd (omega arith)

  pub span_part : (from to : ℕ) → (from ≡ part_start ρ s at g) × (to ≡ part_end ρ s at g) → part from to s ≡ part_at ρ s at g
  unfolding part_at
  span_part from to a = rw (a.0, a.1) refl

  -- where they can, the record says where they stand
  module _ (e : found_at ρ s at g ≡ Ok tt) where
    given_group : (1 ≤ g) × (g ≤ 60)
    given_group = let i = given_is e in form_range g i.form i.has

    pub given_start : get_or (starts_at ρ s at) (g - 1) 0 ≡ part_start ρ s at g
    unfolding part_start
    given_start =
        let i = given_is e in
        let l = (is_placed_lem ρ s at i.next i.placed).located_at in
        rw (e, start_at ρ s at i.next (counts_at ρ s at) l g given_group.0 given_group.1) refl

    pub given_end : get_or (ends_at ρ s at) (g - 1) 0 ≡ part_end ρ s at g
    unfolding part_end
    given_end =
        let i = given_is e in
        let l = (is_placed_lem ρ s at i.next i.placed).located_at in
        rw (e, end_at_lem ρ s at i.next (counts_at ρ s at) l g given_group.0 given_group.1) refl

    pub given_kept : ruling_of (counts_at ρ s at) ≡ None
    given_kept = let i = given_is e in (is_placed_lem ρ s at i.next i.placed).kept

  pub missing_start : {r : Refusal} → found_at ρ s at g ≡ Err r → part_start ρ s at g ≡ 0
  unfolding part_start
  missing_start e = rw e refl

  pub missing_end : {r : Refusal} → found_at ρ s at g ≡ Err r → part_end ρ s at g ≡ 0
  unfolding part_end
  missing_end e = rw e refl

  pub missing_span : {r : Refusal} → found_at ρ s at g ≡ Err r → (0 ≡ part_start ρ s at g) × (0 ≡ part_end ρ s at g)
  missing_span e = (sym (missing_start e), sym (missing_end e))

  pub missing_part : {r : Refusal} → found_at ρ s at g ≡ Err r → part_at ρ s at g ≡ []
  missing_part e = sym (span_part 0 0 (missing_span e)) ∙ part_zero 0 s ∙ take_none s

  -- the part lies in the text, whether there are lines or not
  pub span_range : (part_start ρ s at g ≤ part_end ρ s at g) × (part_end ρ s at g ≤ length s)
  unfolding part_start part_end
  span_range = by (found_at ρ s at g) refl
    where
      by : (r : Result (Unit {0}) Refusal) → found_at ρ s at g ≡ r → (start_by ρ s at g r ≤ start_by ρ s at (suc g) r) × (start_by ρ s at (suc g) r ≤ length s)
      by (Ok _) e =
          let i = given_is e in
          let ns = counts_at ρ s at in
          let l = (is_placed_lem ρ s at i.next i.placed).located_at in
          let few = (form_range g i.form i.has).1 in
          (start_mono ρ s at ns g (suc g) (omega arith), omega (arith, start_within ρ s at i.next ns l (suc g) (omega (arith, few)), located_range ρ s at i.next ns l))
      by (Err r) e = (omega arith, omega arith)

  pub span_order : part_start ρ s at g ≤ part_end ρ s at g
  span_order = span_range.0

  pub span_within : part_end ρ s at g ≤ length s
  span_within = span_range.1

  pub span_length : part_end ρ s at g - part_start ρ s at g ≡ length (part_at ρ s at g)
  unfolding part_at
  span_length =
      let r = span_range in
      let n = length-take (part_end ρ s at g - part_start ρ s at g) (drop (part_start ρ s at g) s) in
      let m = length-drop (part_start ρ s at g) s in
      omega (arith, r.0, r.1, n, m)

  pub span_end : part_end ρ s at g ≡ part_start ρ s at g + length (part_at ρ s at g)
  span_end = omega (arith, span_length, span_range.0)

  -- the part is the group's part of the record, and holds exactly the group's lines
  pub given_part : found_at ρ s at g ≡ Ok tt → part_at ρ s at g ≡ group_part ρ s at (counts_at ρ s at) g
  unfolding part_at part_start part_end Parts.group_part
  given_part e = rw e refl

  pub given_lines : found_at ρ s at g ≡ Ok tt → Whole (get_or (line_tally ρ (counts_at ρ s at)) g 0) (part_at ρ s at g)
  given_lines e =
      let i = given_is e in
      rw (given_part e) (part_whole ρ s at i.next (counts_at ρ s at) (is_placed_lem ρ s at i.next i.placed).located_at g (omega (arith, (form_range g i.form i.has).1)))
