-- First due: each question with a record gives a reply exactly if that reply is due (specs/Due.antt).
-- Assumes nothing.
use Rattle.std.specs.Prelude.{Option, Some, None, Result, Ok, Err}
use mathlib.Core.Path.{◌≡◌, refl, sym, ◌∙◌, ap, subst}
use mathlib.Core.Bool.{Bool, true, false, cond, false≢true}
use mathlib.Core.List.{List, []}
use mathlib.Core.Logic.{◌↔◌, inl, inr, ⊎_elim}
use Prim.Native.Nat.{ℕ, ◌+◌, ◌-◌, ◌≤◌}
use native.Mathlib.Omega.{arith}
use lib.ListN.{length, drop, length-take, length-drop}
use Rattle.rules.specs.declared.Rules.{Rules}
use Rattle.base.specs.Pieces.{done, bad}
use Rattle.base.proofs.Choice.{not_T_false, T_true}
use Rattle.base.proofs.Taken.{take_none}
use Rattle.form.specs.declared.Form.{Form}
use Rattle.form.specs.Table.{form_of}
use Rattle.form.specs.Count.{lines_of}
use Rattle.form.proofs.Table.{no_group as none_has, group_form, form_range}
use Rattle.line.specs.Parts.{AreLines}
use Rattle.line.proofs.Parts.{are_lines_lem}
use Rattle.count.specs.Check.{accepted_of, and_then}
use Rattle.count.specs.Due.{AcceptedDue, misformed, other_release, filled_vacant, broken_rule}
use Rattle.count.specs.Tally.{count_of}
use Rattle.count.proofs.Due.{accepted_first_due}
use Rattle.count.specs.Rules.{ruling_of}
use Rattle.count.proofs.Rulings.{kept_ruling}
use Rattle.count.proofs.Tallied.{lines_has}
use Rattle.place.specs.Placing.{Carried}
use Rattle.reading.specs.Read
use Rattle.reading.specs.Read.{Cells, read_form, read_group}
use Rattle.reading.specs.Due as Lines
use Rattle.reading.proofs.Due as Reading
use Rattle.group.specs.Held.{place_if}
use Rattle.group.specs.declared.Characteristic.{Characteristic}
use Rattle.group.specs.declared.Characteristic.TheVariants.{Refused}
use Rattle.group.proofs.Due.{four_is, told_first_due}
use Rattle.group.proofs.Rooms.{same_room, four_size}
use Rattle.reply.specs.declared.Refusal.{Refusal}
use Rattle.reply.specs.declared.Refusal.TheVariants.{BadPart}
use Rattle.view.specs.With.{place_of, holds_part, part_held, held_with, found_with, start_with, end_with, part_with, read_with, characteristic_with}
use Rattle.view.specs.Due.{named_part, PartHolds, Answerable, Held, LacksPart, RefusedFor, no_group, bad_counts, bad_part, LinesDue, PartWithDue, ReadsPart, Due, ToldWithDue}
use Rattle.view.specs.Placed.{BadPartExactly}
use Rattle.view.proofs.Found.{found_none, found_counts, found_part, with_missing, with_given}

-- ---- the lines of a group

module _ (ρ : Rules) (s : List ℕ) (r : Carried) (g : ℕ) where
  -- the lines that the group's count needs, by its form
  lines_held : (f : Form) → form_of g ≡ Some f → PartHolds ρ s r g ↔ (holds_part ρ s r g f ≡ true)
  lines_held f e =
      let n = lines_has ρ r.counts_of g f e in
      let is = are_lines_lem s (place_of r.starts_of g) (place_of r.ends_of g) (lines_of ρ f (count_of r.counts_of g)) in (
        λ h. is.1 (subst (AreLines s (place_of r.starts_of g) (place_of r.ends_of g)) n h),
        λ t. subst (AreLines s (place_of r.starts_of g) (place_of r.ends_of g)) (sym n) (is.0 t),
      )

  -- ---- what is due is given

  answerable_accepted : Answerable ρ s r g → accepted_of r.counts_of ≡ Ok tt
  answerable_accepted d = (accepted_first_due r.counts_of (Ok tt)).1 d.rules

  held_given : Held ρ s r g → found_with ρ s r g ≡ Ok tt
  held_given d =
      let f = group_form g d.answerable.low d.answerable.high in
      found_part ρ s r g f.0 f.1 (answerable_accepted d.answerable) ((lines_held f.0 f.1).0 d.lines)

  -- a part that holds leaves the answer to the counts
  pub holds_accepted : (f : Form) → form_of g ≡ Some f → PartHolds ρ s r g → found_with ρ s r g ≡ accepted_of r.counts_of
  holds_accepted f e h = by (accepted_of r.counts_of) refl
    where
      by : (a : Result (Unit {0}) Refusal) → accepted_of r.counts_of ≡ a → found_with ρ s r g ≡ accepted_of r.counts_of
      by (Ok _) u = found_part ρ s r g f e u ((lines_held f e).0 h) ∙ sym u
      by (Err q) u = found_counts ρ s r g f e u ∙ sym u

  missing_given : (q : Refusal) → RefusedFor ρ s r g q → found_with ρ s r g ≡ Err q
  missing_given q (no_group d) = found_none ρ s r g ((none_has g).1 (λ i. d (i.low, i.high)))
  missing_given q (bad_counts p low high d) =
      let f = group_form g low high in
      found_counts ρ s r g f.0 f.1 ((accepted_first_due r.counts_of (Err p)).1 d)
  missing_given q (bad_part d) =
      let f = group_form g d.answerable.low d.answerable.high in
      found_part ρ s r g f.0 f.1 (answerable_accepted d.answerable)
      (not_T_false (holds_part ρ s r g f.0) (λ t. d.fails ((lines_held f.0 f.1).1 (T_true (holds_part ρ s r g f.0) t))))

  found_given : (a : Result (Unit {0}) Refusal) → LinesDue ρ s r g a → found_with ρ s r g ≡ a
  found_given (Ok _) d = held_given d
  found_given (Err q) d = missing_given q d

  -- ---- and what is given is due

  found_is_due : LinesDue ρ s r g (found_with ρ s r g)
  unfolding found_with
  found_is_due = by (form_of g) refl
    where
      part : (f : Form) (t : Bool) → form_of g ≡ Some f → Answerable ρ s r g → holds_part ρ s r g f ≡ t → LinesDue ρ s r g (cond t (Ok tt) (Err BadPart))
      part f true e d h = record { answerable = d; lines = (lines_held f e).1 h }
      part f false e d h = bad_part record { answerable = d; fails = λ l. false≢true (sym h ∙ (lines_held f e).0 l) }

      counts : (f : Form) (a : Result (Unit {0}) Refusal) → form_of g ≡ Some f → (1 ≤ g) × (g ≤ 60) → AcceptedDue r.counts_of a → LinesDue ρ s r g (and_then a (part_held ρ s r g f))
      counts f (Ok _) e i d = part f (holds_part ρ s r g f) e record { low = i.0; high = i.1; rules = d } refl
      counts f (Err q) e i d = bad_counts q i.0 i.1 d

      by : (h : Option Form) → form_of g ≡ h → LinesDue ρ s r g (held_with ρ s r g h)
      by (Some f) e =
          counts f (accepted_of r.counts_of) e (form_range g f e) ((accepted_first_due r.counts_of (accepted_of r.counts_of)).0 refl)
      by None e = no_group (λ i. (none_has g).0 e record { low = i.0; high = i.1 })

  pub found_first_due : (a : Result (Unit {0}) Refusal) → found_with ρ s r g ≡ a ↔ LinesDue ρ s r g a
  found_first_due a = (λ e. subst (LinesDue ρ s r g) e found_is_due, found_given a)

  -- R286: 22 exactly if neither 12 nor 4 to 7 is due and the part does not hold
  lacks_part : (q : Refusal) → q ≡ BadPart → RefusedFor ρ s r g q → LacksPart ρ s r g
  lacks_part q e (no_group d) = let z : ◌≡◌ {A = ℕ} 0 1 = cc in absurd (omega arith)
  lacks_part q e (bad_counts p low high (misformed d)) = let z : ◌≡◌ {A = ℕ} 0 1 = cc in absurd (omega arith)
  lacks_part q e (bad_counts p low high (other_release d)) = let z : ◌≡◌ {A = ℕ} 0 1 = cc in absurd (omega arith)
  lacks_part q e (bad_counts p low high (filled_vacant h d)) = let z : ◌≡◌ {A = ℕ} 0 1 = cc in absurd (omega arith)
  lacks_part q e (bad_counts p low high (broken_rule h d)) = let z : ◌≡◌ {A = ℕ} 0 1 = cc in absurd (omega arith)
  lacks_part q e (bad_part d) = d

  found_exactly : found_with ρ s r g ≡ Err BadPart ↔ LacksPart ρ s r g
  found_exactly = (λ e. lacks_part BadPart refl ((found_first_due (Err BadPart)).0 e), λ d. missing_given BadPart (bad_part d))

  -- ---- the part

  named_given : found_with ρ s r g ≡ Ok tt → (start_with ρ s r g ≡ place_of r.starts_of g) × (part_with ρ s r g ≡ named_part ρ s r g)
  unfolding start_with end_with part_with
  named_given e = rw e (refl, refl)

  none_given : {q : Refusal} → found_with ρ s r g ≡ Err q → (start_with ρ s r g ≡ 0) × (part_with ρ s r g ≡ [])
  unfolding start_with end_with part_with
  none_given e = rw e (refl, take_none s)

  part_due : (a : Result (Unit {0}) Refusal) → found_with ρ s r g ≡ a → PartWithDue ρ s r g (start_with ρ s r g) (part_with ρ s r g)
  part_due (Ok _) e = let p = named_given e in inl record { held = (found_first_due (Ok tt)).0 e; begins = p.0; lines = p.1 }
  part_due (Err q) e = let p = none_given e in inr record { why = q; missing = (found_first_due (Err q)).0 e; text_start = p.0; empty = p.1 }

  due_part : (from : ℕ) (x : List ℕ) → PartWithDue ρ s r g from x → (start_with ρ s r g ≡ from) × (part_with ρ s r g ≡ x)
  due_part from x (inl d) = let p = named_given (held_given d.held) in (p.0 ∙ sym d.begins, p.1 ∙ sym d.lines)
  due_part from x (inr d) = let p = none_given (missing_given d.why d.missing) in (p.0 ∙ sym d.text_start, p.1 ∙ sym d.empty)

  pub part_first_due : (from : ℕ) (x : List ℕ) → ((start_with ρ s r g ≡ from) × (part_with ρ s r g ≡ x)) ↔ PartWithDue ρ s r g from x
  part_first_due from x = (
    λ e. subst (λ n. PartWithDue ρ s r g n x) e.0 (subst (PartWithDue ρ s r g (start_with ρ s r g)) e.1 (part_due (found_with ρ s r g) refl)),
    due_part from x,
  )

  pub found_kept : found_with ρ s r g ≡ Ok tt → ruling_of r.counts_of ≡ None
  found_kept e = kept_ruling r.counts_of ((found_first_due (Ok tt)).0 e).answerable.rules.kept

  -- the part lies in the text, whether it is given or not
  pub with_range : (start_with ρ s r g ≤ end_with ρ s r g) × (end_with ρ s r g ≤ length s)
  unfolding start_with end_with
  with_range = by (found_with ρ s r g) refl
    where
      by : (c : Result (Unit {0}) Refusal) → found_with ρ s r g ≡ c
          → (place_if c (place_of r.starts_of g) ≤ place_if c (place_of r.ends_of g)) × (place_if c (place_of r.ends_of g) ≤ length s)
      by (Ok _) e = let l = ((found_first_due (Ok tt)).0 e).lines in (l.order, l.within)
      by (Err q) e = (omega arith, omega arith)

  pub with_order : start_with ρ s r g ≤ end_with ρ s r g
  with_order = with_range.0

  pub with_within : end_with ρ s r g ≤ length s
  with_within = with_range.1

  pub part_length : end_with ρ s r g ≡ start_with ρ s r g + length (part_with ρ s r g)
  unfolding part_with
  part_length =
      let w = with_range in
      omega (arith, w.0, w.1, length-take (end_with ρ s r g - start_with ρ s r g) (drop (start_with ρ s r g) s), length-drop (start_with ρ s r g) s)

  -- ---- reading

  module _ (room : ℕ) where
    held_reads : found_with ρ s r g ≡ Ok tt → read_with ρ s r g room ≡ read_group ρ r.counts_of g (named_part ρ s r g) room
    held_reads e = with_given ρ s r g room e ∙ ap (λ x. read_group ρ r.counts_of g x room) (named_given e).1

    reading_given : (c : Cells) → ReadsPart ρ s r g room c → read_with ρ s r g room ≡ c
    reading_given c d = held_reads (held_given d.held) ∙ (Reading.first_due ρ r.counts_of g (named_part ρ s r g) room c).1 d.reading

    read_given : (c : Cells) → Due ρ s r g room c → read_with ρ s r g room ≡ c
    read_given (done cs) d = reading_given (done cs) d
    read_given (bad q) d = ⊎_elim (λ (m : RefusedFor ρ s r g q). with_missing ρ s r g room (missing_given q m)) (reading_given (bad q)) d

    from_reading : (c : Cells) → ReadsPart ρ s r g room c → Due ρ s r g room c
    from_reading (done cs) d = d
    from_reading (bad q) d = inr d

    read_is_due : (a : Result (Unit {0}) Refusal) → found_with ρ s r g ≡ a → Due ρ s r g room (read_with ρ s r g room)
    read_is_due (Ok _) e =
        from_reading (read_with ρ s r g room) record {
          held = (found_first_due (Ok tt)).0 e;
          reading = (Reading.first_due ρ r.counts_of g (named_part ρ s r g) room (read_with ρ s r g room)).0 (sym (held_reads e));
        }
    read_is_due (Err q) e = subst (Due ρ s r g room) (sym (with_missing ρ s r g room e)) (inl ((found_first_due (Err q)).0 e))

    -- the lines and their fields never give 22
    reads_lines : (q : Refusal) → q ≡ BadPart → Lines.RefusedFor ρ r.counts_of g (named_part ρ s r g) room q → ⊥
    reads_lines q e (Lines.no_group d) = let z : ◌≡◌ {A = ℕ} 0 1 = cc in omega arith
    reads_lines q e (Lines.broken_rule h d) = let z : ◌≡◌ {A = ℕ} 0 1 = cc in omega arith
    reads_lines q e (Lines.no_room d) = let z : ◌≡◌ {A = ℕ} 0 1 = cc in omega arith
    reads_lines q e (Lines.bad_line l d) = let z : ◌≡◌ {A = ℕ} 0 1 = cc in omega arith
    reads_lines q e (Lines.bad_field l k d) = let z : ◌≡◌ {A = ℕ} 0 1 = cc in omega arith
    reads_lines q e (Lines.bad_date p d) = let z : ◌≡◌ {A = ℕ} 0 1 = cc in omega arith

    pub first_due : (c : Cells) → read_with ρ s r g room ≡ c ↔ Due ρ s r g room c
    first_due c = (λ e. subst (Due ρ s r g room) e (read_is_due (found_with ρ s r g) refl), read_given c)

    reading_exactly : read_with ρ s r g room ≡ bad BadPart ↔ LacksPart ρ s r g
    reading_exactly = (
      λ e. ⊎_elim (lacks_part BadPart refl) (λ (d : ReadsPart ρ s r g room (bad BadPart)). absurd (reads_lines BadPart refl d.reading)) ((first_due (bad BadPart)).0 e),
      λ d. read_given (bad BadPart) (inl (bad_part d)),
    )

    pub lines_decide : (f : Form) → form_of g ≡ Some f → Held ρ s r g → read_with ρ s r g room ≡ read_form ρ f g (count_of r.counts_of g) (named_part ρ s r g) room
    unfolding Read.read_group
    lines_decide f e d = held_reads (held_given d) ∙ rw (e, kept_ruling r.counts_of d.answerable.rules.kept)

-- ---- a characteristic

module _ (ρ : Rules) (s : List ℕ) (r : Carried) where
  four_room : (room : ℕ) → 49 ≤ room → read_with ρ s r 4 room ≡ read_with ρ s r 4 49
  unfolding read_with
  four_room room h = same_room ρ r.counts_of (part_with ρ s r 4) (found_with ρ s r 4) room 49 h (omega arith)

  four_reads : (c : Cells) → (read_with ρ s r 4 49 ≡ c) ↔ ((room : ℕ) → 49 ≤ room → Due ρ s r 4 room c)
  four_reads = four_is (Due ρ s r 4) (read_with ρ s r 4) (first_due ρ s r 4) four_room

  pub characteristic_first_due : (k : ℕ) (c : Characteristic) → characteristic_with ρ s r k ≡ c ↔ ToldWithDue ρ s r k c
  unfolding characteristic_with
  characteristic_first_due =
      told_first_due (Due ρ s r 4) (count_of r.counts_of 4) (read_with ρ s r 4 49) four_reads
      (λ cs e. four_size ρ r.counts_of (named_part ρ s r 4) 49 cs ((first_due ρ s r 4 49 (done cs)).0 e).reading)

  characteristic_exactly : (k : ℕ) → characteristic_with ρ s r k ≡ Refused BadPart ↔ (((1 ≤ k) × (k ≤ 49)) × LacksPart ρ s r 4)
  characteristic_exactly k = (λ e. there ((characteristic_first_due k (Refused BadPart)).0 e), back)
    where
      there : ToldWithDue ρ s r k (Refused BadPart) → ((1 ≤ k) × (k ≤ 49)) × LacksPart ρ s r 4
      there (inl n) = let e = n.twelve in let z : ◌≡◌ {A = ℕ} 0 1 = cc in absurd (omega arith)
      there (inr h) = ((h.low, h.high), (reading_exactly ρ s r 4 49).0 ((four_reads (bad BadPart)).1 h.reads_as))

      back : ((1 ≤ k) × (k ≤ 49)) × LacksPart ρ s r 4 → characteristic_with ρ s r k ≡ Refused BadPart
      back d =
          (characteristic_first_due k (Refused BadPart)).1
          (inr record { low = d.0.0; high = d.0.1; reads_as = (four_reads (bad BadPart)).0 ((reading_exactly ρ s r 4 49).1 d.1) })

  pub bad_part_exactly : BadPartExactly ρ s r
  bad_part_exactly = record { found = found_exactly ρ s r; reading = reading_exactly ρ s r; characteristic = characteristic_exactly }
