-- R288: a record that was placed gives the answers of asking by its place; so it does in a text that was damaged since, or that grew.
-- Assumes nothing.
use Rattle.std.specs.Prelude.{Option, Some, None, Result, Ok, Err}
use mathlib.Core.Path.{◌≡◌, refl, sym, ◌∙◌, ap, subst}
use mathlib.Core.List.{List, ◌++◌}
use mathlib.Core.Logic.{◌⊎◌, inl, inr}
use Prim.Native.Nat.{ℕ, suc, ◌≤◌}
use native.Mathlib.Omega.{arith}
use lib.IntN.{ℤ}
use lib.ListN.{length, replicate}
use Rattle.rules.specs.declared.Rules.{Rules}
use Rattle.base.specs.Pieces.{bad}
use Rattle.form.specs.declared.Form.{Form}
use Rattle.form.specs.Table.{form_of}
use Rattle.form.proofs.Table.{group_form, form_range}
use Rattle.count.specs.Check
use Rattle.count.specs.Check.{accepted_of}
use Rattle.count.specs.Rules
use Rattle.count.proofs.Tallied.{count_at}
use Rattle.place.specs.Growth.{Settled, number_at}
use Rattle.place.specs.Numbered.{placing_reply}
use Rattle.place.specs.Parts.{start}
use Rattle.place.specs.Placing
use Rattle.place.specs.Placing.{Located, located, refused, locate, counts_by, counts_at, starts_at, ends_at, Carried, carried_at}
use Rattle.place.specs.declared.Placing.{Placing as Answer}
use Rattle.place.specs.Walk.{PlacedAt, spot}
use Rattle.place.proofs.Due.{located_accepted}
use Rattle.place.proofs.Placed.{counts_at_lem}
use Rattle.place.proofs.Spans.{start_at, end_at_lem}
use Rattle.place.proofs.Stopped.{placed_record}
use Rattle.place.proofs.Tiling.{group_lines}
use Rattle.reading.specs.Read.{Cells}
use Rattle.group.specs.declared.Characteristic.TheVariants.{Refused}
use Rattle.group.specs.Answers.{SameReading}
use Rattle.group.specs.Characteristics
use Rattle.group.specs.Characteristics.{characteristic_by, characteristic_at}
use Rattle.group.specs.Damage.{Damaged, Confined}
use Rattle.group.specs.Growth.{AnswersStay}
use Rattle.group.specs.Held
use Rattle.group.specs.Held.{place_if, found_at, start_by, part_start, part_end, part_at}
use Rattle.group.specs.Text
use Rattle.group.specs.Text.{read_at}
use Rattle.group.proofs.Holding.{given_is, span_end}
use Rattle.group.proofs.Reported.{number_inside}
use Rattle.group.proofs.Damage.{damage_stays}
use Rattle.group.proofs.Growth.{answers_stay}
use Rattle.reply.specs.declared.Refusal.TheVariants.{OtherRelease}
use Rattle.view.specs.Due.{PartHolds}
use Rattle.view.specs.Placed.{AsPlaced, NonePlaced, PlacedAnswers, DamageKept, GrowthKept}
use Rattle.view.specs.With.{place_of, found_with, start_with, end_with, part_with, read_with, characteristic_with}
use Rattle.view.proofs.Due.{holds_accepted}
use Rattle.view.proofs.Found.{found_none, found_counts, with_missing}
use Rattle.reply.specs.declared.Refusal.{Refusal}

-- ---- a record that is located

module _ (ρ : Rules) (s : List ℕ) (at n : ℕ) (ns : List ℕ) (e : locate ρ s at ≡ located n ns) where
  starts_there : (g : ℕ) → 1 ≤ g → g ≤ 60 → place_of (starts_at ρ s at) g ≡ start ρ s at ns g
  starts_there g low high = count_at (starts_at ρ s at) g low ∙ start_at ρ s at n ns e g low high

  ends_there : (g : ℕ) → 1 ≤ g → g ≤ 60 → place_of (ends_at ρ s at) g ≡ start ρ s at ns (suc g)
  ends_there g low high = count_at (ends_at ρ s at) g low ∙ end_at_lem ρ s at n ns e g low high

  -- each part holds
  part_holds : (g : ℕ) → 1 ≤ g → g ≤ 60 → PartHolds ρ s (carried_at ρ s at) g
  part_holds g low high =
      rw (starts_there g low high, ends_there g low high, counts_at_lem ρ s at n ns e) (group_lines ρ s at n ns e g low high)

  -- so the counts decide, as they do in placing
  placed_has : (g : ℕ) (f : Form) → form_of g ≡ Some f → found_with ρ s (carried_at ρ s at) g ≡ found_at ρ s at g
  unfolding Held.found_at Placing.placing_of
  placed_has g f u =
      let range = form_range g f u in
      holds_accepted ρ s (carried_at ρ s at) g f u (part_holds g range.0 range.1) ∙ rw (counts_at_lem ρ s at n ns e, u, e) (located_accepted ρ s at n ns e)

  placed_none : (g : ℕ) → form_of g ≡ None → found_with ρ s (carried_at ρ s at) g ≡ found_at ρ s at g
  unfolding Held.found_at
  placed_none g u = found_none ρ s (carried_at ρ s at) g u ∙ rw u

  placed_found : (g : ℕ) → found_with ρ s (carried_at ρ s at) g ≡ found_at ρ s at g
  placed_found g = by (form_of g) refl
    where
      by : (h : Option Form) → form_of g ≡ h → found_with ρ s (carried_at ρ s at) g ≡ found_at ρ s at g
      by (Some f) u = placed_has g f u
      by None u = placed_none g u

  -- where the lines are given they stand where the record says
  module _ (g : ℕ) where
    named : (c : Result (Unit {0}) Refusal) → found_at ρ s at g ≡ c
        → (place_if c (place_of (starts_at ρ s at) g) ≡ start_by ρ s at g c) × (place_if c (place_of (ends_at ρ s at) g) ≡ start_by ρ s at (suc g) c)
    named (Ok _) u =
        let i = given_is ρ s at g u in
        let range = form_range g i.form i.has in
        rw (counts_at_lem ρ s at n ns e) (starts_there g range.0 range.1, ends_there g range.0 range.1)
    named (Err q) u = (refl, refl)

    placed_begins : start_with ρ s (carried_at ρ s at) g ≡ part_start ρ s at g
    unfolding start_with Held.part_start
    placed_begins = rw (placed_found g) (named (found_at ρ s at g) refl).0

    placed_ends : end_with ρ s (carried_at ρ s at) g ≡ part_end ρ s at g
    unfolding end_with Held.part_end
    placed_ends = rw (placed_found g) (named (found_at ρ s at g) refl).1

    placed_lines : part_with ρ s (carried_at ρ s at) g ≡ part_at ρ s at g
    unfolding part_with Held.part_at
    placed_lines = rw (placed_begins, placed_ends)

    placed_groups : (room : ℕ) → read_with ρ s (carried_at ρ s at) g room ≡ read_at ρ s at g room
    unfolding read_with Text.read_at
    placed_groups room = rw (placed_found g, placed_lines) refl

  placed_characteristics : (k : ℕ) → characteristic_with ρ s (carried_at ρ s at) k ≡ characteristic_at ρ s at k
  unfolding characteristic_with Characteristics.characteristic_at
  placed_characteristics k = ap (characteristic_by k) (placed_groups 4 49)

  as_located : AsPlaced ρ s at
  as_located =
      record {
        found = placed_found;
        begins = placed_begins;
        ends = placed_ends;
        lines = placed_lines;
        groups = placed_groups;
        characteristics = placed_characteristics;
        never = λ g d. d.fails (part_holds g d.answerable.low d.answerable.high);
      }

pub as_placed : (ρ : Rules) (s : List ℕ) (at : ℕ) → PlacedAt ρ s at → AsPlaced ρ s at
as_placed ρ s at p = let i = (placed_record ρ s at).0 p in as_located ρ s at i.next i.ns i.is

-- ---- where nothing is placed

no_release : accepted_of (replicate 80 0) ≡ Err OtherRelease
unfolding Check.accepted_of Check.well_formed Rules.release_of
no_release = refl

none_carried : (ρ : Rules) (s : List ℕ) (at : ℕ) → (PlacedAt ρ s at → ⊥) → counts_at ρ s at ≡ replicate 80 0
unfolding Placing.counts_at
none_carried ρ s at unplaced = by (locate ρ s at) refl
  where
    by : (l : Located) → locate ρ s at ≡ l → counts_by l ≡ replicate 80 0
    by (located n ns) u = absurd (unplaced ((placed_record ρ s at).1 record { next = n; ns = ns; is = u }))
    by (refused q) u = refl

module _ (ρ : Rules) (s : List ℕ) (at : ℕ) (unplaced : PlacedAt ρ s at → ⊥) (σ : Rules) (u : List ℕ) where
  none_found : (g : ℕ) → 1 ≤ g → g ≤ 60 → found_with σ u (carried_at ρ s at) g ≡ Err OtherRelease
  none_found g low high =
      let f = group_form g low high in
      found_counts σ u (carried_at ρ s at) g f.0 f.1 (ap accepted_of (none_carried ρ s at unplaced) ∙ no_release)

  none_read : (g room : ℕ) → 1 ≤ g → g ≤ 60 → read_with σ u (carried_at ρ s at) g room ≡ bad OtherRelease
  none_read g room low high = with_missing σ u (carried_at ρ s at) g room (none_found g low high)

  none_told : (k : ℕ) → 1 ≤ k → k ≤ 49 → characteristic_with σ u (carried_at ρ s at) k ≡ Refused OtherRelease
  unfolding characteristic_with
  none_told k low high = ap (characteristic_by k) (none_read 4 49 (omega arith) (omega arith)) ∙ number_inside k (bad OtherRelease) low high

none_placed : (ρ : Rules) (s : List ℕ) (at : ℕ) → (PlacedAt ρ s at → ⊥) → NonePlaced ρ s at
none_placed ρ s at unplaced =
    record { found = none_found ρ s at unplaced; groups = none_read ρ s at unplaced; characteristics = none_told ρ s at unplaced }

pub placed_answers : (ρ : Rules) → PlacedAnswers ρ
placed_answers ρ = record { placed = as_placed ρ; none = none_placed ρ }

-- ---- a record that was placed before the text was damaged

same_by : {a b c d : Cells} {table : List ℤ} → a ≡ b → c ≡ d → SameReading a c table → SameReading b d table
same_by {a} {b} {c} {d} {table} e f h = subst (λ y. SameReading y d table) e (subst (λ y. SameReading a y table) f h)

module _ (ρ : Rules) (t u : List ℕ) (among : ℕ → ℕ → Type 0) (d : Damaged ρ t u among) where
  kept : Confined ρ t u among
  kept = damage_stays ρ t u among d

  module _ (j : ℕ) (p : PlacedAt ρ t (spot ρ t j)) where
    before : AsPlaced ρ t (spot ρ t j)
    before = as_placed ρ t (spot ρ t j) p

    -- the record of u there carries the same, and is placed too
    there : AsPlaced ρ u (spot ρ u j)
    there = as_placed ρ u (spot ρ u j) (subst (λ (a : Answer). ((placing_reply a).number ≡ 0) ⊎ ((placing_reply a).number ≡ 7)) (sym (kept.answers j)) p)

    -- so what is asked with the one is what is asked by place
    asked_there : {X : Type 0} (ask : Carried → X) → ask (carried_at ρ t (spot ρ t j)) ≡ ask (carried_at ρ u (spot ρ u j))
    asked_there ask = ap ask (sym (kept.carries j))

    read_there : (h room : ℕ) → read_at ρ u (spot ρ u j) h room ≡ read_with ρ u (carried_at ρ t (spot ρ t j)) h room
    read_there h room = sym (asked_there (λ r. read_with ρ u r h room) ∙ there.groups h room)

  pub damage_kept : DamageKept ρ t u among
  damage_kept = record {
    found = λ j h p. asked_there j p (λ r. found_with ρ u r h) ∙ (there j p).found h ∙ kept.part_answers j h ∙ sym ((before j p).found h);
    begins = λ j h p. asked_there j p (λ r. start_with ρ u r h) ∙ (there j p).begins h ∙ kept.part_starts j h ∙ sym ((before j p).begins h);
    ends = λ j h p. asked_there j p (λ r. end_with ρ u r h) ∙ (there j p).ends h ∙ part_ends j h ∙ sym ((before j p).ends h);
    lines = λ j h p out. asked_there j p (λ r. part_with ρ u r h) ∙ (there j p).lines h ∙ kept.part_bytes j h out ∙ sym ((before j p).lines h);
    others = λ j h p out table. same_by (read_there j p h (length table)) (sym ((before j p).groups h (length table))) (kept.others j h out table);
    altered = λ j h p table. same_by (read_there j p h (length table)) refl (kept.altered j h p table);
    characteristics = λ j p out k.
        asked_there j p (λ r. characteristic_with ρ u r k) ∙ (there j p).characteristics k ∙ kept.characteristics j out k ∙ sym ((before j p).characteristics k);
  }
    where
      part_ends : (j h : ℕ) → part_end ρ u (spot ρ u j) h ≡ part_end ρ t (spot ρ t j) h
      part_ends j h = omega (arith, span_end ρ u (spot ρ u j) h, span_end ρ t (spot ρ t j) h, kept.part_starts j h, kept.part_lengths j h)

-- ---- or grew

placed_settled : (n : ℕ) → (n ≡ 0) ⊎ (n ≡ 7) → Settled n
placed_settled n (inl e) = inl e
placed_settled n (inr e) = inr (inr (inr (inr e)))

pub growth_kept : (ρ : Rules) (s b : List ℕ) (at : ℕ) → PlacedAt ρ s at → GrowthKept ρ s b at
growth_kept ρ s b at p =
    record {
      found = λ g. carries (λ r. found_with ρ (s ++ b) r g) ∙ there.found g ∙ stays.answers.found g ∙ sym (before.found g);
      begins = λ g. carries (λ r. start_with ρ (s ++ b) r g) ∙ there.begins g ∙ stays.answers.begins g ∙ sym (before.begins g);
      ends = λ g. carries (λ r. end_with ρ (s ++ b) r g) ∙ there.ends g ∙ stays.part_ends g ∙ sym (before.ends g);
      lines = λ g. carries (λ r. part_with ρ (s ++ b) r g) ∙ there.lines g ∙ stays.answers.lines g ∙ sym (before.lines g);
      groups = λ g room. carries (λ r. read_with ρ (s ++ b) r g room) ∙ there.groups g room ∙ stays.answers.groups g room ∙ sym (before.groups g room);
      characteristics = λ k. carries (λ r. characteristic_with ρ (s ++ b) r k) ∙ there.characteristics k ∙ stays.answers.characteristics k ∙ sym (before.characteristics k);
    }
  where
    stays : AnswersStay ρ s b at
    stays = answers_stay ρ s b at (placed_settled (number_at ρ s at) p)

    before : AsPlaced ρ s at
    before = as_placed ρ s at p

    there : AsPlaced ρ (s ++ b) at
    there = as_placed ρ (s ++ b) at (subst (λ (a : Answer). ((placing_reply a).number ≡ 0) ⊎ ((placing_reply a).number ≡ 7)) (sym stays.answers.placing) p)

    carries : {X : Type 0} (ask : Carried → X) → ask (carried_at ρ s at) ≡ ask (carried_at ρ (s ++ b) at)
    carries ask = ap ask (sym stays.answers.carried)
