-- First due: asking for a group's lines at a place, reading a group there, and asking for a characteristic each give a reply exactly if that
-- reply is due (specs/Due.antt). So group 4 never lacks room in 49 cells.
-- Assumes nothing.
use Rattle.std.specs.Prelude.{Option, Some, None, Result, Ok, Err}
use mathlib.Core.Path.{◌≡◌, refl, sym, ◌∙◌, ap, subst}
use mathlib.Core.Bool.{Bool, true, false, cond, false≢true}
use mathlib.Core.List.{List}
use mathlib.Core.Logic.{◌↔◌, inl, inr, ⊎_elim}
use Prim.Native.Nat.{ℕ, ◌-◌, ◌<◌, ◌≤◌}
use native.Mathlib.Omega.{arith}
use borrow.Author.Tests.{le-leb, lt-leb, leb-true, leb-false}
use lib.Dec.{leb}
use lib.IntN.{ℤ, pos}
use lib.ListN.{length, drop, get_or}
use Rattle.rules.specs.declared.Rules.{Rules}
use Rattle.base.specs.Pieces.{done, bad}
use Rattle.base.proofs.Order.{le_or_lt}
use Rattle.form.specs.declared.Form.TheVariants.{F8}
use Rattle.form.specs.Table.{form_of}
use Rattle.form.specs.Count.{cells_of}
use Rattle.form.proofs.Table.{no_group as none_has}
use Rattle.count.specs.Tally.{count_of}
use Rattle.place.specs.declared.Placing.{Placing}
use Rattle.place.specs.declared.Placing.TheVariants as P
use Rattle.place.specs.Index.{counts}
use Rattle.place.specs.Numbered.{as_checked}
use Rattle.place.specs.Placing.{placing_of, counts_at}
use Rattle.place.specs.Parts.{start, group_part}
use Rattle.place.specs.Due as Place
use Rattle.place.proofs.Due as Placing
use Rattle.place.proofs.Placed.{located_is}
use Rattle.count.proofs.Rulings.{kept_ruling}
use Rattle.place.proofs.Zero.{is_placed_lem}
use Rattle.reply.specs.declared.Refusal.{Refusal}
use Rattle.reply.specs.declared.Refusal.TheVariants.{NoSuchNumber}
use Rattle.reading.specs.Read.{Cells, read_group}
use Rattle.reading.specs.Due.{TableShort}
use Rattle.reading.proofs.Due as Reading
use Rattle.form.proofs.Table.{group_form, form_range}
use Rattle.group.specs.declared.Characteristic.{Characteristic}
use Rattle.group.specs.declared.Characteristic.TheVariants.{Value, NoReading, NotReported, Refused}
use Rattle.group.specs.Held.{found_in, found_at, start_by, part_start, part_at}
use Rattle.group.specs.Text.{read_at}
use Rattle.characteristic.specs.NoReading.{is_no_reading}
use Rattle.characteristic.proofs.NoReading.{no_reading_exactly}
use Rattle.base.proofs.Choice.{true_T, T_true}
use Rattle.group.specs.Characteristics.{told_by, reported, characteristic_by, characteristic_at}
use Rattle.form.specs.Table.{NoSuchGroup}
use Rattle.place.specs.Parts.{IsPart}
use Rattle.place.proofs.Indexed.{index_is}
use Rattle.place.proofs.Tiling.{is_part, part_is}
use Rattle.base.proofs.Taken.{take_none}
use Rattle.group.specs.Due.{PlacingDue, RefusedFor, no_group, broken_rule, unplaced, FoundDue, GivenPart, PartDue, ReadingDue, Due, NoNumber, FourReads, HasCell, ToldDue, CharacteristicDue}
use Rattle.group.proofs.Holding.{given_part, missing_start, missing_end}
use Rattle.group.proofs.Texts.{read_missing, read_given}
use Rattle.group.proofs.Reported.{is_no_reading_lem, is_reading, number_none, number_inside}
use Rattle.group.proofs.Rooms.{form_four, room_four, same_room, four_size}
use Rattle.form.specs.declared.Form.{Form}

-- ---- the lines of a group

module _ (ρ : Rules) (s : List ℕ) (at g : ℕ) where
  found_none : NoSuchGroup g → found_at ρ s at g ≡ Err NoSuchNumber
  unfolding found_at
  found_none n = rw ((none_has g).1 (λ i. n (i.low, i.high))) refl

  found_placing : (p : Placing) → PlacingDue ρ s at g p → found_at ρ s at g ≡ as_checked p
  unfolding found_at
  found_placing p d = rw ((group_form g d.low d.high).1, (Placing.first_due ρ s at p).1 d.placing) refl

  missing_given : (r : Refusal) → RefusedFor ρ s at g r → found_at ρ s at g ≡ Err r
  missing_given r (no_group d) = found_none d
  missing_given r (broken_rule h d) = found_placing (P.BrokenRule h d.next) d.broken
  missing_given r (unplaced q d) = found_placing (P.Refused q) d

  found_given : (r : Result (Unit {0}) Refusal) → FoundDue ρ s at g r → found_at ρ s at g ≡ r
  found_given (Ok _) d = found_placing (P.Placed d.next) d.placed
  found_given (Err r) d = missing_given r d

  from_placing : (p : Placing) → PlacingDue ρ s at g p → FoundDue ρ s at g (as_checked p)
  from_placing (P.Placed n) d = record { next = n; placed = d }
  from_placing (P.BrokenRule h n) d = broken_rule h record { next = n; broken = d }
  from_placing (P.Refused r) d = unplaced r d

  found_is_due : FoundDue ρ s at g (found_at ρ s at g)
  unfolding found_at
  found_is_due = by (form_of g) refl
    where
      by : (h : Option Form) → form_of g ≡ h → FoundDue ρ s at g (found_in ρ s at h)
      by (Some f) e =
          let r = form_range g f e in
          from_placing (placing_of ρ s at) record { low = r.0; high = r.1; placing = (Placing.first_due ρ s at (placing_of ρ s at)).0 refl }
      by None e = no_group (λ i. (none_has g).0 e record { low = i.0; high = i.1 })

  pub found_first_due : (r : Result (Unit {0}) Refusal) → found_at ρ s at g ≡ r ↔ FoundDue ρ s at g r
  found_first_due r = (λ e. subst (FoundDue ρ s at g) e found_is_due, found_given r)

-- ---- a group

-- the counts of a placed record are those that stand in its index
counts_are : (ρ : Rules) (s : List ℕ) (at n : ℕ) (d : Place.StandsRight ρ s at n) → counts_at ρ s at ≡ d.ns
counts_are ρ s at n d =
    let p = is_placed_lem ρ s at n ((Placing.first_due ρ s at (P.Placed n)).1 d) in
    let a = (located_is ρ s at n (counts_at ρ s at) p.located_at).index in
    let e : counts (counts_at ρ s at) ≡ counts d.ns = sym a ∙ (index_is ρ (drop at s) d.ns).1 d.lines.head.index.index in
    cc

-- ---- its part

placed_part : (ρ : Rules) (s : List ℕ) (at g n : ℕ) (d : PlacingDue ρ s at g (P.Placed n)) → IsPart ρ s at d.placing.ns g (start ρ s at d.placing.ns g) (group_part ρ s at d.placing.ns g)
placed_part ρ s at g n d =
    let q = is_placed_lem ρ s at n ((Placing.first_due ρ s at (P.Placed n)).1 d.placing) in
    subst (λ ns. IsPart ρ s at ns g (start ρ s at ns g) (group_part ρ s at ns g)) (counts_are ρ s at n d.placing) (part_is ρ s at n (counts_at ρ s at) q.located_at g d.low d.high)

module _ (ρ : Rules) (s : List ℕ) (at g : ℕ) where
  part_placed : found_at ρ s at g ≡ Ok tt → (d : FoundDue ρ s at g (Ok tt)) → GivenPart ρ s at g (part_start ρ s at g) (part_at ρ s at g)
  unfolding part_start
  part_placed e d =
      let p = d.placed.placing in
      let q = is_placed_lem ρ s at d.next ((Placing.first_due ρ s at (P.Placed d.next)).1 p) in
      let c = counts_are ρ s at d.next p in
      record {
        placed = d;
        lines =
            subst (λ ns. IsPart ρ s at ns g (start_by ρ s at g (found_at ρ s at g)) (part_at ρ s at g)) c
            (rw (e, given_part ρ s at g e) (part_is ρ s at d.next (counts_at ρ s at) q.located_at g d.placed.low d.placed.high));
      }

  part_due : (r : Result (Unit {0}) Refusal) → found_at ρ s at g ≡ r → FoundDue ρ s at g r → PartDue ρ s at g (part_start ρ s at g) (part_at ρ s at g)
  unfolding part_at
  part_due (Ok _) e d = inl (part_placed e d)
  part_due (Err r) e d =
      let b = missing_start ρ s at g e in
      inr record { why = r; missing = d; text_start = b; empty = rw (b, missing_end ρ s at g e) (take_none s) }

  due_part : (from : ℕ) (x : List ℕ) → PartDue ρ s at g from x → (part_start ρ s at g ≡ from) × (part_at ρ s at g ≡ x)
  unfolding part_at part_start
  due_part from x (inl h) =
      let d = h.placed.placed in
      let e = found_placing ρ s at g (P.Placed h.placed.next) d in
      let c = counts_are ρ s at h.placed.next d.placing in
      let w = is_part ρ s at d.placing.ns g from x d.low d.high h.lines in (
        rw (e, c) (sym w.0),
        given_part ρ s at g e ∙ rw c (sym w.1),
      )
  due_part from x (inr h) =
      let e = missing_given ρ s at g h.why h.missing in
      let b = missing_start ρ s at g e in
      (b ∙ sym h.text_start, rw (b, missing_end ρ s at g e) (take_none s) ∙ sym h.empty)

  -- the part that is given is the one that is due, and no other is
  pub part_first_due : (from : ℕ) (x : List ℕ) → ((part_start ρ s at g ≡ from) × (part_at ρ s at g ≡ x)) ↔ PartDue ρ s at g from x
  part_first_due from x = (
    λ e. subst (λ f. PartDue ρ s at g f x) e.0 (subst (PartDue ρ s at g (part_start ρ s at g)) e.1 (part_due (found_at ρ s at g) refl ((found_first_due ρ s at g (found_at ρ s at g)).0 refl))),
    due_part from x,
  )

-- ---- reading it

module _ (ρ : Rules) (s : List ℕ) (at g room : ℕ) where
  to_reading : (n : ℕ) (d : PlacingDue ρ s at g (P.Placed n)) → read_at ρ s at g room ≡ read_group ρ d.placing.ns g (group_part ρ s at d.placing.ns g) room
  to_reading n d =
      let e = found_placing ρ s at g (P.Placed n) d in
      read_given ρ s at g room e ∙ rw (given_part ρ s at g e, counts_are ρ s at n d.placing) refl

  reading_given : (c : Cells) → ReadingDue ρ s at g room c → read_at ρ s at g room ≡ c
  reading_given c d =
      let ns = d.placed.placing.ns in
      let these = (is_part ρ s at ns g d.from d.x d.placed.low d.placed.high d.lines).1 in
      to_reading d.next d.placed ∙ ap (λ y. read_group ρ ns g y room) (sym these) ∙ (Reading.first_due ρ ns g d.x room c).1 d.reading

  missing_read : (r : Refusal) → RefusedFor ρ s at g r → read_at ρ s at g room ≡ bad r
  missing_read r d = read_missing ρ s at g room (missing_given ρ s at g r d)

  given : (c : Cells) → Due ρ s at g room c → read_at ρ s at g room ≡ c
  given (done cs) d = reading_given (done cs) d
  given (bad r) d = ⊎_elim (missing_read r) (reading_given (bad r)) d

  from_reading : (c : Cells) → ReadingDue ρ s at g room c → Due ρ s at g room c
  from_reading (done cs) d = d
  from_reading (bad r) d = inr d

  from_found : (r : Result (Unit {0}) Refusal) → found_at ρ s at g ≡ r → FoundDue ρ s at g r → Due ρ s at g room (read_at ρ s at g room)
  from_found (Ok _) e d =
      let ns = d.placed.placing.ns in
      let u = to_reading d.next d.placed in
      from_reading (read_at ρ s at g room) record {
        next = d.next;
        placed = d.placed;
        from = start ρ s at ns g;
        x = group_part ρ s at ns g;
        lines = placed_part ρ s at g d.next d.placed;
        reading = (Reading.first_due ρ ns g (group_part ρ s at ns g) room (read_at ρ s at g room)).0 (sym u);
      }
  from_found (Err r) e d = subst (Due ρ s at g room) (sym (read_missing ρ s at g room e)) (inl d)

  -- the reply that is given is the one that is due, and no other is
  pub first_due : (c : Cells) → read_at ρ s at g room ≡ c ↔ Due ρ s at g room c
  first_due c = (λ e. subst (Due ρ s at g room) e (from_found (found_at ρ s at g) refl ((found_first_due ρ s at g (found_at ρ s at g)).0 refl)), given c)

-- ---- a characteristic

-- group 4 read into a table of 49 cells is group 4 read into every table with room
pub four_is : (four : ℕ → Cells → Type 0) (read : ℕ → Cells) → ((room : ℕ) (c : Cells) → read room ≡ c ↔ four room c) → ((room : ℕ) → 49 ≤ room → read room ≡ read 49) → (c : Cells)
    → (read 49 ≡ c) ↔ ((room : ℕ) → 49 ≤ room → four room c)
four_is four read due same c = (λ e room h. (due room c).0 (same room h ∙ e), λ d. (due 49 c).1 (d 49 (omega arith)))

-- `is` says what group 4 reads as, and `size` that it has a cell for each element
module _ (four : ℕ → Cells → Type 0) (count : ℕ) (read : Cells) (is : (c : Cells) → (read ≡ c) ↔ ((room : ℕ) → 49 ≤ room → four room c)) (size : (cs : List ℤ) → read ≡ done cs → length cs ≡ count)
    (k : ℕ) where
  to_reported : (c : Cells) → FourReads k four c → characteristic_by k read ≡ reported k c
  to_reported c d = number_inside k read d.low d.high ∙ ap (reported k) ((is c).1 d.reads_as)

  read_size : (cs : List ℤ) → FourReads k four (done cs) → length cs ≡ count
  read_size cs d = size cs ((is (done cs)).1 d.reads_as)

  to_cell : (z : ℤ) → HasCell four count k z → characteristic_by k read ≡ told_by k z
  to_cell z d =
      let t : leb k (length d.cs) ≡ true = le-leb k (length d.cs) (omega (arith, read_size d.cs d.reads, d.within)) in
      to_reported (done d.cs) d.reads ∙ rw (t, d.cell) refl

  told_given : (c : Characteristic) → ToldDue four count k c → characteristic_by k read ≡ c
  told_given (Refused r) d =
      ⊎_elim
      (λ (n : NoNumber k r). number_none k read (λ low high. n.none (low, high)) ∙ ap Refused (sym n.twelve))
      (λ (h : FourReads k four (bad r)). to_reported (bad r) h)
      d
  told_given NotReported d =
      let t : leb k (length d.cs) ≡ false = lt-leb k (length d.cs) (omega (arith, read_size d.cs d.reads, d.above)) in
      to_reported (done d.cs) d.reads ∙ rw t refl
  told_given NoReading d = to_cell d.z d.cell ∙ is_no_reading_lem k d.z d.none
  told_given (Value z) d = to_cell z d.cell ∙ is_reading k z d.reading

  from_cell : (z : ℤ) (t : Bool) → HasCell four count k z → is_no_reading k z ≡ t → ToldDue four count k (cond t NoReading (Value z))
  from_cell z true h e = record { z = z; cell = h; none = (no_reading_exactly k z).0 (true_T (is_no_reading k z) e) }
  from_cell z false h e =
      record { cell = h; reading = λ u. false≢true (sym e ∙ T_true (is_no_reading k z) ((no_reading_exactly k z).1 u)) }

  from_count : (cs : List ℤ) (t : Bool) → FourReads k four (done cs) → leb k (length cs) ≡ t → ToldDue four count k (cond t (told_by k (get_or cs (k - 1) (pos 0))) NotReported)
  from_count cs true h e =
      from_cell (get_or cs (k - 1) (pos 0)) (is_no_reading k (get_or cs (k - 1) (pos 0))) record { cs = cs; reads = h; within = omega (arith, leb-true k (length cs) e, read_size cs h); cell = refl } refl
  from_count cs false h e = record { cs = cs; reads = h; above = omega (arith, leb-false k (length cs) e, read_size cs h) }

  from_four : (c : Cells) → FourReads k four c → ToldDue four count k (reported k c)
  from_four (done cs) h = from_count cs (leb k (length cs)) h refl
  from_four (bad r) h = inr h

  told_is_due : ToldDue four count k (characteristic_by k read)
  told_is_due =
      ⊎_elim
      (λ (low : 1 ≤ k).
      ⊎_elim
      (λ (high : k ≤ 49). subst (ToldDue four count k) (sym (number_inside k read low high)) (from_four read record { low = low; high = high; reads_as = (is read).0 refl }))
      (λ (h : 49 < k). none (λ low high. omega arith))
      (le_or_lt k 49))
      (λ (h : k < 1). none (λ low high. omega arith))
      (le_or_lt 1 k)
    where
      none : (1 ≤ k → k ≤ 49 → ⊥) → ToldDue four count k (characteristic_by k read)
      none n = subst (ToldDue four count k) (sym (number_none k read n)) (inl record { none = λ r. n r.0 r.1; twelve = refl })

  pub told_first_due : (c : Characteristic) → characteristic_by k read ≡ c ↔ ToldDue four count k c
  told_first_due c = (λ e. subst (ToldDue four count k) e told_is_due, told_given c)

module _ (ρ : Rules) (s : List ℕ) (at k : ℕ) where
  four_room : (room : ℕ) → 49 ≤ room → read_at ρ s at 4 room ≡ read_at ρ s at 4 49
  unfolding read_at
  four_room room h = same_room ρ (counts_at ρ s at) (part_at ρ s at 4) (found_at ρ s at 4) room 49 h (omega arith)

  four_cells : (cs : List ℤ) → read_at ρ s at 4 49 ≡ done cs → length cs ≡ count_of (counts_at ρ s at) 4
  four_cells cs e =
      let d = (first_due ρ s at 4 49 (done cs)).0 e in
      four_size ρ d.placed.placing.ns d.x 49 cs d.reading ∙ ap (λ l. count_of l 4) (sym (counts_are ρ s at d.next d.placed.placing))

  pub characteristic_first_due : (c : Characteristic) → characteristic_at ρ s at k ≡ c ↔ CharacteristicDue ρ s at k c
  unfolding characteristic_at
  characteristic_first_due =
      told_first_due (Due ρ s at 4) (count_of (counts_at ρ s at) 4) (read_at ρ s at 4 49) (four_is (Due ρ s at 4) (read_at ρ s at 4) (first_due ρ s at 4) four_room) four_cells k

-- 49 cells always have room for group 4
pub four_has_room : (ρ : Rules) (ns x : List ℕ) → TableShort ρ ns 4 x 49 → ⊥
four_has_room ρ ns x d =
    let h : Some d.f ≡ Some F8 = sym d.ruled.form ∙ form_four in
    let u : d.f ≡ F8 = cc in
    omega (arith, d.few, ap (λ y. cells_of ρ y (count_of ns 4)) u, room_four ρ ns (kept_ruling ns d.ruled.kept))
