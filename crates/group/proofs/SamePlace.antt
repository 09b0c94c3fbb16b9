-- Two texts at a place of which the same is located. A group's lines can be given in both or in neither; where they begin at the same places, so
-- does the part; and where they have the same bytes, the group reads the same, and so does a characteristic, if the group is 4.
-- By *reading is local* (`read_local`).
-- Assumes nothing.
use Rattle.std.specs.Prelude.{Option, Some, None, Result, Ok, Err}
use mathlib.Core.Path.{◌≡◌, refl, sym, ◌∙◌, ap}
use mathlib.Core.Bool.{cond, ◌&&◌}
use mathlib.Core.List.{List}
use Prim.Native.Nat.{ℕ, suc}
use lib.Dec.{leb}
use lib.IntN.{ℤ}
use Rattle.rules.specs.declared.Rules.{Rules}
use Rattle.base.specs.Part.{part}
use Rattle.form.specs.Table.{form_of}
use Rattle.place.specs.Parts.{group_part}
use Rattle.place.specs.Placing
use Rattle.place.specs.Placing.{Located, located, refused, locate}
use Rattle.place.proofs.Local.{placing_same}
use Rattle.reading.specs.Read.{Cells, reading_of, table_by}
use Rattle.reply.specs.declared.Refusal.{Refusal}
use Rattle.reply.specs.declared.Refusal.TheVariants.{NoSuchNumber}
use Rattle.group.specs.declared.Characteristic.TheVariants.{Refused}
use Rattle.group.specs.Answers.{SameReading}
use Rattle.group.specs.Characteristics.{reported, characteristic_at}
use Rattle.group.specs.Held.{lines_start, found_in, found_at, start_by, part_start, part_end, part_at}
use Rattle.group.specs.Text.{read_found, read_at}
use Rattle.group.proofs.Promises.{read_local}
use Rattle.form.specs.declared.Form.{Form}

-- the same cells, or the same refusal
pub same_reading : (a b : Cells) (table : List ℤ) → a ≡ b → SameReading a b table
same_reading a b table e = record { reply = ap reading_of e; cells = ap (λ c. table_by c table) e }

-- ---- at places of both

module _ (ρ : Rules) (s t : List ℕ) (at bt : ℕ) where
  -- where no record stands, no line is looked at
  pub read_refused : {r : Refusal} (g room : ℕ) → locate ρ s at ≡ refused r → locate ρ t bt ≡ refused r → read_at ρ s at g room ≡ read_at ρ t bt g room
  unfolding read_at found_at Placing.placing_of
  read_refused g room a b = by (form_of g)
    where
      by : (h : Option Form) → read_found ρ s at g room (found_in ρ s at h) ≡ read_found ρ t bt g room (found_in ρ t bt h)
      by (Some f) = rw (a, b)
      by None = refl

  pub characteristic_same : (k : ℕ) → read_at ρ s at 4 49 ≡ read_at ρ t bt 4 49 → characteristic_at ρ s at k ≡ characteristic_at ρ t bt k
  unfolding characteristic_at
  characteristic_same k e = ap (λ c. cond (leb 1 k && leb k 49) (reported k c) (Refused NoSuchNumber)) e

-- ---- at one place

module _ (ρ : Rules) (s t : List ℕ) (at : ℕ) (e : locate ρ s at ≡ locate ρ t at) (g : ℕ) where
  pub found_same : found_at ρ s at g ≡ found_at ρ t at g
  unfolding found_at
  found_same = by (form_of g)
    where
      by : (h : Option Form) → found_in ρ s at h ≡ found_in ρ t at h
      by (Some f) = rw (placing_same ρ s t at e).0
      by None = refl

  -- the lines begin at the same places
  module _ (starts : (h : ℕ) → lines_start ρ s at h ≡ lines_start ρ t at h) where
    start_by_lem : (h : ℕ) (f : Result (Unit {0}) Refusal) → start_by ρ s at h f ≡ start_by ρ t at h f
    start_by_lem h (Ok done) = starts h
    start_by_lem h (Err r) = refl

    pub part_start_same : part_start ρ s at g ≡ part_start ρ t at g
    unfolding part_start
    part_start_same = start_by_lem g (found_at ρ s at g) ∙ ap (start_by ρ t at g) found_same

    pub part_end_same : part_end ρ s at g ≡ part_end ρ t at g
    unfolding part_end
    part_end_same = start_by_lem (suc g) (found_at ρ s at g) ∙ ap (start_by ρ t at (suc g)) found_same

    -- the second text's part, by the places of the first
    pub part_there : part (part_start ρ s at g) (part_end ρ s at g) t ≡ part_at ρ t at g
    unfolding part_at
    part_there = rw (part_start_same, part_end_same)

  -- the lines are the same
  pub read_same : ((n : ℕ) (ns : List ℕ) → locate ρ s at ≡ located n ns → group_part ρ s at ns g ≡ group_part ρ t at ns g) → (room : ℕ) → read_at ρ s at g room ≡ read_at ρ t at g room
  read_same lines room = by (locate ρ s at) refl
    where
      by : (x : Located) → locate ρ s at ≡ x → read_at ρ s at g room ≡ read_at ρ t at g room
      by (located n ns) u = read_local ρ record { next = n; ns = ns; is = u } record { next = n; ns = ns; is = sym e ∙ u } g room refl (lines n ns u)
      by (refused p) u = read_refused ρ s t at at g room u (sym e ∙ u)
