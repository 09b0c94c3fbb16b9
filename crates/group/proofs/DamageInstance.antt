-- D3, the third demand, has an instance: S twice (R382), with a comma in place of the point in the first record's group 4. That group is
-- refused, 9 at line 1, element 1; two records are placed as before, and all other groups, those of the second record among them, are read
-- as before.
-- Assumes nothing.
use mathlib.Core.Path.{◌≡◌, refl, sym, ◌∙◌, ap}
use mathlib.Core.List.{List, [], ◌∷◌}
use Prim.Native.Nat.{ℕ, suc, ◌<◌, ◌≤◌}
use native.Mathlib.Omega.{arith}
use lib.IntN.{ℤ, pos}
use lib.ListN.{length, set, replicate}
use Rattle.rules.specs.declared.Rules.{Rules}
use Rattle.base.specs.Every
use Rattle.base.specs.Part.{part}
use Rattle.base.specs.Pieces.{done, bad}
use Rattle.form.specs.declared.Form.TheVariants.{F8}
use Rattle.form.specs.Table
use Rattle.line.specs.Alike
use Rattle.line.specs.Lines.{is_feed}
use Rattle.count.specs.Rules
use Rattle.place.specs.Parts.{start, group_part}
use Rattle.place.specs.Placing.{located, locate, counts_at}
use Rattle.place.specs.RecordS
use Rattle.place.specs.RecordS.{quoted_line, counts_s, twice_s}
use Rattle.place.specs.Walk.{PlacedAt, spot, Stops}
use Rattle.place.proofs.TwiceS.{twice, spot_one, two_records}
use Rattle.place.proofs.Walked.{spot_start}
use Rattle.reply.specs.declared.Refusal.TheVariants.{End, BadField}
use Rattle.reading.specs.Read
use Rattle.reading.specs.Read.{Cells, read_form, read_group, reading_of, table_by}
use Rattle.reading.proofs.FourS.{four_reads}
use Rattle.group.specs.declared.Characteristic.TheVariants.{Value, Refused}
use Rattle.characteristic.specs.NoReading
use Rattle.group.specs.Answers.{SameReading}
use Rattle.group.specs.Characteristics.{reported, characteristic_at}
use Rattle.group.specs.Damage.{OneGroup, InLines, Damaged, Confined}
use Rattle.group.specs.Held.{lines_start}
use Rattle.group.specs.Text.{read_at}
use Rattle.place.proofs.Placed.{counts_at_lem}
use Rattle.group.proofs.Texts.{read_located}
use Rattle.place.proofs.Stopped.{placed_record}
use Rattle.group.proofs.Damage.{damage_stays, damaged_none, damaged_more}
use Rattle.group.proofs.Reported.{four_refused}

-- S twice with a comma in place of the point in the first record's group 4: `   7,250`
unfoldable pub comma_s : List ℕ
comma_s = set twice_s 299 44

comma_line : part 295 305 comma_s ≡ quoted_line "   7,250"
unfolding comma_s RecordS.record_s RecordS.twice_s Alike.ended_by
comma_line = refl

-- ---- group 4 of a record with S's counts, into a table with room

pub four_by : (ρ : Rules) (x : List ℕ) (room : ℕ) → read_group ρ counts_s 4 x room ≡ read_form ρ F8 4 1 x room
unfolding RecordS.counts_s Read.read_group Every.up_from Table.listed_as Table.form_among Table.form_of Rules.ruling_of Rules.lowest Rules.head_rules Rules.sets Rules.keeps Rules.letter_rules
four_by ρ x room = refl

module _ (ρ : Rules) (room : ℕ) (h : 1 ≤ room) where
  pub four_before : (s : List ℕ) (at next : ℕ) → locate ρ s at ≡ located next counts_s → group_part ρ s at counts_s 4 ≡ quoted_line "   7.250" → read_at ρ s at 4 room ≡ done (pos 7250 ∷ [])
  four_before s at next e f =
      read_located ρ s at 4 room next counts_s e
      ∙ ap (λ x. read_group ρ counts_s 4 x room) f
      ∙ four_by ρ (quoted_line "   7.250") room
      ∙ (four_reads ρ room h).right

  read_first : read_at ρ twice_s 0 4 room ≡ done (pos 7250 ∷ [])
  read_first = four_before twice_s 0 305 (twice ρ).first (twice ρ).first_four

  read_second : read_at ρ twice_s 305 4 room ≡ done (pos 7250 ∷ [])
  read_second = four_before twice_s 305 610 (twice ρ).second (twice ρ).second_four

-- ---- where the lines of a group of S twice are

module _ (ρ : Rules) where
  -- those of group g of record k, from 0, stand from one place up to another
  pub record Stand (k g from to : ℕ) : Type 0 where
    pub placed : PlacedAt ρ twice_s (spot ρ twice_s k)
    pub counts : counts_at ρ twice_s (spot ρ twice_s k) ≡ counts_s
    pub begins : lines_start ρ twice_s (spot ρ twice_s k) g ≡ from
    pub ends : lines_start ρ twice_s (spot ρ twice_s k) (suc g) ≡ to

  pub stand_at : {at next from to : ℕ} (k g : ℕ) → at ≡ spot ρ twice_s k → locate ρ twice_s at ≡ located next counts_s → start ρ twice_s at counts_s g ≡ from → start ρ twice_s at counts_s (suc g) ≡ to
      → Stand k g from to
  stand_at {at = at} {next = next} k g here e f h =
      let c : counts_at ρ twice_s (spot ρ twice_s k) ≡ counts_s = rw (← here) (counts_at_lem ρ twice_s at next counts_s e) in
      record {
        placed = (placed_record ρ twice_s (spot ρ twice_s k)).1 record { next = next; ns = counts_s; is = rw (← here) e };
        counts = c;
        begins = rw (c, ← here) f;
        ends = rw (c, ← here) h;
      }

  pub stand_within : {among : ℕ → ℕ → Type 0} {k g from to : ℕ} → Stand k g from to → (1 ≤ g) × (g ≤ 60) → among k g → (i : ℕ) → from ≤ i → i < to → InLines ρ twice_s among i
  stand_within {k = k} {g = g} w group chosen i low high =
      record {
        k = k;
        g = g;
        chosen = chosen;
        placed = w.placed;
        low = group.0;
        high = group.1;
        lies = (omega (arith, w.begins), omega (arith, w.ends));
      }

  pub first_four : Stand 0 4 295 305
  first_four = stand_at 0 4 (spot_start ρ twice_s) (twice ρ).first (twice ρ).from (twice ρ).to

-- ---- the damage, and that it is confined

pub comma_damages : (ρ : Rules) → Damaged ρ twice_s comma_s (OneGroup 0 4)
unfolding comma_s
comma_damages ρ =
    damaged_more ρ twice_s (OneGroup 0 4) 299 44
    (damaged_none ρ twice_s (OneGroup 0 4))
    (stand_within ρ (first_four ρ) (omega arith, omega arith) (refl, refl) 299 (omega arith) (omega arith))
    (omega (arith, (twice ρ).long))
    (ap is_feed (twice ρ).point)

pub comma_confined : (ρ : Rules) → Confined ρ twice_s comma_s (OneGroup 0 4)
comma_confined ρ = damage_stays ρ twice_s comma_s (OneGroup 0 4) (comma_damages ρ)

-- ---- what that says here

-- D3.3: still two records
pub two_still : (ρ : Rules) → Stops ρ comma_s 2 End
two_still ρ = ((comma_confined ρ).as_many 2 End).0 (two_records ρ)

comma_second : (ρ : Rules) → 305 ≡ spot ρ comma_s 1
comma_second ρ = sym ((comma_confined ρ).places 1 ∙ spot_one ρ)

-- what a group gives, by places and cells that are known
pub given : (ρ : Rules) (s : List ℕ) (g : ℕ) (table : List ℤ) {p q : ℕ} {c d : Cells} → p ≡ q → SameReading (read_at ρ s q g (length table)) c table → c ≡ d
    → SameReading (read_at ρ s p g (length table)) d table
given ρ s g table e o f =
    record {
      reply = ap (λ p. reading_of (read_at ρ s p g (length table))) e ∙ o.reply ∙ ap reading_of f;
      cells = ap (λ p. table_by (read_at ρ s p g (length table)) table) e ∙ o.cells ∙ ap (λ c. table_by c table) f;
    }

module _ (ρ : Rules) (table : List ℤ) (room : 1 ≤ length table) where
  -- the first record's group 4 gave its cell, and so did the second's
  pub before_both : (read_at ρ twice_s 0 4 (length table) ≡ done (pos 7250 ∷ [])) × (read_at ρ twice_s 305 4 (length table) ≡ done (pos 7250 ∷ []))
  before_both = (read_first ρ (length table) room, read_second ρ (length table) room)

  -- the first record's is refused now, 9 at line 1, element 1
  pub first_refused : SameReading (read_at ρ comma_s 0 4 (length table)) (bad (BadField 1 1)) table
  first_refused = given ρ comma_s 4 table (spot_start ρ comma_s) ((comma_confined ρ).altered 0 4 (first_four ρ).placed table) lines
    where
      lines : read_group ρ (counts_at ρ twice_s (spot ρ twice_s 0)) 4 (part (lines_start ρ twice_s (spot ρ twice_s 0) 4) (lines_start ρ twice_s (spot ρ twice_s 0) 5) comma_s) (length table) ≡ bad (BadField 1 1)
      lines =
          rw ((first_four ρ).begins, (first_four ρ).ends, (first_four ρ).counts, comma_line)
          (four_by ρ (quoted_line "   7,250") (length table) ∙ (four_reads ρ (length table) room).comma)

  -- the second record's gives its cell still
  pub second_still : SameReading (read_at ρ comma_s 305 4 (length table)) (done (pos 7250 ∷ [])) table
  second_still =
      given ρ comma_s 4 table (comma_second ρ) ((comma_confined ρ).others 1 4 (λ (p : OneGroup 0 4 1 4). omega (arith, p.0)) table)
      (ap (λ p. read_at ρ twice_s p 4 (length table)) (spot_one ρ) ∙ read_second ρ (length table) room)

-- so the first record's first characteristic is refused, and the second's is what it was, 7.250
pub first_characteristic : (ρ : Rules) → characteristic_at ρ comma_s 0 1 ≡ Refused (BadField 1 1)
unfolding characteristic_at
first_characteristic ρ =
    let table = replicate 49 (pos 0) in
    four_refused 1 (read_at ρ comma_s 0 4 49) (omega arith) (omega arith) (first_refused ρ table (omega arith)).reply

pub second_characteristic : (ρ : Rules) → characteristic_at ρ comma_s 305 1 ≡ Value (pos 7250)
unfolding characteristic_at NoReading.is_no_reading
second_characteristic ρ =
    ap (λ p. characteristic_at ρ comma_s p 1) (comma_second ρ)
    ∙ (comma_confined ρ).characteristics 1 (λ (p : OneGroup 0 4 1 4). omega (arith, p.0)) 1
    ∙ ap (λ p. characteristic_at ρ twice_s p 1) (spot_one ρ)
    ∙ ap (reported 1) (read_second ρ 49 (omega arith))
