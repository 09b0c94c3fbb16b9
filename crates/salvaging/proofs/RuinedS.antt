-- S twice with a letter in the first one's index, by computation: nothing inside the ruined record can be gone on from, the second record can. So
-- the first alone is lost, as *damage confined* has it.
-- Assumes nothing.
use mathlib.Core.Path.{◌≡◌, refl, sym, ◌∙◌, ap, subst}
use mathlib.Core.Bool.{true, not}
use mathlib.Core.List.{List, [], ◌∷◌, flat_map, append-nil}
use mathlib.Core.Logic.{inl, inr}
use Prim.Native.Nat.{ℕ, ◌+◌}
use native.Mathlib.Omega.{arith}
use lib.Dec.{T}
use lib.ListN.{length, drop, set, length-set}
use lib.Seq.{get_or-set_other}
use Rattle.rules.specs.declared.Rules.{Rules}
use Rattle.base.specs.Every
use Rattle.base.specs.Every.{every, up_from}
use Rattle.base.specs.Part.{part}
use Rattle.base.specs.Pieces as Gathered
use Rattle.base.specs.Sum
use Rattle.base.proofs.Every.{every_between}
use Rattle.form.specs.Count
use Rattle.form.specs.Table
use Rattle.field.specs.Entry
use Rattle.field.specs.Read as Field
use Rattle.line.specs.Alike
use Rattle.line.specs.Contents
use Rattle.line.specs.Lines
use Rattle.line.specs.Lines.{reach}
use Rattle.line.specs.Parts as LineParts
use Rattle.count.specs.Rules
use Rattle.count.specs.Tally
use Rattle.date.specs.Calendar
use Rattle.date.specs.Date
use Rattle.date.specs.Digits
use Rattle.place.specs.Index
use Rattle.place.specs.Parts
use Rattle.place.specs.Placing
use Rattle.place.specs.Placing.{located, refused, locate}
use Rattle.place.specs.RecordS
use Rattle.place.specs.RecordS.{record_s, counts_s, twice_s}
use Rattle.place.specs.Walk.{spot}
use Rattle.place.proofs.Stopped.{placed_record}
use Rattle.place.proofs.Tiling.{start_one}
use Rattle.place.proofs.TwiceS.{twice, spot_one, two_records}
use Rattle.place.proofs.Walked.{spot_start}
use Rattle.reading.specs.Blanks
use Rattle.reading.specs.Plan
use Rattle.reading.specs.Read
use Rattle.group.specs.Held
use Rattle.group.specs.Text
use Rattle.reply.specs.declared.Refusal.TheVariants.{Misformed}
use Rattle.salvaging.specs.declared.Piece.TheVariants.{Copied, LeftOut}
use Rattle.salvaging.specs.Confined.{Ruined, IndexRuined, RecordLost}
use Rattle.salvaging.specs.Pieces.{pieces, copy_of, copy}
use Rattle.salvaging.specs.Stretch.{is_sound, resumes, stretch_end}
use Rattle.salvaging.proofs.Confined.{damage_confined}
use Rattle.salvaging.proofs.Pieces.{pieces_end, pieces_copied, pieces_left, number_of}
use Rattle.salvaging.proofs.Stretches.{resumes_exactly, stretch_is}

-- the second entry is `  x`
unfoldable pub ruined_s : List ℕ
ruined_s = set twice_s 5 120

record Computed (ρ : Rules) : Type 0 where
  long : length ruined_s ≡ 610
  halts : locate ρ ruined_s 0 ≡ refused Misformed
  inside : T (every (λ p. not (resumes ρ ruined_s p)) (up_from 1 304))
  resumed : resumes ρ ruined_s 305 ≡ true
  second : locate ρ ruined_s 305 ≡ located 610 counts_s
  whole : part 305 610 ruined_s ≡ record_s

computed : (ρ : Rules) → Computed ρ
unfolding ruined_s RecordS.record_s RecordS.twice_s RecordS.counts_s Alike.ended_by Placing.locate Placing.placing_of Placing.counts_at Index.read_index Index.read_index_line Index.read_entries Entry.entry_of
    Parts.start Parts.group_part Lines.feeds Lines.reach Contents.content_of LineParts.begins_line Tally.lines_in Tally.line_tally Tally.lines_before Tally.cells_in Sum.sum Every.up_from Table.row_of
    Table.listed_as Table.form_among Table.form_of Count.lines_of Count.cells_of Count.rounded_up Count.elements_of Count.is_segments Count.segment_elements Rules.release_of Rules.filled_among
    Rules.ruling_of Rules.lowest Rules.head_rules Rules.sets Rules.keeps Rules.letter_rules Held.found_at Held.part_start Held.part_end Held.part_at Text.read_at Read.read_group Read.read_form
    Read.read_lines Read.read_lines_of Read.read_line Read.read_fields Gathered.gather Plan.plan_of Plan.plan_from Blanks.is_right Blanks.filled_to Field.field_of Date.dated_of Date.first_blamed
    Digits.field_digits Calendar.is_leap Calendar.month_length Calendar.days_to Calendar.name_day is_sound resumes
computed ρ = record { long = refl; halts = refl; inside = tt; resumed = refl; second = refl; whole = refl }

module _ (ρ : Rules) where
  ruined : Ruined ρ ruined_s 0 305
  ruined = record {
    some = omega arith;
    halts = inr (inl (number_of ρ ruined_s 0 Misformed (computed ρ).halts));
    none = λ p low high r. never p (every_between (λ q. not (resumes ρ ruined_s q)) 1 304 (computed ρ).inside p low (omega arith)) ((resumes_exactly ρ ruined_s p).1 r);
    behind = inl ((resumes_exactly ρ ruined_s 305).0 (computed ρ).resumed);
  }
    where
      never : (p : ℕ) → T (not (resumes ρ ruined_s p)) → resumes ρ ruined_s p ≡ true → ⊥
      never p n e = subst (λ b. T (not b)) e n

  -- the index lines of the first record are those 244 bytes
  index_end : spot ρ twice_s 0 + reach (drop (spot ρ twice_s 0) twice_s) 2 ≡ 244
  index_end = rw (← spot_start ρ twice_s) (sym (start_one ρ twice_s 0 counts_s) ∙ (twice ρ).one_from)

  pub index_ruined : IndexRuined ρ twice_s ruined_s 0
  unfolding ruined_s
  index_ruined = record {
    placed = (placed_record ρ twice_s (spot ρ twice_s 0)).1 ((two_records ρ).each 0 (omega arith));
    elsewhere = record {
      long = sym (length-set twice_s 5 120);
      same = λ i out. sym (get_or-set_other twice_s 5 i 120 0 (λ e. out (omega (arith, spot_start ρ twice_s), omega (arith, index_end))));
    };
    ruined = rw (← spot_start ρ twice_s, spot_one ρ) ruined;
  }

  pub first_lost : RecordLost ρ twice_s ruined_s 0
  first_lost = (damage_confined ρ).index twice_s ruined_s 0 index_ruined

  pub ruined_pieces : pieces ρ ruined_s ≡ LeftOut 0 305 ∷ Copied 305 305 ∷ []
  ruined_pieces =
      let c = computed ρ in
      let long = c.long in
      let r = ruined in
      let e : 305 ≡ stretch_end ρ ruined_s 0 = stretch_is ρ ruined_s 0 305 record { later = omega arith; within = omega arith; passed = r.none; ends = r.behind } in
      pieces_left ρ ruined_s 0 Misformed (omega arith) c.halts
      ∙ rw (← e) (ap (λ ps. LeftOut 0 305 ∷ ps) (pieces_copied ρ ruined_s 305 610 counts_s c.second ∙ ap (λ ps. Copied 305 305 ∷ ps) (pieces_end ρ ruined_s 610 (omega arith))))

  -- what is left of S twice is S
  pub ruined_copy : copy ρ ruined_s ≡ record_s
  unfolding copy flat_map
  ruined_copy = ap (flat_map (copy_of ruined_s)) ruined_pieces ∙ append-nil (part 305 610 ruined_s) ∙ (computed ρ).whole
