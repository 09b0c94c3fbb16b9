-- R256, R257 have instances: S (R380) that comes in pieces, by computation. Where 1, 2 or 3 was given, 0 may be given once more bytes are there; S
-- twice that is cut in its second record has its first record as it will have it, and its walk goes on from where it stopped.
-- Assumes nothing.
use mathlib.Core.Path.{◌≡◌, refl, sym, ◌∙◌, ap}
use mathlib.Core.List.{List, ◌++◌}
use mathlib.Core.Logic.{inl}
use Prim.Native.Nat.{ℕ, zero, suc, ◌<◌}
use native.Mathlib.Omega.{arith}
use lib.ListN.{take, drop, take-append-drop}
use Rattle.rules.specs.declared.Rules.{Rules}
use Rattle.base.specs.Every
use Rattle.base.specs.Sum
use Rattle.form.specs.Count
use Rattle.form.specs.Table
use Rattle.field.specs.Entry
use Rattle.line.specs.Alike
use Rattle.line.specs.Contents
use Rattle.line.specs.Lines
use Rattle.count.specs.Rules
use Rattle.count.specs.Tally
use Rattle.reply.specs.declared.Refusal.TheVariants.{End, Beyond, TooFewLines}
use Rattle.place.specs.declared.Placing.TheVariants.{Placed, Refused}
use Rattle.place.specs.Growth.{number_at}
use Rattle.place.specs.Index.{read_entries, read_index_line, read_index}
use Rattle.place.specs.Numbered.{placing_reply}
use Rattle.place.specs.Parts.{start, group_part}
use Rattle.place.specs.Placing.{located, refused, locate, placing_of}
use Rattle.place.specs.RecordS.{quoted_line, record_s, counts_s, twice_s}
use Rattle.place.specs.Walk.{spot, IsRecord, Stops}
use Rattle.place.proofs.Growth.{growth_keeps}
use Rattle.place.proofs.Walked.{spot_start, spot_more}

-- ---- 1, 2 and 3 may become 0

pub record ComesWhole (ρ : Rules) : Type 0 where
  -- 3: S without the last five bytes of its last line, and with them
  pub few : placing_of ρ (take 300 record_s) 0 ≡ Refused TooFewLines
  pub few_then : placing_of ρ (take 300 record_s ++ drop 300 record_s) 0 ≡ Placed 305
  -- 1: where S ends, and where S stands once more
  pub end : placing_of ρ record_s 305 ≡ Refused End
  pub end_then : placing_of ρ (record_s ++ record_s) 305 ≡ Placed 610
  -- 2: the same place, asked about too soon
  pub beyond : placing_of ρ (take 300 record_s) 305 ≡ Refused Beyond
  pub beyond_then : placing_of ρ (take 300 record_s ++ (drop 300 record_s ++ record_s)) 305 ≡ Placed 610

pub comes_whole : (ρ : Rules) → ComesWhole ρ
unfolding record_s counts_s Alike.ended_by locate placing_of read_index read_index_line read_entries Entry.entry_of Lines.feeds Lines.reach Contents.content_of Tally.lines_in
    Tally.line_tally Tally.lines_before Sum.sum Every.up_from Table.row_of Table.listed_as Table.form_among Table.form_of Count.lines_of Count.rounded_up Count.elements_of
    Count.is_segments Count.segment_elements Rules.release_of Rules.filled_among Rules.ruling_of Rules.lowest Rules.head_rules Rules.sets Rules.keeps Rules.letter_rules
comes_whole ρ = record {
  few = refl;
  few_then = refl;
  end = refl;
  end_then = refl;
  beyond = refl;
  beyond_then = refl;
}

-- ---- S twice, cut in its second record

unfoldable pub cut_s : List ℕ
cut_s = take 500 twice_s

unfoldable pub rest_s : List ℕ
rest_s = drop 500 twice_s

pub cut_whole : cut_s ++ rest_s ≡ twice_s
unfolding cut_s rest_s
cut_whole = take-append-drop 500 twice_s

pub record CutTwice (ρ : Rules) : Type 0 where
  pub first : locate ρ cut_s 0 ≡ located 305 counts_s
  pub answer : placing_of ρ cut_s 0 ≡ Placed 305
  pub second : locate ρ cut_s 305 ≡ refused TooFewLines
  pub four : group_part ρ cut_s 0 counts_s 4 ≡ quoted_line "   7.250"

pub cut_twice : (ρ : Rules) → CutTwice ρ
unfolding cut_s twice_s record_s counts_s Alike.ended_by locate placing_of start group_part read_index read_index_line read_entries Entry.entry_of Lines.feeds Lines.reach Contents.content_of Tally.lines_in
    Tally.line_tally Tally.lines_before Sum.sum Every.up_from Table.row_of Table.listed_as Table.form_among Table.form_of Count.lines_of Count.rounded_up Count.elements_of
    Count.is_segments Count.segment_elements Rules.release_of Rules.filled_among Rules.ruling_of Rules.lowest Rules.head_rules Rules.sets Rules.keeps Rules.letter_rules
cut_twice ρ = record { first = refl; answer = refl; second = refl; four = refl }

cut_one : (ρ : Rules) → spot ρ cut_s 1 ≡ 305
cut_one ρ = spot_more ρ cut_s 0 305 counts_s (rw (← spot_start ρ cut_s) (cut_twice ρ).first)

-- its walk is one record, and stops with 3
pub cut_stops : (ρ : Rules) → Stops ρ cut_s 1 TooFewLines
cut_stops ρ = record { each = each; last = rw (cut_one ρ) (cut_twice ρ).second }
  where
    each : (k : ℕ) → k < 1 → IsRecord ρ cut_s (spot ρ cut_s k)
    each zero h = record { next = 305; ns = counts_s; is = rw (← spot_start ρ cut_s) (cut_twice ρ).first }
    each (suc k) h = absurd (omega arith)

-- ---- what growth says of it

module _ (ρ : Rules) where
  pub cut_settled : number_at ρ cut_s 0 ≡ 0
  cut_settled = ap (λ p. (placing_reply p).number) (cut_twice ρ).answer

  -- the first record is placed as before
  pub first_stays : placing_of ρ twice_s 0 ≡ Placed 305
  first_stays =
      ap (λ s. placing_of ρ s 0) (sym cut_whole)
      ∙ ((growth_keeps ρ cut_s rest_s).placing 0 (inl cut_settled)).answer
      ∙ (cut_twice ρ).answer

  -- and the walk of S twice stands, after its first step, where that of the cut text stopped
  pub step_stays : (spot ρ twice_s 1 ≡ spot ρ cut_s 1) × (spot ρ cut_s 1 ≡ 305)
  step_stays =
      (ap (λ s. spot ρ s 1) (sym cut_whole) ∙ ((growth_keeps ρ cut_s rest_s).walk 1 TooFewLines (cut_stops ρ)).places 1 (omega arith), cut_one ρ)
