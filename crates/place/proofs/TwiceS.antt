-- R382: S twice, by computation: where its records are, where the lines of groups 1 and 4 are and what those of 4 hold; and its walk, which is
-- two records.
-- Assumes nothing.
use mathlib.Core.Path.{◌≡◌, refl}
use Prim.Native.Nat.{ℕ, zero, suc, ◌<◌}
use native.Mathlib.Omega.{arith}
use lib.ListN.{length, get_or}
use Rattle.rules.specs.declared.Rules.{Rules}
use Rattle.base.specs.Every
use Rattle.base.specs.Sum
use Rattle.form.specs.Count
use Rattle.form.specs.Table
use Rattle.field.specs.Entry
use Rattle.line.specs.Alike
use Rattle.line.specs.Contents
use Rattle.line.specs.Lines
use Rattle.count.specs.Rules
use Rattle.count.specs.Tally
use Rattle.reply.specs.declared.Refusal.TheVariants.{End}
use Rattle.place.specs.Index.{read_entries, read_index_line, read_index}
use Rattle.place.specs.Parts.{start, group_part}
use Rattle.place.specs.Placing.{located, refused, locate}
use Rattle.place.specs.RecordS.{quoted_line, record_s, counts_s, twice_s}
use Rattle.place.specs.Walk.{spot, IsRecord, Stops}
use Rattle.place.proofs.Walked.{spot_start, spot_more}

pub record Twice (ρ : Rules) : Type 0 where
  pub long : length twice_s ≡ 610
  -- the places of the listing: 0 to 305, 305 to 610, and the end at 610 with 1
  pub first : locate ρ twice_s 0 ≡ located 305 counts_s
  pub second : locate ρ twice_s 305 ≡ located 610 counts_s
  pub last : locate ρ twice_s 610 ≡ refused End
  -- the lines of group 4: where they are in the first record, and what they are in both
  pub from : start ρ twice_s 0 counts_s 4 ≡ 295
  pub to : start ρ twice_s 0 counts_s 5 ≡ 305
  pub first_four : group_part ρ twice_s 0 counts_s 4 ≡ quoted_line "   7.250"
  pub second_four : group_part ρ twice_s 305 counts_s 4 ≡ quoted_line "   7.250"
  -- its point
  pub point : get_or twice_s 299 0 ≡ 46
  -- where the second record has it
  pub second_from : start ρ twice_s 305 counts_s 4 ≡ 600
  pub second_to : start ρ twice_s 305 counts_s 5 ≡ 610
  -- and the first one the lines of group 1
  pub one_from : start ρ twice_s 0 counts_s 1 ≡ 244
  pub one_to : start ρ twice_s 0 counts_s 2 ≡ 274

pub twice : (ρ : Rules) → Twice ρ
unfolding record_s twice_s counts_s Alike.ended_by locate read_index read_index_line read_entries Entry.entry_of start group_part Lines.feeds Lines.reach Contents.content_of
    Tally.lines_in Tally.line_tally Tally.lines_before Sum.sum Every.up_from Table.row_of Table.listed_as Table.form_among Table.form_of Count.lines_of Count.rounded_up
    Count.elements_of Count.is_segments Count.segment_elements Rules.release_of Rules.filled_among
twice ρ = record {
  long = refl;
  first = refl;
  second = refl;
  last = refl;
  from = refl;
  to = refl;
  first_four = refl;
  second_four = refl;
  point = refl;
  second_from = refl;
  second_to = refl;
  one_from = refl;
  one_to = refl;
}

-- ---- its walk

pub spot_one : (ρ : Rules) → spot ρ twice_s 1 ≡ 305
spot_one ρ = spot_more ρ twice_s 0 305 counts_s (rw (← spot_start ρ twice_s) (twice ρ).first)

pub spot_two : (ρ : Rules) → spot ρ twice_s 2 ≡ 610
spot_two ρ = spot_more ρ twice_s 1 610 counts_s (rw (spot_one ρ) (twice ρ).second)

pub two_records : (ρ : Rules) → Stops ρ twice_s 2 End
two_records ρ = record { each = each; last = rw (spot_two ρ) (twice ρ).last }
  where
    each : (k : ℕ) → k < 2 → IsRecord ρ twice_s (spot ρ twice_s k)
    each zero h = record { next = 305; ns = counts_s; is = rw (← spot_start ρ twice_s) (twice ρ).first }
    each (suc zero) h = record { next = 610; ns = counts_s; is = rw (spot_one ρ) (twice ρ).second }
    each (suc (suc k)) h = absurd (omega arith)
