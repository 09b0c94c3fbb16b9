-- R382: the listing of two copies of record S.
-- Assumes nothing.
use Rattle.std.specs.Prelude.{None}
use mathlib.Core.Path.{◌≡◌, refl, ◌∙◌}
use mathlib.Core.List.{[], ◌∷◌, ◌++◌}
use Rattle.rules.specs.declared.Rules.{Rules}
use Rattle.base.specs.Every
use Rattle.base.specs.Quoted.{bytes}
use Rattle.base.specs.Sum
use Rattle.form.specs.Count
use Rattle.form.specs.Table
use Rattle.count.specs.Rules
use Rattle.count.specs.Rules.{ruling_of}
use Rattle.count.specs.Tally
use Rattle.count.specs.Tally.{record_lines}
use Rattle.decimal.specs.Numerals
use Rattle.decimal.specs.Rows
use Rattle.reply.specs.declared.Refusal.TheVariants.{End}
use Rattle.place.specs.Placing
use Rattle.place.specs.RecordS
use Rattle.place.specs.RecordS.{counts_s, twice_s}
use Rattle.place.proofs.TwiceS.{twice, spot_one, spot_two, two_records}
use Rattle.place.proofs.Walked.{spot_start}
use Rattle.listing.specs.Listing.{row_at, rows_from, end_at, listing_of, listing}
use Rattle.listing.specs.Rows.{filled_groups, record_row, end_row}
use Rattle.listing.proofs.Lines.{listing_is}

counted : (ρ : Rules) → (filled_groups counts_s ≡ 3) × (record_lines ρ counts_s ≡ 5) × (ruling_of counts_s ≡ None)
unfolding filled_groups RecordS.counts_s Tally.lines_in Tally.line_tally Sum.sum Every.up_from Table.row_of Table.listed_as Table.form_among Table.form_of Count.lines_of
    Count.rounded_up Count.elements_of Count.is_segments Count.segment_elements Rules.ruling_of Rules.lowest Rules.head_rules Rules.sets Rules.keeps Rules.letter_rules
counted ρ = (refl, refl, refl)

rows : (ρ : Rules) → (row_at ρ twice_s 0 ≡ bytes "1 0 305 0 0 3 5" ++ (10 ∷ [])) × (row_at ρ twice_s 1 ≡ bytes "2 305 610 0 0 3 5" ++ (10 ∷ [])) × (end_at ρ twice_s 2 ≡ bytes "end 2 610 1 0" ++ (10 ∷ []))
unfolding row_at end_at record_row end_row Rows.row_text Numerals.numeral Numerals.digits_of Numerals.digits_in Placing.placing_of Placing.counts_at
rows ρ = (
  rw (← spot_start ρ twice_s, (twice ρ).first, (counted ρ).0, (counted ρ).1, (counted ρ).2) refl,
  rw (spot_one ρ, (twice ρ).second, (counted ρ).0, (counted ρ).1, (counted ρ).2) refl,
  rw (spot_two ρ, (twice ρ).last) refl,
)

pub twice_listed : (ρ : Rules) → listing ρ twice_s ≡ (bytes "1 0 305 0 0 3 5" ++ (10 ∷ [])) ++ ((bytes "2 305 610 0 0 3 5" ++ (10 ∷ [])) ++ (bytes "end 2 610 1 0" ++ (10 ∷ [])))
unfolding listing_of rows_from
twice_listed ρ = listing_is ρ twice_s 2 End (two_records ρ) ∙ rw ((rows ρ).0, (rows ρ).1, (rows ρ).2) refl
