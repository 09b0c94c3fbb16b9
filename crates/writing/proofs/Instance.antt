-- R381, record S: what is written for its counts and cells is its 305 bytes, by computation; so it is canonical, and reads back.
-- Assumes nothing.
use Rattle.std.specs.Prelude.{Ok}
use mathlib.Core.Path.{◌≡◌, refl, subst}
use mathlib.Core.List.{List, [], ◌∷◌, ◌++◌, map}
use Prim.Native.Nat.{ℕ}
use Prim.Native.String.{String}
use lib.IntN.{ℤ, pos, neg_ℤ}
use lib.ListN.{length, replicate}
use Rattle.rules.specs.declared.Rules.{Rules}
use Rattle.base.specs.Every
use Rattle.base.specs.Pieces
use Rattle.base.specs.Quoted.{bytes}
use Rattle.base.specs.Sum
use Rattle.form.specs.Table
use Rattle.form.specs.Count
use Rattle.field.specs.Write
use Rattle.count.specs.Tally
use Rattle.count.specs.Rules
use Rattle.count.specs.Check
use Rattle.date.specs.Digits
use Rattle.date.specs.Calendar
use Rattle.date.specs.Date
use Rattle.reading.specs.Plan
use Rattle.writing.specs.Canonical.{CanonicalRecord}
use Rattle.writing.specs.Fitting.{first_misfit, elements_fit, fit_of}
use Rattle.writing.specs.RoundTrip.{ReadsBack}
use Rattle.writing.specs.Text.{line_end, entries_text, index_text, fields_text, line_text, many_text, lines_text, group_text, groups_text, record_text, bytes_in, record_bytes}
use Rattle.writing.specs.Writing.{writing_of}
use Rattle.writing.proofs.ReadsBack.{done_canonical, reads_back}

-- R380: its counts, and the release
abbrev pub counts : List ℕ
counts = 4 ∷ 0 ∷ 19 ∷ 1 ∷ (replicate 75 0 ++ (5 ∷ []))

-- R381: the cells of its groups 1, 3 and 4
abbrev pub cells : List ℤ
cells =
    pos 1200 ∷ pos 67000 ∷ neg_ℤ (pos 23500) ∷ pos 143000 ∷ (map pos (bytes "AA20062650922142530") ++ (pos 7250 ∷ []))

abbrev line : String → List ℕ
line s = bytes s ++ line_end

abbrev pub text : List ℕ
text =
    line "  4  0 19  1  0  0  0  0  0  0  0  0  0  0  0  0  0  0  0  0  0  0  0  0  0  0  0  0  0  0  0  0  0  0  0  0  0  0  0  0"
    ++ (line "  0  0  0  0  0  0  0  0  0  0  0  0  0  0  0  0  0  0  0  0  0  0  0  0  0  0  0  0  0  0  0  0  0  0  0  0  0  0  0  5"
    ++ (line "  1.200 67.000-23.500143.000"
    ++ (line "AA20062650922142530"
    ++ line "   7.250")))

pub written : (ρ : Rules) → record_text ρ counts cells ≡ text
unfolding record_text index_text entries_text groups_text group_text lines_text many_text line_text fields_text Pieces.emit Every.up_from Tally.cells_in Table.form_of
    Table.form_among Table.row_of Table.listed_as Count.elements_of Count.is_segments Count.segment_elements Count.lines_of Count.rounded_up Count.cells_of Plan.plan_of Plan.plan_from Write.field_text
written ρ = refl

-- R381: how long it is
pub size : length text ≡ 305
size = refl

-- writing gives 0 with 305 bytes
pub done : (ρ : Rules) → writing_of ρ counts cells 305 ≡ Ok 305
unfolding writing_of record_bytes bytes_in fit_of elements_fit first_misfit Check.checked_of Check.accepted_of Check.well_formed Rules.release_of Rules.filled_among Rules.ruling_of
    Rules.lowest Rules.head_rules Rules.sets Rules.keeps Rules.letter_rules Every.up_from Sum.sum Tally.cells_in Tally.cell_tally Tally.cells_before Table.form_of
    Table.form_among Table.row_of Table.listed_as Count.elements_of Count.is_segments Count.segment_elements Count.lines_of Count.rounded_up Count.cells_of Write.fits_of Date.dated_of Date.first_blamed
    Digits.field_digits Calendar.name_day Calendar.days_to Calendar.month_length Calendar.is_leap
done ρ = refl

pub is_canonical : (ρ : Rules) → CanonicalRecord ρ counts text cells
is_canonical ρ = subst (λ x. CanonicalRecord ρ counts x cells) (written ρ) (done_canonical ρ counts cells 305 305 (done ρ))

pub back : (ρ : Rules) (a b : List ℕ) → ReadsBack ρ counts cells 305 (a ++ (text ++ b)) (length a)
back ρ a b = subst (λ x. ReadsBack ρ counts cells 305 (a ++ (x ++ b)) (length a)) (written ρ) (reads_back ρ counts cells 305 305 (done ρ) a b)
