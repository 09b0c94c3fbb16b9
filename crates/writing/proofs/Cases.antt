-- R425: the marked cases hold, R401 to R410, all rows of the one table, by computation.
-- Assumes nothing.
use mathlib.Core.Path.{refl}
use Rattle.rules.specs.declared.Rules.{Rules}
use Rattle.base.specs.Every
use Rattle.base.specs.Pieces
use Rattle.form.specs.Table
use Rattle.form.specs.Count
use Rattle.field.specs.Read as FieldRead
use Rattle.field.specs.Write
use Rattle.field.specs.Entry
use Rattle.line.specs.Lines
use Rattle.line.specs.Contents
use Rattle.date.specs.Digits
use Rattle.date.specs.Calendar
use Rattle.date.specs.Date
use Rattle.reading.specs.Blanks
use Rattle.reading.specs.Plan
use Rattle.reading.specs.Read
use Rattle.form.proofs.Segments.{segments_one}
use Rattle.writing.specs.Cases.{AllHolding, cases}
use Rattle.writing.specs.Fitting.{first_misfit, elements_fit}
use Rattle.writing.specs.Text.{fields_text, line_text, many_text, lines_text}

infixr 4 ◌also◌
◌also◌ : {A B : Type 0} → A → B → A × B
a also b = (a, b)

pub marked : (ρ : Rules) → AllHolding ρ cases
unfolding Read.read_form Read.read_lines Read.read_lines_of Read.read_line Read.read_fields Pieces.gather Pieces.emit Plan.plan_of Plan.plan_from Every.up_from
    Table.row_of Table.listed_as Count.elements_of Count.is_segments Count.lines_of Count.rounded_up Count.cells_of Lines.reach Contents.content_of Blanks.is_right Blanks.filled_to
    FieldRead.field_of Write.fits_of Write.field_text Entry.entry_of elements_fit first_misfit lines_text many_text line_text fields_text Date.dated_of Date.first_blamed
    Digits.field_digits Calendar.name_day Calendar.days_to Calendar.month_length Calendar.is_leap
marked ρ =
    (refl, refl)
    also (λ g. refl)
    also (refl, refl)
    also (λ g. refl)
    also (refl, refl)
    also (λ g. (refl, refl))
    also (refl, refl)
    also (refl, refl)
    also (refl, refl)
    also (refl, refl)
    also (refl, refl)
    also (refl, refl)
    -- one element, whatever a count of group 40 counts
    also (rw (segments_one ρ.counting) refl, rw (segments_one ρ.counting) refl)
    also refl
    also refl
    also refl
    also (refl, refl)
    also (refl, refl)
    also (refl, refl)
    also (refl, refl)
    also (refl, refl)
    also refl
    also refl
    also (refl, refl)
    also (refl, refl)
    also (refl, refl)
    also (λ g. (refl, refl))
    also (λ g. (rw (segments_one ρ.counting) refl, rw (segments_one ρ.counting) refl))
    also (refl, refl)
    also (refl, refl)
    also (refl, refl)
    also (refl, refl)
    also (refl, refl)
    also tt
