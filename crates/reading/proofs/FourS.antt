-- R381: lines of record S, with or without a byte exchanged, into any table with room. That of group 4, `   7.250`, reads as its cell, and with an 8
-- in place of the 7 as another; with a comma in place of the point it is refused, 9 at line 1, element 1, and so is that of group 1 with a comma in
-- its first field. By computation.
-- Assumes nothing.
use mathlib.Core.Path.{◌≡◌, refl}
use mathlib.Core.List.{[], ◌∷◌, ◌++◌}
use Prim.Native.Nat.{ℕ, ◌≤◌}
use Prim.Native.String.{String}
use borrow.Author.Tests.{le-leb}
use lib.IntN.{pos}
use Rattle.rules.specs.declared.Rules.{Rules}
use Rattle.base.specs.Every
use Rattle.base.specs.Pieces
use Rattle.base.specs.Pieces.{done, bad}
use Rattle.base.specs.Quoted.{bytes}
use Rattle.form.specs.declared.Form.{Form}
use Rattle.form.specs.declared.Form.TheVariants.{F7, F8}
use Rattle.form.specs.Count
use Rattle.form.specs.Table
use Rattle.field.specs.Read as Field
use Rattle.line.specs.Contents
use Rattle.line.specs.Lines
use Rattle.reply.specs.declared.Refusal.TheVariants.{BadField}
use Rattle.reading.specs.Blanks.{is_right, filled_to}
use Rattle.reading.specs.Plan.{plan_from, plan_of}
use Rattle.reading.specs.Read.{Cells, read_fields, read_line, read_lines_of, read_lines, read_form}

-- a line with this content, as a group of this form, number and count
abbrev pub line_reads : Rules → Form → (g count : ℕ) → String → ℕ → Cells
line_reads ρ f g count content room = read_form ρ f g count (bytes content ++ (13 ∷ 10 ∷ [])) room

pub record FourReads (ρ : Rules) (room : ℕ) : Type 0 where
  pub right : line_reads ρ F8 4 1 "   7.250" room ≡ done (pos 7250 ∷ [])
  pub comma : line_reads ρ F8 4 1 "   7,250" room ≡ bad (BadField 1 1)
  pub eight : line_reads ρ F8 4 1 "   8.250" room ≡ done (pos 8250 ∷ [])

pub four_reads : (ρ : Rules) (room : ℕ) → 1 ≤ room → FourReads ρ room
unfolding read_form read_lines read_lines_of read_line read_fields Pieces.gather plan_of plan_from is_right filled_to Field.field_of Lines.reach Contents.content_of
    Every.up_from Table.row_of Table.listed_as Count.lines_of Count.cells_of Count.rounded_up Count.elements_of Count.is_segments Count.segment_elements
four_reads ρ room h = let r = le-leb 1 room h in record { right = rw r refl; comma = rw r refl; eight = rw r refl }

pub one_refused : (ρ : Rules) (room : ℕ) → 4 ≤ room → line_reads ρ F7 1 4 "  1,200 67.000-23.500143.000" room ≡ bad (BadField 1 1)
unfolding read_form read_lines read_lines_of read_line read_fields Pieces.gather plan_of plan_from is_right filled_to Field.field_of Lines.reach Contents.content_of
    Every.up_from Table.row_of Table.listed_as Count.lines_of Count.cells_of Count.rounded_up Count.elements_of Count.is_segments Count.segment_elements
one_refused ρ room h = rw (le-leb 4 room h) refl
