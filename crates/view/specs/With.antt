-- R285 to R288, R297: what is asked with a record. The record says where the lines of each of its groups begin and end (R259); it may be one that
-- was placed in the text, one that was placed elsewhere, or made up. Of what it says, the counts and the asked group's part are looked at.
use Rattle.std.specs.Prelude.{Bool, cond, List, ℕ, Option, Some, None, Result, Ok, Err}
use Rattle.rules.specs.declared.Rules.{Rules}
use Rattle.base.specs.Part.{part}
use Rattle.form.specs.declared.Form.{Form}
use Rattle.form.specs.Table.{form_of}
use Rattle.form.specs.Count.{lines_of}
use Rattle.line.specs.Parts.{are_lines}
use Rattle.count.specs.Check.{accepted_of, and_then}
use Rattle.count.specs.Tally.{count_of}
use Rattle.place.specs.Placing.{Carried}
use Rattle.reading.specs.Read.{Cells, read_group}
use Rattle.group.specs.declared.Characteristic.{Characteristic}
use Rattle.group.specs.Characteristics.{characteristic_by}
use Rattle.group.specs.Held.{place_if}
use Rattle.group.specs.Text.{read_if}
use Rattle.reply.specs.declared.Refusal.TheVariants.{NoSuchNumber, BadPart}
use Rattle.reply.specs.declared.Refusal.{Refusal}

-- R243: the place that stands under a group's number, as a count does: 0 where there is no such number
abbrev pub place_of : List ℕ → ℕ → ℕ
place_of = count_of

module _ (ρ : Rules) (s : List ℕ) (r : Carried) where
  -- R286: the part that the record names for group g, of this form, is exactly as many lines of the text as its count needs
  abbrev pub holds_part : ℕ → Form → Bool
  holds_part g f = are_lines s (place_of r.starts_of g) (place_of r.ends_of g) (lines_of ρ f (count_of r.counts_of g))

  -- R222
  abbrev pub part_held : ℕ → Form → Result (Unit {0}) Refusal
  part_held g f = cond (holds_part g f) (Ok tt) (Err BadPart)

  -- R285: 12; 4, 5, 6 and 7 by the counts, as in writing; 22
  abbrev pub held_with : ℕ → Option Form → Result (Unit {0}) Refusal
  held_with g (Some f) = and_then (accepted_of r.counts_of) (part_held g f)
  held_with g None = Err NoSuchNumber

  unfoldable pub found_with : ℕ → Result (Unit {0}) Refusal
  found_with g = held_with g (form_of g)

  -- the part of the text
  unfoldable pub start_with : ℕ → ℕ
  start_with g = place_if (found_with g) (place_of r.starts_of g)

  unfoldable pub end_with : ℕ → ℕ
  end_with g = place_if (found_with g) (place_of r.ends_of g)

  unfoldable pub part_with : ℕ → List ℕ
  part_with g = part (start_with g) (end_with g) s

  -- R287: the counts and these lines by themselves: `read_group` knows of no text
  unfoldable pub read_with : ℕ → ℕ → Cells
  read_with g room = read_if (found_with g) (read_group ρ r.counts_of g (part_with g) room)

  -- R297: by what group 4 reads as into a table that has room
  unfoldable pub characteristic_with : ℕ → Characteristic
  characteristic_with k = characteristic_by k (read_with 4 49)
