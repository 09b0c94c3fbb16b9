-- R280: the lines of a group, as a part of the text that the caller lent. R281: 12 first, and then the reply of placing, if it is not 0.
-- R282: with the count 0 the part is empty, and lies where the lines would be. R283: a refusal gives the empty part at place 0.
use Rattle.std.specs.Prelude.{List, ℕ, suc, ◌+◌, Option, Some, None, Result, Ok, Err}
use Rattle.rules.specs.declared.Rules.{Rules}
use Rattle.base.specs.Part.{part}
use Rattle.form.specs.Table.{form_of}
use Rattle.place.specs.Numbered.{as_checked}
use Rattle.place.specs.Placing.{placing_of, counts_at}
use Rattle.place.specs.Parts.{start}
use Rattle.reply.specs.declared.Refusal.TheVariants.{NoSuchNumber}
use Rattle.reply.specs.declared.Refusal.{Refusal}
use Rattle.form.specs.declared.Form.{Form}
use Rattle.group.specs.declared.Part.{Part}
use Rattle.group.specs.declared.Lines.{Lines}

-- R283: the place of a part that can be given, or the text's start
abbrev pub place_if : Result (Unit {0}) Refusal → ℕ → ℕ
place_if (Ok _) n = n
place_if (Err r) n = 0

-- R283: what is told of lines that can be given, or can't
abbrev pub lines_told : Result Part Refusal → Lines
lines_told (Ok p) = record { found = Ok tt; from = p.from; to = p.to }
lines_told (Err r) = record { found = Err r; from = 0; to = 0 }

module _ (ρ : Rules) where
  abbrev pub found_in : List ℕ → ℕ → Option Form → Result (Unit {0}) Refusal
  found_in s at (Some f) = as_checked (placing_of ρ s at)
  found_in s at None = Err NoSuchNumber

  -- R281: whether the lines of group g of the record at a place can be given
  unfoldable pub found_at : List ℕ → ℕ → ℕ → Result (Unit {0}) Refusal
  found_at s at g = found_in s at (form_of g)

  -- R27: where the lines of group g of the record at a place begin; they end where those of the next group begin
  abbrev pub lines_start : List ℕ → ℕ → ℕ → ℕ
  lines_start s at g = start ρ s at (counts_at ρ s at) g

  -- R280, R283: the same where they can be given, or the text's start
  abbrev pub start_by : List ℕ → ℕ → ℕ → Result (Unit {0}) Refusal → ℕ
  start_by s at g c = place_if c (lines_start s at g)

  -- where the part begins and where it ends, and the part
  unfoldable pub part_start : List ℕ → ℕ → ℕ → ℕ
  part_start s at g = start_by s at g (found_at s at g)

  unfoldable pub part_end : List ℕ → ℕ → ℕ → ℕ
  part_end s at g = start_by s at (suc g) (found_at s at g)

  unfoldable pub part_at : List ℕ → ℕ → ℕ → List ℕ
  part_at s at g = part (part_start s at g) (part_end s at g) s

-- where that stands, by the address of the text: a block and an offset
abbrev pub moved : ℕ × ℕ → ℕ → ℕ × ℕ
moved p n = (p.0, p.1 + n)
