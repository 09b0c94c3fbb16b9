-- R356, R357: what the program writes for a text: on standard output the records that it copies, on standard error a line for each stretch that it
-- leaves out. R341: of a text longer than 65,536 bytes, nothing on either.
use Rattle.std.specs.Prelude.{List, ℕ}
use mathlib.Core.List.{flat_map}
use Rattle.rules.specs.declared.Rules.{Rules}
use Rattle.salvaging.specs.Pieces.{copy_of, report_of}
use Rattle.salvaging.specs.Printed.{printed_pieces}

module _ (ρ : Rules) (s : List ℕ) where
  abbrev pub printed_copy : List ℕ
  printed_copy = flat_map (copy_of s) (printed_pieces ρ s)

  abbrev pub printed_report : List ℕ
  printed_report = flat_map report_of (printed_pieces ρ s)
