-- R12: the usual rules, which are those of a caller that chooses nothing, and how another is chosen.
use Rattle.std.specs.Prelude.{Bool, true, false}
use Rattle.rules.specs.declared.LineEnds.{LineEnds}
use Rattle.rules.specs.declared.LineEnds.TheVariants.{Strict, Either}
use Rattle.rules.specs.declared.Counting.{Counting}
use Rattle.rules.specs.declared.Counting.TheVariants.{Elements, Entries}
use Rattle.rules.specs.declared.Rules.{Rules}

abbrev pub usual : Rules
usual = record { ends = Either; counting = Elements }

-- ρ with this rule for line ends, and all else as in ρ
abbrev pub ended : LineEnds → Rules → Rules
ended e ρ = record { ends = e; counting = ρ.counting }

-- ρ with this count rule, and all else as in ρ
abbrev pub counted : Counting → Rules → Rules
counted k ρ = record { ends = ρ.ends; counting = k }

-- by whether the strict line end was asked for, and whether entries were
abbrev pub ends_by : Bool → LineEnds
ends_by true = Strict
ends_by false = usual.ends

abbrev pub counting_by : Bool → Counting
counting_by true = Entries
counting_by false = usual.counting

abbrev pub chosen : (strict entries : Bool) → Rules
chosen strict entries = record { ends = ends_by strict; counting = counting_by entries }
