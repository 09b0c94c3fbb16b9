-- R365: the rules as one number, the sum of flags: 0 stands for the usual rules, 1 for the strict line end, 2 for entries. A flag without a
-- meaning is ignored.
use Rattle.std.specs.Prelude.{ℕ, ◌/◌, ◌%◌, eqb}
use Rattle.rules.specs.declared.Rules.{Rules}
use Rattle.rules.specs.Choice.{chosen}

abbrev pub flagged : ℕ → Rules
flagged flags = chosen (eqb (flags % 2) 1) (eqb (flags / 2 % 2) 1)
