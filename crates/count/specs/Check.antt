-- R204 to R207: the check of counts alone, in the order 4, 5, 6, 7. R302: the whole check, of counts and a table's length, which goes on with 14,
-- as writing makes it, and whatever else is lent counts and cells without a text.
use Rattle.std.specs.Prelude.{Bool, cond, ◌&&◌, List, ℕ, eqb, length, Option, Some, None, Result, Ok, Err}
use Rattle.rules.specs.declared.Rules.{Rules}
use Rattle.base.specs.Every.{every}
use Rattle.form.specs.Count.{is_count}
use Rattle.count.specs.Tally.{record_cells}
use Rattle.count.specs.Rules.{release_of, ruling_of}
use Rattle.reply.specs.declared.Refusal.{Refusal}
use Rattle.reply.specs.declared.Refusal.TheVariants.{Misformed, BrokenRule, OtherLength}

-- R129, R204: counts that are given are 80, and none is above 999; else 4
unfoldable pub well_formed : List ℕ → Bool
well_formed ns = eqb (length ns) 80 && every is_count ns

-- R207: no rule is broken; else 7
abbrev pub by_rules : Option ℕ → Result (Unit {0}) Refusal
by_rules None = Ok tt
by_rules (Some g) = Err (BrokenRule g)

-- R205, R206: release 5, and no vacant number has a count; else 5 or 6
abbrev pub by_release : List ℕ → Result (Unit {0}) Refusal → Result (Unit {0}) Refusal
by_release ns (Ok five) = by_rules (ruling_of ns)
by_release ns (Err r) = Err r

unfoldable pub accepted_of : List ℕ → Result (Unit {0}) Refusal
accepted_of ns = cond (well_formed ns) (by_release ns (release_of ns)) (Err Misformed)

-- one check after another
abbrev pub and_then : Result (Unit {0}) Refusal → Result (Unit {0}) Refusal → Result (Unit {0}) Refusal
and_then (Ok right) b = b
and_then (Err r) b = Err r

module _ (ρ : Rules) where
  -- R214: as many cells as the counts ask for, no more and no fewer; else 14
  abbrev pub by_length : List ℕ → ℕ → Result (Unit {0}) Refusal
  by_length ns cells = cond (eqb cells (record_cells ρ ns)) (Ok tt) (Err OtherLength)

  unfoldable pub checked_of : List ℕ → ℕ → Result (Unit {0}) Refusal
  checked_of ns cells = and_then (accepted_of ns) (by_length ns cells)
