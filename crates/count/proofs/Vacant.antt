-- The vacant groups: what is told of the first that has a count.
-- Assumes nothing.
use mathlib.Core.Path.{◌≡◌, refl}
use mathlib.Core.Bool.{Bool, true, false}
use mathlib.Core.List.{List}
use Prim.Native.Nat.{ℕ, suc, zero, ◌+◌}
use Rattle.std.specs.Prelude.{Option, Some, None, not, ◌==◌}
use Rattle.std.specs.List.{find, range_with_len}
use Rattle.std.proofs.Common.{Result, Ok, Err, add-one}
use Rattle.base.specs.Every.{up_from}
use Rattle.count.specs.Tally.{count_of}
use Rattle.count.specs.Rules.{filled_among}
use Rattle.reply.specs.declared.Refusal.{Refusal}
use Rattle.reply.specs.declared.Refusal.TheVariants.{FilledVacant}

-- what is told of the first group that has a count
abbrev pub told_first : Option ℕ → Result (Unit {0}) Refusal
told_first (Some g) = Err (FilledVacant g)
told_first None = Ok tt

module _ (ns : List ℕ) where
  abbrev pub has_count : ℕ → Bool
  has_count g = not (count_of ns g == 0)

  pub filled_first : (g n : ℕ) → filled_among ns (up_from g n) ≡ told_first (find has_count (range_with_len g n))
  unfolding filled_among up_from
  filled_first g zero = refl
  filled_first g (suc n) = by (count_of ns g == 0) refl (filled_first (suc g) n)
    where
      by : (b : Bool) → (count_of ns g == 0) ≡ b → filled_among ns (up_from (suc g) n) ≡ told_first (find has_count (range_with_len (suc g) n))
          → filled_among ns (up_from g (suc n)) ≡ told_first (find has_count (range_with_len g (suc n)))
      by true e more = rw (e, add-one) more
      by false e more = rw e refl
