-- R9, R382: S twice with carriage returns here and there, or with none, is alike to S twice under the usual rules; so it has two records too.
-- Assumes nothing.
use mathlib.Core.Path.{◌≡◌, refl, subst}
use mathlib.Core.Bool.{Bool, true}
use mathlib.Core.List.{◌++◌}
use Prim.Native.Nat.{ℕ}
use Rattle.rules.specs.Choice.{usual}
use Rattle.line.specs.Alike as Lines
use Rattle.line.specs.Alike.{Alike}
use Rattle.line.proofs.Alike.{alike_ended, prints_either_way}
use Rattle.reply.specs.declared.Refusal.TheVariants.{End}
use Rattle.place.specs.RecordS.{contents_s, record_s, twice_s, twice_ended}
use Rattle.place.specs.Walk.{Stops}
use Rattle.place.proofs.Alike.{alike_stops}
use Rattle.place.proofs.TwiceS.{two_records}

all_returns : twice_ended (λ i. true) ≡ twice_s
unfolding twice_ended twice_s record_s Lines.ended_by
all_returns = refl

pub twice_alike : (returns : ℕ → Bool) → Alike usual (twice_ended returns) twice_s
unfolding twice_ended
twice_alike returns =
    subst (Alike usual (twice_ended returns)) all_returns
    (alike_ended usual refl (contents_s ++ contents_s) (prints_either_way (contents_s ++ contents_s) tt) returns (λ i. true))

pub twice_stops : (returns : ℕ → Bool) → Stops usual (twice_ended returns) 2 End
twice_stops returns = (alike_stops usual (twice_ended returns) twice_s (twice_alike returns) 2 End).1 (two_records usual)
