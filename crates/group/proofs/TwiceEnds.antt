-- R9, R382: S twice with carriage returns here and there, or with none: group 4 of both records reads as 7.250 under the usual rules.
-- Assumes nothing.
use mathlib.Core.Path.{◌≡◌, sym, ◌∙◌, ap}
use mathlib.Core.Bool.{Bool}
use mathlib.Core.List.{List, [], ◌∷◌}
use Prim.Native.Nat.{ℕ, ◌≤◌}
use lib.IntN.{ℤ, pos}
use lib.ListN.{length}
use Rattle.rules.specs.Choice.{usual}
use Rattle.base.specs.Pieces.{done}
use Rattle.place.specs.RecordS.{twice_s, twice_ended}
use Rattle.place.specs.Walk.{spot}
use Rattle.place.proofs.Alike.{alike_spot}
use Rattle.place.proofs.TwiceEnds.{twice_alike}
use Rattle.place.proofs.TwiceS.{spot_one}
use Rattle.place.proofs.Walked.{spot_start}
use Rattle.group.specs.Text.{read_at}
use Rattle.group.proofs.Alike.{alike_read}
use Rattle.group.proofs.DamageInstance.{before_both}

module _ (returns : ℕ → Bool) (table : List ℤ) (room : 1 ≤ length table) where
  -- record k of it
  abbrev four : ℕ → Type 0
  four k = read_at usual (twice_ended returns) (spot usual (twice_ended returns) k) 4 (length table) ≡ done (pos 7250 ∷ [])

  as_twice : (k n : ℕ) → spot usual twice_s k ≡ n → read_at usual twice_s n 4 (length table) ≡ done (pos 7250 ∷ []) → four k
  as_twice k n e f =
      alike_read usual (twice_ended returns) (spot usual (twice_ended returns) k) twice_s (spot usual twice_s k) (alike_spot usual (twice_ended returns) twice_s (twice_alike returns) k) 4 (length table)
      ∙ ap (λ p. read_at usual twice_s p 4 (length table)) e
      ∙ f

  pub ended_both : four 0 × four 1
  ended_both = (as_twice 0 0 (sym (spot_start usual twice_s)) (before_both usual table room).0, as_twice 1 305 (spot_one usual) (before_both usual table room).1)
