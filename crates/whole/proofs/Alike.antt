-- R9: reading a whole record in texts whose lines have the same contents: the same cells, or the same refusal with its numbers.
-- Assumes nothing.
use mathlib.Core.Path.{◌≡◌, refl}
use mathlib.Core.List.{List}
use Prim.Native.Nat.{ℕ}
use Rattle.rules.specs.declared.Rules.{Rules}
use Rattle.line.specs.Alike.{AlikeFrom}
use Rattle.place.specs.declared.Placing.{Placing}
use Rattle.place.specs.Alike.{SamePlacing, both_placed, both_broken, both_refused}
use Rattle.place.specs.Numbered.{as_checked}
use Rattle.place.specs.Placing.{placing_of}
use Rattle.place.proofs.Alike.{alike_placing, alike_counts}
use Rattle.group.proofs.Alike.{alike_read}
use Rattle.whole.specs.Whole.{whole_read}
use Rattle.whole.proofs.Rests.{SameBasis, same_whole}

module _ (ρ : Rules) (s : List ℕ) (p : ℕ) (t : List ℕ) (q : ℕ) (h : AlikeFrom ρ s p t q) where
  pub alike_basis : SameBasis ρ s p t q
  alike_basis = record { counts = alike_counts ρ s p t q h; groups = alike_read ρ s p t q h }

  pub alike_whole : (room : ℕ) → whole_read ρ s p room ≡ whole_read ρ t q room
  alike_whole = same_whole ρ s p t q alike_basis (by (placing_of ρ s p) (placing_of ρ t q) (alike_placing ρ s p t q h))
    where
      by : (a b : Placing) → SamePlacing ρ s t a b → as_checked a ≡ as_checked b
      by a b (both_placed n m f) = refl
      by a b (both_broken g n m f) = refl
      by a b (both_refused r) = refl
