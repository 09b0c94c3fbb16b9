-- The groups with a nonzero count, group by group, and how many they may be; and how large the groups are that replies name.
-- Assumes nothing.
use Rattle.std.specs.Prelude.{Some}
use mathlib.Core.Path.{◌≡◌, refl, sym, ap}
use mathlib.Core.Bool.{Bool, true, false, cond, not}
use mathlib.Core.Logic.{⊎_elim}
use Rattle.std.specs.List.{count_by}
use Rattle.std.proofs.lemmas.List.Sums.{sum_by-cons}
use Rattle.base.proofs.Order.{le_or_lt}
use Rattle.base.proofs.Taken.{take_none}
use mathlib.Core.List.{List, [], ◌∷◌, map}
use Prim.Native.Nat.{ℕ, zero, suc, ◌+◌, ◌<◌, ◌≤◌}
use native.Mathlib.Omega.{arith}
use lib.ListN.{length, take, drop, get_or, drop_of_length-le, get_or-eq_default}
use lib.Seq.{drop-cons, take-nil}
use lib.Dec.{eqb}
use Rattle.base.specs.Every
use Rattle.base.specs.Every.{up_from}
use Rattle.base.specs.Sum
use Rattle.base.specs.Sum.{sum}
use Rattle.base.proofs.UpFrom.{length_up}
use Rattle.count.specs.Tally.{count_of}
use Rattle.count.specs.Rules.{ruling_of}
use Rattle.count.proofs.Rulings.{ruling_broken, broken_group}
use Rattle.listing.specs.Rows.{filled, filled_groups}

module _ (ns : List ℕ) where
  -- by the counts themselves: of those from place k on, so many are not 0
  told : (b : Bool) → ◌≡◌ {A = ℕ} (cond b 0 1) (cond (not b) 1 0)
  told true = refl
  told false = refl

  filled_from : (k many : ℕ) → sum (map (filled ns) (up_from (suc k) many)) ≡ count_by (λ n. not (eqb n 0)) (take many (drop k ns))
  unfolding Sum.sum Every.up_from
  filled_from k zero = ap (count_by (λ n. not (eqb n 0))) (sym (take_none (drop k ns)))
  filled_from k (suc many) =
      let rest = filled_from (suc k) many in
      let n = get_or ns k 0 in
      ⊎_elim
      (λ (h : length ns ≤ k).
      rw (rest, drop_of_length-le ns {i = k} h, get_or-eq_default ns 0 {n = k} h, drop_of_length-le ns {i = suc k} (omega arith), take-nil {A = ℕ} many) refl)
      (λ (h : k < length ns).
      rw (rest, drop-cons ns k 0 h, sum_by-cons (λ m. cond (not (eqb m 0)) 1 0) n (take many (drop (suc k) ns)), told (eqb n 0)) refl)
      (le_or_lt (length ns) k)

  pub filled_count : count_by (λ n. not (eqb n 0)) (take 60 ns) ≡ filled_groups ns
  unfolding filled_groups
  filled_count = sym (filled_from 0 60)

  -- no more than there are groups
  among : (gs : List ℕ) → sum (map (filled ns) gs) ≤ length gs
  unfolding Sum.sum
  among [] = omega arith
  among (g ∷ gs) = by (eqb (count_of ns g) 0) (among gs)
    where
      by : (b : Bool) → sum (map (filled ns) gs) ≤ length gs → cond b 0 1 + sum (map (filled ns) gs) ≤ suc (length gs)
      by true h = omega arith
      by false h = omega arith

  pub filled_within : filled_groups ns ≤ 60
  unfolding filled_groups
  filled_within = omega (arith, among (up_from 1 60), length_up 1 60)

-- ---- the group that reply 7 blames is at most 60

pub blamed_within : (ns : List ℕ) (g : ℕ) → ruling_of ns ≡ Some g → g ≤ 60
blamed_within ns g e = (broken_group ns (ruling_broken ns e)).1
