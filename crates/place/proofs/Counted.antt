-- The number of a text's records: it is the number at which the walk stops.
-- Assumes nothing.
use mathlib.Core.Path.{◌≡◌, refl, ◌∙◌, ap}
use mathlib.Core.List.{List}
use Prim.Native.Nat.{ℕ, zero, suc, ◌+◌, ◌*◌, ◌≤◌}
use native.Mathlib.Omega.{arith}
use lib.ListN.{length}
use Rattle.rules.specs.declared.Rules.{Rules}
use Rattle.reply.specs.declared.Refusal.{Refusal}
use Rattle.place.specs.Placing.{refused, locate}
use Rattle.place.specs.Walk.{spot, Stops, one_more, records_from, records_in}
use Rattle.place.proofs.Walked.{stops_some, stops_few}

-- ---- the number of records

module _ (ρ : Rules) (s : List ℕ) (many : ℕ) (p : Refusal) (h : Stops ρ s many p) where
  from : (d k most : ℕ) → k + d ≡ many → d ≤ most → records_from ρ s k most ≡ d
  unfolding records_from
  from zero k zero e l = refl
  from zero k (suc most) e l = ap (λ x. one_more x (records_from ρ s (suc k) most)) (here (omega arith))
    where
      here : k ≡ many → locate ρ s (spot ρ s k) ≡ refused p
      here f = rw f h.last
  from (suc d) k zero e l = absurd (omega arith)
  from (suc d) k (suc most) e l =
      let r = h.each k (omega arith) in
      ap (λ x. one_more x (records_from ρ s (suc k) most)) r.is ∙ ap suc (from d (suc k) most (omega arith) (omega arith))

  pub records_are : records_in ρ s ≡ many
  unfolding records_in
  records_are = from many 0 (length s) (omega arith) (omega (arith, stops_few ρ s many p h))

-- so the walk of every text stops behind its records, and nowhere else
pub records_stop : (ρ : Rules) (s : List ℕ) → Stops ρ s (records_in ρ s) (stops_some ρ s).answer
records_stop ρ s =
    let w = stops_some ρ s in
    rw (records_are ρ s w.many w.answer w.stops) w.stops

-- each has 242 bytes at least
pub records_bytes : (ρ : Rules) (s : List ℕ) → 242 * records_in ρ s ≤ length s
records_bytes ρ s = stops_few ρ s (records_in ρ s) (stops_some ρ s).answer (records_stop ρ s)
