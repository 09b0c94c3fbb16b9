-- The walk: a step on, a step that stays, spots that go forward; and that every text has one number of records at which the walk stops.
-- Assumes nothing.
use mathlib.Core.Path.{◌≡◌, refl, sym, ◌∙◌}
use mathlib.Core.List.{List}
use mathlib.Core.Logic.{⊎_elim}
use Prim.Native.Nat.{ℕ, zero, suc, ◌+◌, ◌*◌, ◌<◌, ◌≤◌}
use native.Mathlib.Omega.{arith}
use lib.ListN.{length}
use Rattle.rules.specs.declared.Rules.{Rules}
use Rattle.base.proofs.Order.{le_or_lt}
use Rattle.reply.specs.declared.Refusal.{Refusal}
use Rattle.place.specs.Placing.{Located, located, refused, locate}
use Rattle.place.specs.Walk.{onward, spot, IsRecord, Stops}
use Rattle.place.proofs.Placed.{no_record, located_range, located_long}

-- ---- steps

module _ (ρ : Rules) (s : List ℕ) where
  pub spot_start : 0 ≡ spot ρ s 0
  unfolding spot
  spot_start = refl

  pub spot_more : (k n : ℕ) (ns : List ℕ) → locate ρ s (spot ρ s k) ≡ located n ns → spot ρ s (suc k) ≡ n
  unfolding spot
  spot_more k n ns e = rw e

  pub spot_stays : (k : ℕ) (p : Refusal) → locate ρ s (spot ρ s k) ≡ refused p → spot ρ s (suc k) ≡ spot ρ s k
  unfolding spot
  spot_stays k p e = rw e

  pub spot_forward : (k : ℕ) → spot ρ s k ≤ spot ρ s (suc k)
  spot_forward k = by (locate ρ s (spot ρ s k)) refl
    where
      by : (l : Located) → locate ρ s (spot ρ s k) ≡ l → spot ρ s k ≤ spot ρ s (suc k)
      by (located n ns) e = omega (arith, spot_more k n ns e, located_long ρ s (spot ρ s k) n ns e)
      by (refused p) e = omega (arith, spot_stays k p e)

  pub spot_inside : (k : ℕ) → spot ρ s k ≤ length s
  unfolding spot
  spot_inside zero = omega arith
  spot_inside (suc k) = by (locate ρ s (spot ρ s k)) refl (spot_inside k)
    where
      by : (l : Located) → locate ρ s (spot ρ s k) ≡ l → spot ρ s k ≤ length s → onward (spot ρ s k) l ≤ length s
      by (located n ns) e h = located_range ρ s (spot ρ s k) n ns e
      by (refused p) e h = h

  -- ---- so many records take 242 bytes each at least: two index lines of 120 bytes, each with a line feed

  abbrev Records : ℕ → Type 0
  Records many = (k : ℕ) → k < many → IsRecord ρ s (spot ρ s k)

  pub records_long : (many : ℕ) → Records many → 242 * many ≤ spot ρ s many
  records_long zero h = omega arith
  records_long (suc k) h =
      let r = h k (omega arith) in
      omega (arith, records_long k (λ j l. h j (omega arith)), spot_more k r.next r.ns r.is, located_long ρ s (spot ρ s k) r.next r.ns r.is)

  pub records_few : (many : ℕ) → Records many → 242 * many ≤ length s
  records_few many h = omega (arith, records_long many h, spot_inside many)

  pub stops_few : (many : ℕ) (p : Refusal) → Stops ρ s many p → 242 * many ≤ length s
  stops_few many p h = records_few many h.each

  -- ---- where the walk stops, by what stands at a spot

  module _ (many : ℕ) (p : Refusal) (h : Stops ρ s many p) (k : ℕ) (l : k ≤ many) where
    pub stops_later : (n : ℕ) (ns : List ℕ) → locate ρ s (spot ρ s k) ≡ located n ns → k < many
    stops_later n ns e = ⊎_elim (λ (m : many ≤ k). absurd (here (omega arith))) (λ (m : k < many). m) (le_or_lt many k)
      where
        here : k ≡ many → ⊥
        here f = no_record (sym h.last ∙ rw f at e)

    pub stops_here : (q : Refusal) → locate ρ s (spot ρ s k) ≡ refused q → k ≡ many
    stops_here q e = ⊎_elim (λ (m : many ≤ k). omega arith) (λ (m : k < many). absurd (no_record (sym e ∙ (h.each k m).is))) (le_or_lt many k)

  -- ---- there is one such number

  pub stops_once : (m n : ℕ) (p q : Refusal) → Stops ρ s m p → Stops ρ s n q → (m ≡ n) × (p ≡ q)
  stops_once m n p q g h = (same, answer same)
    where
      same : m ≡ n
      same = ⊎_elim (λ (l : m ≤ n). stops_here n q h m l p g.last) (λ (l : n < m). absurd (omega (arith, stops_here m p g n (omega arith) q h.last))) (le_or_lt m n)

      answer : m ≡ n → p ≡ q
      answer e = let f : refused p ≡ refused q = sym g.last ∙ rw e h.last in cc

pub record HasStop (ρ : Rules) (s : List ℕ) : Type 0 where
  pub many : ℕ
  pub answer : Refusal
  pub stops : Stops ρ s many answer

-- from k records on: the next spot is where it stops, or one record more
stop_from : (ρ : Rules) (s : List ℕ) (left k : ℕ) → length s < k + left → ((j : ℕ) → j < k → IsRecord ρ s (spot ρ s j)) → HasStop ρ s
stop_from ρ s zero k h r = absurd (omega (arith, records_few ρ s k r))
stop_from ρ s (suc left) k h r = by (locate ρ s (spot ρ s k)) refl (stop_from ρ s left (suc k) (omega arith))
  where
    more : (n : ℕ) (ns : List ℕ) → locate ρ s (spot ρ s k) ≡ located n ns → (j : ℕ) → j < suc k → IsRecord ρ s (spot ρ s j)
    more n ns e j l = ⊎_elim (λ (m : k ≤ j). here (omega arith)) (λ (m : j < k). r j m) (le_or_lt k j)
      where
        here : k ≡ j → IsRecord ρ s (spot ρ s j)
        here f = let q : IsRecord ρ s (spot ρ s k) = record { next = n; ns = ns; is = e } in rw f at q

    by : (l : Located) → locate ρ s (spot ρ s k) ≡ l → (((j : ℕ) → j < suc k → IsRecord ρ s (spot ρ s j)) → HasStop ρ s) → HasStop ρ s
    by (located n ns) e go = go (more n ns e)
    by (refused p) e go = record { many = k; answer = p; stops = record { each = r; last = e } }

pub stops_some : (ρ : Rules) (s : List ℕ) → HasStop ρ s
stops_some ρ s = stop_from ρ s (suc (length s)) 0 (omega arith) (λ j l. absurd (omega arith))
