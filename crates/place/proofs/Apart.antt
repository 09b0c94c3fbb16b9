-- Tiling along the walk: its records lie behind one another, and so do their lines. The lines of one group of one record share no place
-- with those of any other group of any record, nor with the two lines where the walk stands after any number of steps.
-- Assumes nothing.
use mathlib.Core.Path.{◌≡◌, refl, sym, ◌∙◌, ap}
use mathlib.Core.List.{List}
use mathlib.Core.Logic.{⊎_elim}
use Prim.Native.Nat.{ℕ, zero, suc, ◌+◌, ◌<◌, ◌≤◌}
use native.Mathlib.Nat.{eq-or-lt_of_le}
use native.Mathlib.Omega.{arith}
use lib.ListN.{drop}
use Rattle.rules.specs.declared.Rules.{Rules}
use Rattle.base.specs.Agree.{Misses, Between}
use Rattle.base.proofs.Order.{le_or_lt}
use Rattle.line.specs.Lines.{reach}
use Rattle.count.proofs.Tallied.{lines_all}
use Rattle.place.specs.Placing.{Located, located, refused, locate}
use Rattle.place.specs.Parts.{start}
use Rattle.place.specs.Walk.{spot, IsRecord}
use Rattle.place.proofs.Placed.{no_record}
use Rattle.place.proofs.Tiling.{start_zero, start_one, start_mono, start_after, start_within}
use Rattle.place.proofs.Walked.{spot_more, spot_stays, spot_forward}

module _ (ρ : Rules) (s : List ℕ) where
  pub spot_mono : (j k : ℕ) → j ≤ k → spot ρ s j ≤ spot ρ s k
  spot_mono zero zero h = omega arith
  spot_mono (suc j) zero h = absurd (omega arith)
  spot_mono j (suc k) h =
      ⊎_elim
      (λ (e : j ≡ suc k). omega (arith, ap (spot ρ s) e))
      (λ (l : j < suc k). omega (arith, spot_mono j k (omega arith), spot_forward ρ s k))
      (eq-or-lt_of_le h)

  -- before a record of the walk there are only records
  record_step : (k : ℕ) → IsRecord ρ s (spot ρ s (suc k)) → IsRecord ρ s (spot ρ s k)
  record_step k r = by (locate ρ s (spot ρ s k)) refl
    where
      by : (l : Located) → locate ρ s (spot ρ s k) ≡ l → IsRecord ρ s (spot ρ s k)
      by (located n ns) e = record { next = n; ns = ns; is = e }
      by (refused p) e = no_record (sym e ∙ ap (locate ρ s) (sym (spot_stays ρ s k p e)) ∙ r.is)

  pub record_before : (j k : ℕ) → j ≤ k → IsRecord ρ s (spot ρ s k) → IsRecord ρ s (spot ρ s j)
  record_before j zero h r = let e : j ≡ 0 = omega arith in rw e r
  record_before j (suc k) h r =
      ⊎_elim
      (λ (e : j ≡ suc k). rw e r)
      (λ (l : j < suc k). record_before j k (omega arith) (record_step k r))
      (eq-or-lt_of_le h)

  -- the lines of an earlier record end before a later one begins
  module _ (j m : ℕ) (ms : List ℕ) (f : locate ρ s (spot ρ s j) ≡ located m ms) where
    pub lines_before_lem : (h k : ℕ) → h ≤ 61 → j < k → start ρ s (spot ρ s j) ms h ≤ spot ρ s k
    lines_before_lem h k l b =
        omega (arith, start_within ρ s (spot ρ s j) m ms f h l, spot_more ρ s j m ms f, spot_mono (suc j) k b)

    -- behind group 60 there are no more lines
    pub lines_none : (h : ℕ) → 60 < h → start ρ s (spot ρ s j) ms h ≡ start ρ s (spot ρ s j) ms (suc h)
    unfolding start
    lines_none h l = rw (lines_all ρ ms h (omega arith), lines_all ρ ms (suc h) (omega arith))

  -- the places of the lines of group g of record k
  module _ (k n : ℕ) (ns : List ℕ) (e : locate ρ s (spot ρ s k) ≡ located n ns) (g : ℕ) (few : g ≤ 60) where
    abbrev Lines : ℕ → Type 0
    Lines = Between (start ρ s (spot ρ s k) ns g) (start ρ s (spot ρ s k) ns (suc g))

    -- another group, of this record or of another; 0 is the index
    pub lines_apart : (j m : ℕ) (ms : List ℕ) → locate ρ s (spot ρ s j) ≡ located m ms → (h : ℕ) → (j ≡ k → h ≡ g → ⊥) → Misses Lines (start ρ s (spot ρ s j) ms h) (start ρ s (spot ρ s j) ms (suc h))
    lines_apart j m ms f h other i l u d = ⊎_elim low high (le_or_lt h 60)
      where
        same : j ≡ k → ⊥
        same q =
            let r : ms ≡ ns = cc in
            let b : start ρ s (spot ρ s j) ms h ≡ start ρ s (spot ρ s k) ns h = cc in
            let c : start ρ s (spot ρ s j) ms (suc h) ≡ start ρ s (spot ρ s k) ns (suc h) = cc in
            ⊎_elim
            (λ (v : h ≤ g).
            ⊎_elim
            (λ (y : h ≡ g). other q y)
            (λ (y : h < g). omega (arith, start_mono ρ s (spot ρ s k) ns (suc h) g y, d.0))
            (eq-or-lt_of_le v))
            (λ (v : g < h). omega (arith, start_mono ρ s (spot ρ s k) ns (suc g) h v, d.1))
            (le_or_lt h g)

        earlier : h ≤ 60 → j < k → ⊥
        earlier v b = omega (arith, lines_before_lem j m ms f (suc h) k (omega arith) b, start_after ρ s (spot ρ s k) ns g, d.0)

        later : k < j → ⊥
        later b = omega (arith, lines_before_lem k n ns e (suc g) j (omega arith) b, start_after ρ s (spot ρ s j) ms h, d.1)

        low : h ≤ 60 → ⊥
        low v = ⊎_elim (λ (y : j ≤ k). ⊎_elim same (earlier v) (eq-or-lt_of_le y)) later (le_or_lt j k)

        high : 60 < h → ⊥
        high v = omega (arith, lines_none j m ms f h v)

    -- the index lines of the walk's records, and what stands where the walk has stopped
    pub heads_apart : 1 ≤ g → (j : ℕ) → Misses Lines (spot ρ s j) (spot ρ s j + reach (drop (spot ρ s j) s) 2)
    heads_apart some j i l u d = by (locate ρ s (spot ρ s j)) refl
      where
        by : (x : Located) → locate ρ s (spot ρ s j) ≡ x → ⊥
        by (located m ms) f =
            lines_apart j m ms f 0 (λ q z. omega arith) i (omega (arith, start_zero ρ s (spot ρ s j) ms)) (omega (arith, start_one ρ s (spot ρ s j) ms)) d
        by (refused p) f =
            ⊎_elim
            (λ (y : j ≤ k). no_record (sym f ∙ (record_before j k y record { next = n; ns = ns; is = e }).is))
            (λ (y : k < j). omega (arith, lines_before_lem k n ns e (suc g) j (omega arith) y, d.1))
            (le_or_lt j k)
