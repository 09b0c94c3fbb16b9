-- The walk, record by record: what is left to be looked at from the k-th spot on answers as all of it does, as long as no record met the date.
-- Assumes nothing.
use Rattle.std.specs.Prelude.{Ok}
use mathlib.Core.Path.{◌≡◌, refl, sym, ◌∙◌, ap}
use mathlib.Core.Bool.{Bool, true, false, cond}
use mathlib.Core.List.{List, map}
use Prim.Native.Nat.{ℕ, suc, ◌+◌, ◌-◌, ◌<◌, ◌≤◌}
use native.Mathlib.Numerals.{add-one}
use native.Mathlib.Omega.{arith}
use Rattle.rules.specs.declared.Rules.{Rules}
use Rattle.base.specs.Every
use Rattle.base.specs.Every.{up_from}
use Rattle.date.specs.declared.Date.{Date}
use Rattle.date.specs.Asked.{dated_by}
use Rattle.place.specs.Placing.{Located, located, refused, locate}
use Rattle.place.specs.Walk.{spot, Stops, records_in}
use Rattle.place.proofs.Counted.{records_stop}
use Rattle.place.proofs.Walked.{spot_start, spot_more, stops_later, stops_here}
use Rattle.reply.specs.declared.Refusal.{Refusal}
use Rattle.since.specs.Numbered.{First, found, unfound}
use Rattle.since.specs.declared.Step.{Step}
use Rattle.since.specs.declared.Step.TheVariants as S
use Rattle.since.specs.Since.{meets, first_in, why_stopped, date_at, entry_at, whole_walk, stop_of, first_dated, first_by, first_from}
use Rattle.since.specs.Steps.{step_by, step_at}

-- R330: of a right date the answer is that of the whole walk
pub full_walk : (ρ : Rules) (s : List ℕ) (from : Date) → dated_by from ≡ Ok from → first_from ρ s from ≡ first_in from (whole_walk ρ s) 0 (unfound (records_in ρ s) (stop_of ρ s))
unfolding first_from first_dated
full_walk ρ s from e = ap (first_by ρ s) e

module _ (ρ : Rules) (s : List ℕ) where
  abbrev many : ℕ
  many = records_in ρ s

  -- R254: the walk stops behind its records, with the refusal there
  pub stop_is : Stops ρ s (records_in ρ s) (stop_of ρ s)
  stop_is =
      let h = records_stop ρ s in
      rw (sym (ap why_stopped h.last)) at h

  module _ (d : Date) where
    -- what is left from the k-th spot on
    unfoldable pub rest_from : ℕ → First
    rest_from k = first_in d (map (entry_at ρ s) (up_from k (many - k))) k (unfound many (stop_of ρ s))

    pub rest_all : rest_from 0 ≡ first_dated ρ s d
    unfolding rest_from first_dated
    rest_all = let e : many - 0 ≡ many = omega arith in rw e

    module _ (k : ℕ) (few : k ≤ many) where
      -- a record stands there
      module _ (n : ℕ) (ns : List ℕ) (here : locate ρ s (spot ρ s k) ≡ located n ns) where
        pub rest_few : k < many
        rest_few = stops_later ρ s many (stop_of ρ s) stop_is k few n ns here

        rest_more : rest_from k ≡ cond (meets d (date_at ρ s (spot ρ s k))) (found (spot ρ s k) k) (rest_from (suc k))
        unfolding rest_from first_in Every.up_from
        rest_more = let e : many - k ≡ suc (many - suc k) = omega (arith, rest_few) in rw e

        pub rest_found : meets d (date_at ρ s (spot ρ s k)) ≡ true → rest_from k ≡ found (spot ρ s k) k
        rest_found m = rest_more ∙ rw m

        pub rest_passed : meets d (date_at ρ s (spot ρ s k)) ≡ false → rest_from k ≡ rest_from (suc k)
        rest_passed m = rest_more ∙ rw m

      -- none does
      pub rest_stopped : (r : Refusal) → locate ρ s (spot ρ s k) ≡ refused r → rest_from k ≡ unfound k r
      unfolding rest_from first_in Every.up_from
      rest_stopped r here =
          let q : k ≡ many = stops_here ρ s many (stop_of ρ s) stop_is k few r here in
          let e : many - k ≡ 0 = omega arith in
          let why : stop_of ρ s ≡ r = ap (λ j. why_stopped (locate ρ s (spot ρ s j))) (sym q) ∙ ap why_stopped here in
          rw e (ap (unfound many) why ∙ ap (λ j. unfound j r) (sym q))

-- ---- as the loop goes

pub record Walking (ρ : Rules) (s : List ℕ) (d : Date) (at k : ℕ) : Type 0 where
  pub few : k ≤ records_in ρ s
  pub here : at ≡ spot ρ s k
  pub left : rest_from ρ s d k ≡ first_dated ρ s d

pub walking_first : (ρ : Rules) (s : List ℕ) (d : Date) → Walking ρ s d 0 0
walking_first ρ s d = record { few = omega arith; here = spot_start ρ s; left = rest_all ρ s d }

module _ {ρ : Rules} {s : List ℕ} {d : Date} {at k : ℕ} (w : Walking ρ s d at k) where
  -- what the step met
  there : {x : Step} → step_at ρ s at d ≡ x → step_by (locate ρ s (spot ρ s k)) (meets d (date_at ρ s (spot ρ s k))) ≡ x
  unfolding step_at
  there e = ap (λ p. step_at ρ s p d) (sym w.here) ∙ e

  pub walking_found : step_at ρ s at d ≡ S.Found → found at k ≡ first_dated ρ s d
  walking_found e = by (locate ρ s (spot ρ s k)) (meets d (date_at ρ s (spot ρ s k))) refl refl (there e)
    where
      by : (l : Located) (t : Bool) → locate ρ s (spot ρ s k) ≡ l → meets d (date_at ρ s (spot ρ s k)) ≡ t → step_by l t ≡ S.Found → found at k ≡ first_dated ρ s d
      by (located n ns) true h m q = ap (λ p. found p k) w.here ∙ sym (rest_found ρ s d k w.few n ns h m) ∙ w.left
      by (located n ns) false h m q = let z : ◌≡◌ {A = ℕ} 0 1 = cc in absurd (omega arith)
      by (refused r) t h m q = let z : ◌≡◌ {A = ℕ} 0 1 = cc in absurd (omega arith)

  pub walking_stopped : {r : Refusal} → step_at ρ s at d ≡ S.Stopped r → unfound k r ≡ first_dated ρ s d
  walking_stopped {r} e = by (locate ρ s (spot ρ s k)) (meets d (date_at ρ s (spot ρ s k))) refl (there e)
    where
      by : (l : Located) (t : Bool) → locate ρ s (spot ρ s k) ≡ l → step_by l t ≡ S.Stopped r → unfound k r ≡ first_dated ρ s d
      by (located n ns) true h q = let z : ◌≡◌ {A = ℕ} 0 1 = cc in absurd (omega arith)
      by (located n ns) false h q = let z : ◌≡◌ {A = ℕ} 0 1 = cc in absurd (omega arith)
      by (refused p) t h q = let i : p ≡ r = cc in sym (rest_stopped ρ s d k w.few r (h ∙ ap refused i)) ∙ w.left

  pub walking_passed : {n : ℕ} → step_at ρ s at d ≡ S.Passed n → Walking ρ s d n (k + 1)
  walking_passed {n} e = by (locate ρ s (spot ρ s k)) (meets d (date_at ρ s (spot ρ s k))) refl refl (there e)
    where
      by : (l : Located) (t : Bool) → locate ρ s (spot ρ s k) ≡ l → meets d (date_at ρ s (spot ρ s k)) ≡ t → step_by l t ≡ S.Passed n → Walking ρ s d n (k + 1)
      by (located m ns) true h v q = let z : ◌≡◌ {A = ℕ} 0 1 = cc in absurd (omega arith)
      by (located m ns) false h v q =
          let i : m ≡ n = cc in
          record {
            few = omega (arith, rest_few ρ s d k w.few m ns h);
            here = rw (add-one k) (sym i ∙ sym (spot_more ρ s k m ns h));
            left = rw (add-one k) (sym (rest_passed ρ s d k w.few m ns h v) ∙ w.left);
          }
      by (refused r) t h v q = let z : ◌≡◌ {A = ℕ} 0 1 = cc in absurd (omega arith)
