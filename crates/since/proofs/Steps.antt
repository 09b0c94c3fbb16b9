-- A step of the walk, by what placing answered at the place.
-- Assumes nothing.
use Rattle.std.specs.Prelude.{Option, Some, None}
use mathlib.Core.Path.{◌≡◌, refl, sym, ◌∙◌, ap}
use mathlib.Core.Bool.{Bool, true, false}
use mathlib.Core.List.{List}
use Prim.Native.Nat.{ℕ}
use native.Mathlib.Omega.{arith}
use Rattle.rules.specs.declared.Rules.{Rules}
use Rattle.count.specs.Rules.{ruling_of}
use Rattle.date.specs.declared.Date.{Date}
use Rattle.place.specs.declared.Placing.TheVariants.{Placed, BrokenRule, Refused}
use Rattle.place.specs.Placing
use Rattle.place.specs.Placing.{Carried, Located, located, refused, locate, ruled_at, placing_by, placing_of, carried_at}
use Rattle.reply.specs.declared.Refusal.{Refusal}
use Rattle.since.specs.declared.Step.TheVariants.{Found, Passed, Stopped}
use Rattle.since.specs.Since.{meets, date_at}
use Rattle.since.specs.Steps.{date_by, step_by, step_at}
use Rattle.since.proofs.Dates.{date_by_lem, date_broken}

-- the next place of a record that is located, by its answer
ruled_placed : (m n : ℕ) (k : Option ℕ) → ruled_at m k ≡ Placed n → m ≡ n
ruled_placed m n None e = cc
ruled_placed m n (Some g) e = let z : ◌≡◌ {A = ℕ} 0 1 = cc in absurd (omega arith)

ruled_broken : (m g n : ℕ) (k : Option ℕ) → ruled_at m k ≡ BrokenRule g n → m ≡ n
ruled_broken m g n None e = let z : ◌≡◌ {A = ℕ} 0 1 = cc in absurd (omega arith)
ruled_broken m g n (Some h) e = cc

not_refused : {A : Type 0} (m : ℕ) (r : Refusal) (k : Option ℕ) → ruled_at m k ≡ Refused r → A
not_refused m r None e = let z : ◌≡◌ {A = ℕ} 0 1 = cc in absurd (omega arith)
not_refused m r (Some g) e = let z : ◌≡◌ {A = ℕ} 0 1 = cc in absurd (omega arith)

module _ (ρ : Rules) (s : List ℕ) (at : ℕ) (d : Date) where
  pub step_stopped : (r : Refusal) → placing_of ρ s at ≡ Refused r → step_at ρ s at d ≡ Stopped r
  unfolding step_at Placing.placing_of
  step_stopped r e = by (locate ρ s at) (meets d (date_at ρ s at)) e
    where
      by : (l : Located) (t : Bool) → placing_by l ≡ Refused r → step_by l t ≡ Stopped r
      by (located n ns) t e = not_refused n r (ruling_of ns) e
      by (refused q) t e = let i : q ≡ r = cc in ap Stopped i

  pub step_broken : {g n : ℕ} → placing_of ρ s at ≡ BrokenRule g n → step_at ρ s at d ≡ Passed n
  unfolding step_at Placing.placing_of
  step_broken {g} {n} e = ap (λ x. step_by (locate ρ s at) (meets d x)) (date_broken ρ s at e) ∙ by (locate ρ s at) e
    where
      by : (l : Located) → placing_by l ≡ BrokenRule g n → step_by l false ≡ Passed n
      by (located m ns) e = ap Passed (ruled_broken m g n (ruling_of ns) e)
      by (refused q) e = let z : ◌≡◌ {A = ℕ} 0 1 = cc in absurd (omega arith)

  -- a record that is placed with 0, whose date was found to be x
  module _ {n : ℕ} (placed : placing_of ρ s at ≡ Placed n) {r : Carried} (its : r ≡ carried_at ρ s at) {x : Option Date} (told : x ≡ date_by ρ s r) {t : Bool} (met : t ≡ meets d x) where
    found : meets d (date_at ρ s at) ≡ t
    found = sym (met ∙ ap (meets d) (told ∙ ap (date_by ρ s) its ∙ date_by_lem ρ s at placed))

    pub step_found : t ≡ true → step_at ρ s at d ≡ Found
    unfolding step_at Placing.placing_of
    step_found e = ap (step_by (locate ρ s at)) (found ∙ e) ∙ by (locate ρ s at) placed
      where
        by : (l : Located) → placing_by l ≡ Placed n → step_by l true ≡ Found
        by (located m ns) e = refl
        by (refused q) e = let z : ◌≡◌ {A = ℕ} 0 1 = cc in absurd (omega arith)

    pub step_passed : t ≡ false → step_at ρ s at d ≡ Passed n
    unfolding step_at Placing.placing_of
    step_passed e = ap (step_by (locate ρ s at)) (found ∙ e) ∙ by (locate ρ s at) placed
      where
        by : (l : Located) → placing_by l ≡ Placed n → step_by l false ≡ Passed n
        by (located m ns) e = ap Passed (ruled_placed m n (ruling_of ns) e)
        by (refused q) e = let z : ◌≡◌ {A = ℕ} 0 1 = cc in absurd (omega arith)

-- what `step_at` cites
pub ruleset steps = (step_stopped, step_broken, step_found, step_passed)
