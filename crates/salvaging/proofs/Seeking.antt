-- The end of a stretch, as its loop finds it: line starts are tried one after the other, and none that was passed would have done.
-- Assumes nothing.
use mathlib.Core.Path.{◌≡◌, sym, subst}
use mathlib.Core.Bool.{true, false}
use mathlib.Core.List.{List}
use mathlib.Core.Logic.{inl, inr, ⊎_elim}
use Prim.Native.Nat.{ℕ, ◌+◌, ◌<◌, ◌≤◌}
use native.Mathlib.Omega.{arith}
use lib.ListN.{length, drop, length-drop}
use Rattle.rules.specs.declared.Rules.{Rules}
use Rattle.base.proofs.Order.{le_or_lt}
use Rattle.line.specs.Lines.{feeds, reach}
use Rattle.line.specs.Parts.{LineStart}
use Rattle.line.proofs.Parts.{reach_starts, line_start_later}
use Rattle.line.proofs.Reach.{reach_le, reach_all, reach_least}
use Rattle.salvaging.specs.Stretch.{Sound, Resumes, is_sound, stretch_end}
use Rattle.salvaging.proofs.Stretches.{sound_exactly, sound_inside, stretch_is}

-- from a place inside the text, none up to `at` will do
pub record Seeking (ρ : Rules) (s : List ℕ) (from at : ℕ) : Type 0 where
  pub begun : from ≤ at
  pub inside : from < length s
  pub within : at ≤ length s
  pub none : (p : ℕ) → from < p → p ≤ at → Resumes ρ s p → ⊥

module _ (ρ : Rules) (s : List ℕ) (from : ℕ) where
  pub seeking_first : from < length s → Seeking ρ s from from
  seeking_first l = record { begun = omega arith; inside = l; within = omega arith; none = λ p a b r. omega arith }

  -- the text's end
  pub seeking_all : {at : ℕ} → Seeking ρ s from at → length s ≤ at → at ≡ stretch_end ρ s from
  seeking_all {at} k l =
      stretch_is ρ s from at record { later = omega (arith, k.inside); within = k.within; passed = λ p a b r. k.none p a (omega arith) r; ends = inr (omega (arith, k.within)) }

  -- one line further
  module _ {at next : ℕ} (k : Seeking ρ s from at) (l : at < length s) (e : next ≡ at + reach (drop at s) 1) where
    pub seeking_further : (at < next) × (next ≤ length s)
    seeking_further = (⊎_elim some none (le_or_lt 1 (feeds (drop at s))), omega (arith, reach_le (drop at s) 1, length-drop at s))
      where
        some : 1 ≤ feeds (drop at s) → at < next
        some h = omega (arith, reach_least (drop at s) 1 h)

        none : feeds (drop at s) < 1 → at < next
        none h = omega (arith, reach_all (drop at s) 1 h, length-drop at s)

    -- between the two no line begins
    between : (p : ℕ) → from < p → p < next → Resumes ρ s p → ⊥
    between p a b r = ⊎_elim (λ (m : p ≤ at). k.none p a m r) (λ (m : at < p). omega (arith, line_start_later s at p r.line m)) (le_or_lt p at)

    starts : Sound ρ s next → LineStart s next
    starts h = ⊎_elim some none (le_or_lt 1 (feeds (drop at s)))
      where
        some : 1 ≤ feeds (drop at s) → LineStart s next
        some m = subst (LineStart s) (sym e) (reach_starts s at 1 (omega arith) m)

        none : feeds (drop at s) < 1 → LineStart s next
        none m = absurd (omega (arith, reach_all (drop at s) 1 m, length-drop at s, sound_inside ρ s next h))

    pub seeking_found : is_sound ρ s next ≡ true → next ≡ stretch_end ρ s from
    seeking_found t =
        let h = (sound_exactly ρ s next).0 t in
        stretch_is ρ s from next record {
          later = omega (arith, k.begun, seeking_further.0);
          within = seeking_further.1;
          passed = between;
          ends = inl record { line = starts h; sound = h };
        }

    pub seeking_more : is_sound ρ s next ≡ false → Seeking ρ s from next
    seeking_more t =
        record {
          begun = omega (arith, k.begun, seeking_further.0);
          inside = k.inside;
          within = seeking_further.1;
          none = λ p a b r. ⊎_elim (λ (m : next ≤ p). here p (omega arith) r) (λ (m : p < next). between p a m r) (le_or_lt next p);
        }
      where
        here : (p : ℕ) → p ≡ next → Resumes ρ s p → ⊥
        here p f r =
            let u = (sound_exactly ρ s next).1 (subst (Sound ρ s) f r.sound) in
            let z : ◌≡◌ {A = ℕ} 0 1 = cc in
            omega arith
