-- Two texts with their lines at the same places that agree on the index lines of the walk's records: each record is at the same place, with
-- the same answer and the same counts, and the walk stops at the same place with the same answer.
-- Assumes nothing.
use Rattle.std.specs.Prelude.{Result, Ok, Err}
use mathlib.Core.Path.{◌≡◌, refl, sym, ◌∙◌, ap}
use mathlib.Core.Bool.{Bool, true, false, cond}
use mathlib.Core.List.{List}
use Prim.Native.Nat.{ℕ, zero, suc, ◌+◌, ◌-◌}
use native.Mathlib.Omega.{arith}
use borrow.Author.Tests.{leb-true}
use lib.Dec.{leb, ltb, eqb}
use lib.ListN.{length, drop}
use Rattle.rules.specs.declared.Rules.{Rules}
use Rattle.base.specs.Part.{part}
use Rattle.base.specs.Agree.{Agree, Misses}
use Rattle.base.proofs.Agree.{part_agree}
use Rattle.line.specs.Lines.{feeds, reach, lines}
use Rattle.line.specs.Texts.{SameLines}
use Rattle.line.proofs.Texts.{feeds_from, reach_from}
use Rattle.count.specs.Tally.{record_lines}
use Rattle.count.specs.Rules.{release_of}
use Rattle.reply.specs.declared.Refusal.{Refusal}
use Rattle.reply.specs.declared.Refusal.TheVariants.{End, Beyond, TooFewLines}
use Rattle.place.specs.Index.{Indexed, counts, misformed, read_index}
use Rattle.place.specs.Placing.{refused, locate, locate_index, locate_release}
use Rattle.place.specs.Parts.{start}
use Rattle.place.specs.Walk.{onward, spot, Stops}
use Rattle.place.proofs.Local.{index_local}

-- ---- at one place

module _ (ρ : Rules) (s t : List ℕ) (h : SameLines s t) where
  same_release : (at : ℕ) (ns : List ℕ) (r : Result (Unit {0}) Refusal) → locate_release ρ (drop at s) at ns r ≡ locate_release ρ (drop at t) at ns r
  same_release at ns (Ok five) = rw (feeds_from s t at h, reach_from s t at (record_lines ρ ns) h)
  same_release at ns (Err r) = refl

  same_index : (at : ℕ) (q : Indexed) → locate_index ρ (drop at s) at q ≡ locate_index ρ (drop at t) at q
  same_index at (counts ns) = same_release at ns (release_of ns)
  same_index at misformed = refl

  pub locate_same : (at : ℕ) → lines 2 (drop at s) ≡ lines 2 (drop at t) → locate ρ s at ≡ locate ρ t at
  unfolding locate
  locate_same at e =
      rw (← h.long, ← feeds_from s t at h) (by (ltb (length s) at) (eqb (length s) at) (leb 2 (feeds (drop at s))) refl)
    where
      by : (a b c : Bool) → leb 2 (feeds (drop at s)) ≡ c
          → cond a (refused Beyond) (cond b (refused End) (cond c (locate_index ρ (drop at s) at (read_index ρ (drop at s))) (refused TooFewLines))) ≡ cond a (refused Beyond)
          (cond b (refused End) (cond c (locate_index ρ (drop at t) at (read_index ρ (drop at t))) (refused TooFewLines)))
      by true b c u = refl
      by false true c u = refl
      by false false true u =
          ap (locate_index ρ (drop at s) at) (index_local ρ (drop at s) (drop at t) (leb-true 2 (feeds (drop at s)) u) e)
          ∙ same_index at (read_index ρ (drop at t))
      by false false false u = refl

  -- the two index lines are the same where the texts agree there
  head_same : {D : ℕ → Type 0} (at : ℕ) → Agree D s t → Misses D at (at + reach (drop at s) 2) → lines 2 (drop at s) ≡ lines 2 (drop at t)
  head_same at a m =
      let n = reach (drop at s) 2 in
      let d : at + n - at ≡ n = omega arith in
      let e : part at (at + n) s ≡ part at (at + n) t = part_agree s t at (at + n) a m in
      (rw d at e) ∙ rw (reach_from s t at 2 h)

  -- places of groups depend on line feeds alone
  pub start_same : (at : ℕ) (ns : List ℕ) (g : ℕ) → start ρ s at ns g ≡ start ρ t at ns g
  unfolding start
  start_same at ns g = rw (reach_from s t at _ h)

  -- ---- along the walk

  -- where the index of record k of the walk ends
  abbrev pub head_end : ℕ → ℕ
  head_end k = spot ρ s k + reach (drop (spot ρ s k) s) 2

  module _ {D : ℕ → Type 0} (a : Agree D s t) (m : (k : ℕ) → Misses D (spot ρ s k) (head_end k)) where
    pub same_located : (k : ℕ) → locate ρ s (spot ρ s k) ≡ locate ρ t (spot ρ s k)
    same_located k = locate_same (spot ρ s k) (head_same (spot ρ s k) a (m k))

    pub same_spot : (k : ℕ) → spot ρ s k ≡ spot ρ t k
    unfolding spot
    same_spot zero = refl
    same_spot (suc k) = ap (onward (spot ρ s k)) (same_located k) ∙ ap (λ p. onward p (locate ρ t p)) (same_spot k)

    pub same_answer : (k : ℕ) → locate ρ s (spot ρ s k) ≡ locate ρ t (spot ρ t k)
    same_answer k = same_located k ∙ ap (locate ρ t) (same_spot k)

    pub same_stops : (many : ℕ) (p : Refusal) → Stops ρ s many p → Stops ρ t many p
    same_stops many p w =
        record {
          each = λ k l. let r = w.each k l in record { next = r.next; ns = r.ns; is = sym (same_answer k) ∙ r.is };
          last = sym (same_answer many) ∙ w.last;
        }
