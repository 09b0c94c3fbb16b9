-- Where a stretch ends: what is computed is what the rule says, and nothing else is.
-- Assumes nothing.
use Rattle.std.specs.Prelude.{Ok, Err}
use mathlib.Core.Path.{◌≡◌, refl, ◌∙◌, subst}
use mathlib.Core.Bool.{Bool, true, false, cond, ◌&&◌}
use mathlib.Core.List.{List}
use mathlib.Core.Logic.{◌⊎◌, ◌↔◌, inl, inr, ⊎_elim}
use Prim.Native.Nat.{ℕ, zero, suc, ◌+◌, ◌-◌, ◌<◌, ◌≤◌}
use native.Mathlib.Omega.{arith}
use borrow.Author.Tests.{lt-ltb, le-ltb, eq-eqb, ne_eqb}
use lib.ListN.{length}
use Rattle.rules.specs.declared.Rules.{Rules}
use Rattle.base.specs.Pieces.{done, bad}
use Rattle.base.proofs.Choice.{and_first, and_second}
use Rattle.base.proofs.Order.{le_or_lt}
use Rattle.line.specs.Parts.{begins_line}
use Rattle.line.proofs.Parts.{begins_line_lem}
use Rattle.place.specs.declared.Placing.{Placing}
use Rattle.place.specs.declared.Placing.TheVariants as P
use Rattle.place.specs.Placing.{placing_of}
use Rattle.place.proofs.Placed.{located_is}
use Rattle.place.proofs.Zero.{is_placed_lem}
use Rattle.reading.specs.Read.{Cells}
use Rattle.reply.specs.declared.Refusal.TheVariants.{End, Beyond}
use Rattle.whole.specs.Due.{GroupDone}
use Rattle.whole.specs.Turn.{group_read}
use Rattle.salvaging.specs.Stretch.{Sound, Resumes, IsStretchEnd, is_zero, is_read, first_that, is_sound, resumes, stretch_end, stretch_of}

-- ---- the tests

record IsZero (p : Placing) : Type 0 where
  next : ℕ
  is : p ≡ P.Placed next

zero_is : (p : Placing) → is_zero p ≡ true → IsZero p
zero_is (P.Placed n) e = record { next = n; is = refl }
zero_is (P.BrokenRule g n) e = let z : ◌≡◌ {A = ℕ} 0 1 = cc in absurd (omega arith)
zero_is (P.Refused r) e = let z : ◌≡◌ {A = ℕ} 0 1 = cc in absurd (omega arith)

module _ (ρ : Rules) (s : List ℕ) (at : ℕ) where
  read_is : (g : ℕ) → is_read (group_read ρ s at g) ≡ true → GroupDone ρ s at g
  read_is g e = by (group_read ρ s at g) refl e
    where
      by : (c : Cells) → group_read ρ s at g ≡ c → is_read c ≡ true → GroupDone ρ s at g
      by (done cs) u e = record { cells = cs; reads = u }
      by (bad r) u e = let z : ◌≡◌ {A = ℕ} 0 1 = cc in absurd (omega arith)

  pub sound_exactly : is_sound ρ s at ≡ true ↔ Sound ρ s at
  unfolding is_sound
  sound_exactly = (
    λ e.
        let one = is_read (group_read ρ s at 1) in
        let three = is_read (group_read ρ s at 3) in
        let four = is_read (group_read ρ s at 4) in
        let groups = and_second (is_zero (placing_of ρ s at)) (one && (three && four)) e in
        let later = and_second one (three && four) groups in
        let p = zero_is (placing_of ρ s at) (and_first (is_zero (placing_of ρ s at)) (one && (three && four)) e) in
        record {
          next = p.next;
          placed = p.is;
          constants = read_is 1 (and_first one (three && four) groups);
          date = read_is 3 (and_first three four later);
          characteristics = read_is 4 (and_second three four later);
        },
    λ h. rw (h.placed, h.constants.reads, h.date.reads, h.characteristics.reads) refl,
  )

  pub resumes_exactly : resumes ρ s at ≡ true ↔ Resumes ρ s at
  unfolding resumes
  resumes_exactly = (
    λ e. record { line = (begins_line_lem s at).0 (and_first (begins_line s at) (is_sound ρ s at) e); sound = sound_exactly.0 (and_second (begins_line s at) (is_sound ρ s at) e) },
    λ h. rw ((begins_line_lem s at).1 h.line, sound_exactly.1 h.sound) refl,
  )

  -- a record stands inside the text
  pub sound_inside : Sound ρ s at → at < length s
  sound_inside h = (located_is ρ s at h.next _ (is_placed_lem ρ s at h.next h.placed).located_at).inside

-- ---- the first that passes

record IsFirst (test : ℕ → Bool) (at last end : ℕ) : Type 0 where
  from : at ≤ end
  to : end ≤ last
  none : (p : ℕ) → at ≤ p → p < end → test p ≡ true → ⊥
  found : (test end ≡ true) ⊎ (end ≡ last)

first_is : (test : ℕ → Bool) (left at : ℕ) → IsFirst test at (at + left) (first_that test left at)
unfolding first_that
first_is test zero at = record { from = omega arith; to = omega arith; none = λ p a b e. omega arith; found = inr (omega arith) }
first_is test (suc left) at = by (test at) refl (first_is test left (suc at))
  where
    by : (b : Bool) → test at ≡ b → IsFirst test (suc at) (suc at + left) (first_that test left (suc at)) → IsFirst test at (at + suc left) (cond b at (first_that test left (suc at)))
    by true e h = record { from = omega arith; to = omega arith; none = λ p a b u. omega arith; found = inl e }
    by false e h =
        record {
          from = omega (arith, h.from);
          to = omega (arith, h.to);
          none = λ p a b u. ⊎_elim (λ (l : suc at ≤ p). h.none p l b u) (λ (l : p < suc at). here p (omega arith) u) (le_or_lt (suc at) p);
          found = ⊎_elim (λ f. inl f) (λ f. inr (f ∙ omega arith)) h.found;
        }
      where
        here : (p : ℕ) → p ≡ at → test p ≡ true → ⊥
        here p f u = let v : test at ≡ true = subst (λ q. test q ≡ true) f u in let z : ◌≡◌ {A = ℕ} 0 1 = cc in omega arith

-- ---- where it ends

module _ (ρ : Rules) (s : List ℕ) (at : ℕ) where
  pub stretch_ends : at < length s → IsStretchEnd ρ s at (stretch_end ρ s at)
  unfolding stretch_end
  stretch_ends l =
      let h = first_is (resumes ρ s) (length s - suc at) (suc at) in
      let all : suc at + (length s - suc at) ≡ length s = omega arith in
      record {
        later = h.from;
        within = omega (arith, h.to);
        passed = λ p a b r. h.none p a b ((resumes_exactly ρ s p).1 r);
        ends = ⊎_elim (λ e. inl ((resumes_exactly ρ s _).0 e)) (λ e. inr (e ∙ all)) h.found;
      }

  -- there is one such place
  earlier : (a b : ℕ) → IsStretchEnd ρ s at a → IsStretchEnd ρ s at b → a < b → ⊥
  earlier a b h k l = ⊎_elim (λ r. k.passed a h.later l r) (λ (e : a ≡ length s). omega (arith, k.within)) h.ends

  pub stretch_one : (a b : ℕ) → IsStretchEnd ρ s at a → IsStretchEnd ρ s at b → a ≡ b
  stretch_one a b h k =
      ⊎_elim (λ (l : a ≤ b). ⊎_elim (λ (m : b ≤ a). omega arith) (λ (m : a < b). absurd (earlier a b h k m)) (le_or_lt b a)) (λ (l : b < a). absurd (earlier b a k h l)) (le_or_lt a b)

  pub stretch_is : (end : ℕ) → IsStretchEnd ρ s at end → end ≡ stretch_end ρ s at
  stretch_is end h = stretch_one end (stretch_end ρ s at) h (stretch_ends (omega (arith, h.later, h.within)))

  -- ---- the answer

  pub stretch_beyond : length s < at → Err Beyond ≡ stretch_of ρ s at
  unfolding stretch_of
  stretch_beyond l = rw (lt-ltb (length s) at l) refl

  pub stretch_at_end : length s ≡ at → Err End ≡ stretch_of ρ s at
  unfolding stretch_of
  stretch_at_end e = rw (le-ltb (length s) at (omega arith), eq-eqb (length s) at e) refl

  pub stretch_inside : at < length s → Ok (stretch_end ρ s at) ≡ stretch_of ρ s at
  unfolding stretch_of
  stretch_inside l = rw (le-ltb (length s) at (omega arith), ne_eqb (length s) at (λ e. omega arith)) refl
