-- What stands behind other bytes is salvaged as it is by itself: the walk goes on from the same places, so many bytes further on.
-- Assumes nothing.
use mathlib.Core.Path.{◌≡◌, refl, sym, ◌∙◌, ap, ap₂, subst}
use mathlib.Core.List.{List, [], ◌∷◌, ◌++◌, map, flat_map}
use mathlib.Core.Logic.{◌↔◌, inl, inr, ⊎_elim}
use Prim.Native.Nat.{ℕ, suc, ◌+◌, ◌-◌, ◌<◌, ◌≤◌}
use native.Mathlib.Omega.{arith}
use lib.ListN.{length, take, drop, get_or, length-append}
use lib.Seq.{drop-append-add, get_or-append-add}
use Rattle.rules.specs.declared.Rules.{Rules}
use Rattle.line.specs.Alike.{Alike, AlikeFrom}
use Rattle.line.specs.Parts.{LineStart, text_start, behind_feed}
use Rattle.line.proofs.Alike.{alike_refl}
use Rattle.place.specs.declared.Placing.{Placing}
use Rattle.place.specs.Alike.{SamePlacing, both_placed, both_broken, both_refused}
use Rattle.place.specs.Placing.{located, locate, placing_of}
use Rattle.place.proofs.Alike.{alike_placing, alike_refused}
use Rattle.place.proofs.Alone.{located_moved}
use Rattle.place.proofs.Placed.{located_long}
use Rattle.whole.proofs.Alike.{alike_basis}
use Rattle.whole.proofs.Rests.{same_reads}
use Rattle.salvaging.specs.declared.Piece.{Piece}
use Rattle.salvaging.specs.declared.Piece.TheVariants.{Copied, LeftOut}
use Rattle.salvaging.specs.Confined.{further}
use Rattle.salvaging.specs.Pieces.{pieces_from, copy_of}
use Rattle.salvaging.specs.Stretch.{Sound, Resumes, IsStretchEnd, is_zero, is_sound, stretch_end}
use Rattle.salvaging.proofs.Pieces.{pieces_end, pieces_copied, pieces_left, piecewise}
use Rattle.salvaging.proofs.Stretches.{sound_exactly, stretch_ends, stretch_is}

-- ---- in texts whose lines have the same contents from two places on, both are worth going on from or none is

zero_alike : {ρ : Rules} {s t : List ℕ} (a b : Placing) → SamePlacing ρ s t a b → is_zero a ≡ is_zero b
zero_alike a b (both_placed n m f) = refl
zero_alike a b (both_broken g n m f) = refl
zero_alike a b (both_refused r) = refl

sound_alike : (ρ : Rules) (s : List ℕ) (p : ℕ) (t : List ℕ) (q : ℕ) → AlikeFrom ρ s p t q → is_sound ρ s p ≡ is_sound ρ t q
unfolding is_sound
sound_alike ρ s p t q h =
    rw (
      zero_alike (placing_of ρ s p) (placing_of ρ t q) (alike_placing ρ s p t q h),
      ap (λ read. read 1) (same_reads ρ s p t q (alike_basis ρ s p t q h)),
      ap (λ read. read 3) (same_reads ρ s p t q (alike_basis ρ s p t q h)),
      ap (λ read. read 4) (same_reads ρ s p t q (alike_basis ρ s p t q h)),
    ) refl

-- ---- b, behind other bytes

module _ (ρ : Rules) (a b : List ℕ) where
  abbrev t : List ℕ
  t = a ++ b

  abbrev m : ℕ
  m = length a

  same_bytes_lem : (p : ℕ) → drop (m + p) t ≡ drop p b
  same_bytes_lem p = drop-append-add a b p

  alike_here : (p : ℕ) → p ≤ length b → AlikeFrom ρ b p t (m + p)
  alike_here p l =
      record { first_within = l; second_within = omega (arith, length-append a b); alike = subst (Alike ρ (drop p b)) (sym (same_bytes_lem p)) (alike_refl ρ (drop p b)) }

  sound_moved : (p : ℕ) → p ≤ length b → Sound ρ b p ↔ Sound ρ t (m + p)
  sound_moved p l =
      let e = sound_alike ρ b p t (m + p) (alike_here p l) in (
        λ h. (sound_exactly ρ t (m + p)).0 (sym e ∙ (sound_exactly ρ b p).1 h),
        λ h. (sound_exactly ρ b p).0 (e ∙ (sound_exactly ρ t (m + p)).1 h),
      )

  line_there : (p : ℕ) → 0 < p → LineStart b p → LineStart t (m + p)
  line_there p l text_start = absurd (omega arith)
  line_there p l (behind_feed i h e) =
      let to : suc (m + i) ≡ m + suc i = omega arith in
      subst (LineStart t) to (behind_feed (m + i) (omega (arith, length-append a b)) (get_or-append-add a b i 0 ∙ e))

  line_back : (p q : ℕ) → 0 < p → q ≡ m + p → LineStart t q → LineStart b p
  line_back p q l f text_start = absurd (omega arith)
  line_back p q l f (behind_feed i h e) =
      let at : i ≡ m + (p - 1) = omega arith in
      let to : suc (p - 1) ≡ p = omega arith in
      subst (LineStart b) to (behind_feed (p - 1) (omega (arith, length-append a b)) (sym (get_or-append-add a b (p - 1) 0) ∙ ap (λ n. get_or t n 0) (sym at) ∙ e))

  resumes_there : (p : ℕ) → 0 < p → p ≤ length b → Resumes ρ b p → Resumes ρ t (m + p)
  resumes_there p l k r = record { line = line_there p l r.line; sound = (sound_moved p k).0 r.sound }

  resumes_back : (p : ℕ) → 0 < p → p ≤ length b → Resumes ρ t (m + p) → Resumes ρ b p
  resumes_back p l k r = record { line = line_back p (m + p) l refl r.line; sound = (sound_moved p k).1 r.sound }

  stretch_there : (p end : ℕ) → IsStretchEnd ρ b p end → IsStretchEnd ρ t (m + p) (m + end)
  stretch_there p end h =
      let later = h.later in
      let within = h.within in
      record {
        later = omega arith;
        within = omega (arith, length-append a b);
        passed = λ q l k r. let e : q ≡ m + (q - m) = omega arith in h.passed (q - m) (omega arith) (omega arith) (resumes_back (q - m) (omega arith) (omega arith) (subst (Resumes ρ t) e r));
        ends = ⊎_elim (λ r. inl (resumes_there end (omega arith) within r)) (λ (e : end ≡ length b). inr (omega (arith, length-append a b))) h.ends;
      }

  stretch_moved : (p : ℕ) → p < length b → stretch_end ρ t (m + p) ≡ m + stretch_end ρ b p
  stretch_moved p l = sym (stretch_is ρ t (m + p) (m + stretch_end ρ b p) (stretch_there p (stretch_end ρ b p) (stretch_ends ρ b p l)))

  pub pieces_moved : (p : ℕ) → p ≤ length b → pieces_from ρ t (m + p) ≡ map (further m) (pieces_from ρ b p)
  pieces_moved = piecewise ρ b (λ p. pieces_from ρ t (m + p) ≡ map (further m) (pieces_from ρ b p)) record {
    at_end = pieces_end ρ t (m + length b) (omega (arith, length-append a b)) ∙ sym (ap (map (further m)) (pieces_end ρ b (length b) (omega arith)));
    at_record = λ p n ns e h.
        let long = located_long ρ b p n ns e in
        let next : m + p + (n - p) ≡ m + n = omega arith in
        let size : m + n - (m + p) ≡ n - p = omega arith in
        let f : locate ρ t (m + p) ≡ located (m + n) ns = located_moved ρ b t p (m + p) (sym (same_bytes_lem p)) e ∙ ap (λ i. located i ns) next in
        pieces_copied ρ t (m + p) (m + n) ns f ∙ ap₂ (λ i ps. Copied (m + p) i ∷ ps) size h ∙ sym (ap (map (further m)) (pieces_copied ρ b p n ns e));
    at_stretch = λ p r l e h.
        let end = stretch_end ρ b p in
        let moved = stretch_moved p l in
        let later = (stretch_ends ρ b p l).later in
        let size : m + end - (m + p) ≡ end - p = omega arith in
        pieces_left ρ t (m + p) r (omega (arith, length-append a b)) (alike_refused ρ b p t (m + p) (alike_here p (omega arith)) e)
        ∙ ap (λ i. LeftOut (m + p) (i - (m + p)) ∷ pieces_from ρ t i) moved
        ∙ ap₂ (λ i ps. LeftOut (m + p) i ∷ ps) size h
        ∙ sym (ap (map (further m)) (pieces_left ρ b p r l e));
  }

  -- and so are the bytes that are copied
  pub copy_moved : (ps : List Piece) → flat_map (copy_of t) (map (further m) ps) ≡ flat_map (copy_of b) ps
  unfolding flat_map
  copy_moved [] = refl
  copy_moved (Copied p n ∷ ps) =
      let size : m + p + n - (m + p) ≡ p + n - p = omega arith in
      ap₂ ◌++◌ (ap₂ take size (same_bytes_lem p)) (copy_moved ps)
  copy_moved (LeftOut p n ∷ ps) = copy_moved ps
