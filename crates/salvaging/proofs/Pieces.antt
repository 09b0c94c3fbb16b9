-- The pieces of a text: which one begins at a place, where it ends, those behind it; an induction piece by piece; and that the list is what the
-- rule says, and nothing else is.
-- Assumes nothing.
use Rattle.std.specs.Prelude.{Option, Some, None}
use mathlib.Core.Path.{◌≡◌, refl, sym, ◌∙◌, ap, subst}
use mathlib.Core.List.{List, [], ◌∷◌}
use mathlib.Core.Logic.{◌⊎◌, ◌↔◌, inl, inr, ⊎_elim}
use Prim.Native.Nat.{ℕ, zero, suc, ◌+◌, ◌-◌, ◌<◌, ◌≤◌}
use native.Mathlib.Omega.{arith}
use borrow.Author.Tests.{lt-ltb, le-ltb}
use lib.ListN.{length}
use Rattle.rules.specs.declared.Rules.{Rules}
use Rattle.base.proofs.Order.{le_or_lt}
use Rattle.count.specs.Rules.{ruling_of}
use Rattle.place.specs.declared.Placing.{Placing}
use Rattle.place.specs.declared.Placing.TheVariants as P
use Rattle.place.specs.Due.{RefusedFor, beyond, text_end, few_for_index, few_for_data, bad_index, bad_release, fills_vacant}
use Rattle.place.specs.Growth.{number_at}
use Rattle.place.specs.Numbered.{placing_reply}
use Rattle.place.specs.Placing.{Located, located, refused, locate, ruled_at, placing_by, placing_of}
use Rattle.place.specs.Walk.{IsRecord}
use Rattle.place.proofs.Due.{refused_due, first_due}
use Rattle.place.proofs.Placed.{located_is, located_range, located_long}
use Rattle.place.proofs.Steps.{locate_end}
use Rattle.place.proofs.Stopped.{placed_record}
use Rattle.reply.specs.Refusals.{refusal_number}
use Rattle.reply.specs.declared.Refusal.{Refusal}
use Rattle.salvaging.specs.declared.Piece.{Piece}
use Rattle.salvaging.specs.declared.Piece.TheVariants.{Copied, LeftOut}
use Rattle.salvaging.specs.Pieces.{piece_end, PlacedUpTo, Halts, Salvaged, ended, copied, left_out, piece_by, piece_at, pieces_within, pieces_from, pieces}
use Rattle.salvaging.specs.Stretch.{stretch_end}
use Rattle.salvaging.proofs.Stretches.{stretch_ends, stretch_is}

-- ---- the piece at a place

module _ (ρ : Rules) (s : List ℕ) (at : ℕ) where
  pub piece_of : {p : Placing} → placing_of ρ s at ≡ p → piece_by at (stretch_end ρ s at) p ≡ piece_at ρ s at
  unfolding piece_at
  piece_of e = rw e refl

  -- a record's next place is not before it
  pub placed_after : (n : ℕ) → placing_of ρ s at ≡ P.Placed n → at ≤ n
  placed_after n e = omega (arith, ((first_due ρ s at (P.Placed n)).0 e).lines.next)

  pub broken_after : (g n : ℕ) → placing_of ρ s at ≡ P.BrokenRule g n → at ≤ n
  broken_after g n e = omega (arith, ((first_due ρ s at (P.BrokenRule g n)).0 e).lines.next)

  -- a record
  pub piece_located : (n : ℕ) (ns : List ℕ) → locate ρ s at ≡ located n ns → piece_at ρ s at ≡ Copied at (n - at)
  unfolding piece_at placing_of
  piece_located n ns e = rw e (by (ruling_of ns))
    where
      by : (r : Option ℕ) → piece_by at (stretch_end ρ s at) (ruled_at n r) ≡ Copied at (n - at)
      by None = refl
      by (Some g) = refl

  -- a stretch
  pub piece_refused : (r : Refusal) → locate ρ s at ≡ refused r → piece_at ρ s at ≡ LeftOut at (stretch_end ρ s at - at)
  unfolding piece_at placing_of
  piece_refused r e = rw e refl

  -- it lies in the text, and is not empty
  pub piece_end_lem : at < length s → (at < piece_end (piece_at ρ s at)) × (piece_end (piece_at ρ s at) ≤ length s)
  piece_end_lem l = by (locate ρ s at) refl
    where
      by : (x : Located) → locate ρ s at ≡ x → (at < piece_end (piece_at ρ s at)) × (piece_end (piece_at ρ s at) ≤ length s)
      by (located n ns) e =
          let long = located_long ρ s at n ns e in
          rw (piece_located n ns e) (omega arith, omega (arith, located_range ρ s at n ns e))
      by (refused r) e =
          let h = stretch_ends ρ s at l in
          rw (piece_refused r e) (omega (arith, h.later), omega (arith, h.later, h.within))

-- ---- those from a place on

module _ (ρ : Rules) (s : List ℕ) where
  within_end : (most at : ℕ) → length s ≤ at → pieces_within ρ s most at ≡ []
  unfolding pieces_within
  within_end zero at l = refl
  within_end (suc most) at l = rw (le-ltb at (length s) l) refl

  within_more : (most at : ℕ) → at < length s → pieces_within ρ s (suc most) at ≡ piece_at ρ s at ∷ pieces_within ρ s most (piece_end (piece_at ρ s at))
  unfolding pieces_within
  within_more most at l = rw (lt-ltb at (length s) l) refl

  -- as many as bytes are left are enough
  within_enough : (k m at : ℕ) → length s ≤ at + k → length s ≤ at + m → pieces_within ρ s k at ≡ pieces_within ρ s m at
  within_enough zero m at a b = within_end 0 at (omega arith) ∙ sym (within_end m at (omega arith))
  within_enough (suc k) zero at a b = within_end (suc k) at (omega arith) ∙ sym (within_end 0 at (omega arith))
  within_enough (suc k) (suc m) at a b = ⊎_elim done (more (within_enough k m)) (le_or_lt (length s) at)
    where
      done : length s ≤ at → pieces_within ρ s (suc k) at ≡ pieces_within ρ s (suc m) at
      done l = within_end (suc k) at l ∙ sym (within_end (suc m) at l)

      more : ((p : ℕ) → length s ≤ p + k → length s ≤ p + m → pieces_within ρ s k p ≡ pieces_within ρ s m p) → at < length s
          → pieces_within ρ s (suc k) at ≡ pieces_within ρ s (suc m) at
      more rest l =
          let e = (piece_end_lem ρ s at l).0 in
          within_more k at l
          ∙ ap (λ ps. piece_at ρ s at ∷ ps) (rest (piece_end (piece_at ρ s at)) (omega arith) (omega arith))
          ∙ sym (within_more m at l)

  pub pieces_end : (at : ℕ) → length s ≤ at → pieces_from ρ s at ≡ []
  unfolding pieces_from
  pieces_end at l = within_end (length s - at) at l

  pub pieces_more : (at : ℕ) → at < length s → pieces_from ρ s at ≡ piece_at ρ s at ∷ pieces_from ρ s (piece_end (piece_at ρ s at))
  unfolding pieces_from
  pieces_more at l =
      let k = length s - suc at in
      let e = (piece_end_lem ρ s at l).0 in
      let n : length s - at ≡ suc k = omega arith in
      ap (λ m. pieces_within ρ s m at) n
      ∙ within_more k at l
      ∙ ap (λ ps. piece_at ρ s at ∷ ps) (within_enough k (length s - piece_end (piece_at ρ s at)) (piece_end (piece_at ρ s at)) (omega arith) (omega arith))

  pub pieces_copied : (at n : ℕ) (ns : List ℕ) → locate ρ s at ≡ located n ns → pieces_from ρ s at ≡ Copied at (n - at) ∷ pieces_from ρ s n
  pieces_copied at n ns e =
      let p = piece_located ρ s at n ns e in
      let long = located_long ρ s at n ns e in
      pieces_more at (located_is ρ s at n ns e).inside ∙ rw p (ap (λ m. Copied at (n - at) ∷ pieces_from ρ s m) (omega arith))

  pub pieces_left : (at : ℕ) (r : Refusal) → at < length s → locate ρ s at ≡ refused r → pieces_from ρ s at ≡ LeftOut at (stretch_end ρ s at - at) ∷ pieces_from ρ s (stretch_end ρ s at)
  pieces_left at r l e =
      let p = piece_refused ρ s at r e in
      let h = (stretch_ends ρ s at l).later in
      pieces_more at l ∙ rw p (ap (λ m. LeftOut at (stretch_end ρ s at - at) ∷ pieces_from ρ s m) (omega arith))

  -- piece by piece, from the text's end back
  pub record Piecewise (P : ℕ → Type 0) : Type 0 where
    pub at_end : P (length s)
    pub at_record : (at n : ℕ) (ns : List ℕ) → locate ρ s at ≡ located n ns → P n → P at
    pub at_stretch : (at : ℕ) (r : Refusal) → at < length s → locate ρ s at ≡ refused r → P (stretch_end ρ s at) → P at

  pub piecewise : (P : ℕ → Type 0) → Piecewise P → (at : ℕ) → at ≤ length s → P at
  piecewise P w at l = go (length s) at l (omega arith)
    where
      go : (k at : ℕ) → at ≤ length s → length s ≤ at + k → P at
      go zero at l enough = let e : length s ≡ at = omega arith in subst P e w.at_end
      go (suc k) at l enough = ⊎_elim done (λ m. more m (locate ρ s at) refl (go k)) (le_or_lt (length s) at)
        where
          done : length s ≤ at → P at
          done m = let e : length s ≡ at = omega arith in subst P e w.at_end

          more : at < length s → (x : Located) → locate ρ s at ≡ x → ((p : ℕ) → p ≤ length s → length s ≤ p + k → P p) → P at
          more m (located n ns) e rest =
              let long = located_long ρ s at n ns e in
              w.at_record at n ns e (rest n (located_range ρ s at n ns e) (omega arith))
          more m (refused r) e rest =
              let h = stretch_ends ρ s at m in
              let later = h.later in
              w.at_stretch at r m e (rest (stretch_end ρ s at) h.within (omega arith))

-- ---- the list is what the rule says

module _ (ρ : Rules) (s : List ℕ) where
  stands_next : {at next : ℕ} → PlacedUpTo ρ s at next → IsRecord ρ s at
  stands_next {at} h = (placed_record ρ s at).0 h.placed

  ruled_next : (n : ℕ) (r : Option ℕ) → (placing_reply (ruled_at n r)).next ≡ n
  ruled_next n None = refl
  ruled_next n (Some g) = refl

  next_of : (at n : ℕ) (ns : List ℕ) → locate ρ s at ≡ located n ns → (placing_reply (placing_of ρ s at)).next ≡ n
  unfolding placing_of
  next_of at n ns e = rw e (ruled_next n (ruling_of ns))

  located_stands : (at n : ℕ) (ns : List ℕ) → locate ρ s at ≡ located n ns → PlacedUpTo ρ s at n
  located_stands at n ns e = record { placed = (placed_record ρ s at).1 record { next = n; ns = ns; is = e }; next_is = sym (next_of at n ns e) }

  pub number_of : (at : ℕ) (r : Refusal) → locate ρ s at ≡ refused r → number_at ρ s at ≡ refusal_number r
  unfolding placing_of
  number_of at r e = ap (λ x. (placing_reply (placing_by x)).number) e

  -- what is refused inside the text is 3, 4, 5 or 6
  refused_halts : (at : ℕ) (r : Refusal) → at < length s → locate ρ s at ≡ refused r → Halts ρ s at
  refused_halts at r l e = by r (refused_due ρ s at r e) (number_of at r e)
    where
      by : (q : Refusal) → RefusedFor ρ s at q → number_at ρ s at ≡ refusal_number q → Halts ρ s at
      by q (beyond d) n = absurd (omega arith)
      by q (text_end d) n = absurd (omega arith)
      by q (few_for_index d) n = inl n
      by q (few_for_data d) n = inl n
      by q (bad_index d) n = inr (inl n)
      by q (bad_release d) n = inr (inr (inl n))
      by q (fills_vacant g d) n = inr (inr (inr n))

  -- and 3, 4, 5 or 6 is refused
  pub halts_refused : (at : ℕ) → Halts ρ s at → (r : Refusal) × (locate ρ s at ≡ refused r)
  halts_refused at h = by (locate ρ s at) refl
    where
      low : (n : ℕ) → (n ≡ 3) ⊎ ((n ≡ 4) ⊎ ((n ≡ 5) ⊎ (n ≡ 6))) → (3 ≤ n) × (n ≤ 6)
      low n (inl e) = (omega arith, omega arith)
      low n (inr (inl e)) = (omega arith, omega arith)
      low n (inr (inr (inl e))) = (omega arith, omega arith)
      low n (inr (inr (inr e))) = (omega arith, omega arith)

      by : (x : Located) → locate ρ s at ≡ x → (r : Refusal) × (locate ρ s at ≡ refused r)
      by (located n ns) e =
          let b = low (number_at ρ s at) h in
          ⊎_elim
          (λ (z : number_at ρ s at ≡ 0). absurd (omega (arith, b.0)))
          (λ (z : number_at ρ s at ≡ 7). absurd (omega (arith, b.1)))
          ((placed_record ρ s at).1 record { next = n; ns = ns; is = e })
      by (refused r) e = (r, e)

  -- 1 is the text's end
  pub end_number : (at : ℕ) → number_at ρ s at ≡ 1 → at ≡ length s
  end_number at n = by (locate ρ s at) refl
    where
      due : (q : Refusal) → RefusedFor ρ s at q → refusal_number q ≡ 1 → at ≡ length s
      due q (beyond d) e = absurd (omega arith)
      due q (text_end d) e = sym d
      due q (few_for_index d) e = absurd (omega arith)
      due q (few_for_data d) e = absurd (omega arith)
      due q (bad_index d) e = absurd (omega arith)
      due q (bad_release d) e = absurd (omega arith)
      due q (fills_vacant g d) e = absurd (omega arith)

      by : (x : Located) → locate ρ s at ≡ x → at ≡ length s
      by (located n' ns) e =
          ⊎_elim
          (λ (z : number_at ρ s at ≡ 0). absurd (omega arith))
          (λ (z : number_at ρ s at ≡ 7). absurd (omega arith))
          ((placed_record ρ s at).1 record { next = n'; ns = ns; is = e })
      by (refused r) e = due r (refused_due ρ s at r e) (sym (number_of at r e) ∙ n)

  pieces_salvaged : (at : ℕ) → at ≤ length s → Salvaged ρ s at (pieces_from ρ s at)
  pieces_salvaged = piecewise ρ s (λ at. Salvaged ρ s at (pieces_from ρ s at)) record {
    at_end = rw (pieces_end ρ s (length s) (omega arith)) (ended (number_of (length s) _ (locate_end ρ s (length s) refl)));
    at_record = λ at n ns e h. rw (pieces_copied ρ s at n ns e) (copied n (located_stands at n ns e) h);
    at_stretch = λ at r l e h. rw (pieces_left ρ s at r l e) (left_out (stretch_end ρ s at) (refused_halts at r l e) (stretch_ends ρ s at l) h);
  }

  salvaged_pieces : {at : ℕ} {ps : List Piece} → Salvaged ρ s at ps → pieces_from ρ s at ≡ ps
  salvaged_pieces (ended {at} n) = pieces_end ρ s at (omega (arith, end_number at n))
  salvaged_pieces (copied {at} next h rest) =
      let r = stands_next h in
      let n : next ≡ r.next = h.next_is ∙ next_of at r.next r.ns r.is in
      pieces_copied ρ s at r.next r.ns r.is ∙ rw (← n) (ap (λ qs. Copied at (next - at) ∷ qs) (salvaged_pieces rest))
  salvaged_pieces (left_out {at} end h is rest) =
      let r = halts_refused at h in
      pieces_left ρ s at r.0 (omega (arith, is.later, is.within)) r.1
      ∙ rw (← stretch_is ρ s at end is) (ap (λ qs. LeftOut at (end - at) ∷ qs) (salvaged_pieces rest))

  pub salvaged_exactly : (ps : List Piece) → pieces ρ s ≡ ps ↔ Salvaged ρ s 0 ps
  salvaged_exactly ps = (λ e. subst (Salvaged ρ s 0) e (pieces_salvaged 0 (omega arith)), salvaged_pieces)
