-- R354: the pieces cover the text, no two stretches are neighbours, and the records of the plain walk are the first pieces.
-- Assumes nothing.
use mathlib.Core.Path.{◌≡◌, refl, sym, ◌∙◌, ap, ap₂, subst}
use mathlib.Core.List.{List, [], ◌∷◌, ◌++◌, map, flat_map, append_assoc, append-nil}
use mathlib.Core.Logic.{⊎_elim}
use Prim.Native.Nat.{ℕ, zero, suc, ◌+◌, ◌-◌, ◌<◌, ◌≤◌}
use native.Mathlib.Omega.{arith}
use lib.ListN.{length, take, drop, length-map, take-append-drop, drop_of_length-le}
use lib.Seq.{drop-drop, take_at, length-take-le}
use Rattle.rules.specs.declared.Rules.{Rules}
use Rattle.base.specs.Every
use Rattle.base.specs.Every.{every, up_from}
use Rattle.base.specs.Part.{part}
use Rattle.base.proofs.Order.{le_or_lt}
use Rattle.base.proofs.Part.{part_append}
use Rattle.base.proofs.Taken.{drop_none, take_none, part_zero}
use Rattle.base.proofs.UpFrom.{length_up}
use Rattle.place.specs.Walk.{spot, IsRecord, Stops}
use Rattle.place.proofs.Placed.{located_long}
use Rattle.place.proofs.Steps.{locate_end}
use Rattle.place.proofs.Walked.{spot_start, spot_more, spot_inside, stops_some}
use Rattle.place.proofs.Apart.{spot_mono}
use Rattle.place.proofs.Zero.{is_placed_lem}
use Rattle.reply.specs.declared.Refusal.TheVariants.{End}
use Rattle.salvaging.specs.declared.Piece.{Piece}
use Rattle.salvaging.specs.declared.Piece.TheVariants.{Copied, LeftOut}
use Rattle.salvaging.specs.Cover.{Follow, no_more, then, Apart, nothing, behind_copied, last_stretch, behind_stretch, CopiedWhole, Cover, record_piece, NothingLost}
use Rattle.salvaging.specs.Pieces.{piece_start, piece_end, pieces_from, pieces, piece_bytes, copy_of, report_of, NoStretch, copy, report}
use Rattle.salvaging.specs.Stretch.{Resumes, stretch_end}
use Rattle.salvaging.proofs.Pieces.{pieces_end, pieces_copied, pieces_left, piecewise, number_of, end_number}
use Rattle.salvaging.proofs.Stretches.{stretch_ends}

-- ---- a part and the rest

drop_part : (s : List ℕ) (a e : ℕ) → a ≤ e → part a e s ++ drop e s ≡ drop a s
drop_part s a e l =
    let to : a + (e - a) ≡ e = omega arith in
    let d : drop (e - a) (drop a s) ≡ drop e s = drop-drop (e - a) a s ∙ ap (λ n. drop n s) to in
    ap (λ x. part a e s ++ x) (sym d) ∙ take-append-drop (e - a) (drop a s)

-- ---- without gap or overlap

module _ (ρ : Rules) (s : List ℕ) where
  pieces_follow : (at : ℕ) → at ≤ length s → Follow at (length s) (pieces_from ρ s at)
  pieces_follow = piecewise ρ s (λ at. Follow at (length s) (pieces_from ρ s at)) record {
    at_end = rw (pieces_end ρ s (length s) (omega arith)) no_more;
    at_record = λ at n ns e h.
        let long = located_long ρ s at n ns e in
        let to : n ≡ at + (n - at) = omega arith in
        rw (pieces_copied ρ s at n ns e) (then (Copied at (n - at)) refl (omega arith) (subst (λ m. Follow m (length s) (pieces_from ρ s n)) to h));
    at_stretch = λ at r l e h.
        let end = stretch_end ρ s at in
        let later = (stretch_ends ρ s at l).later in
        let to : end ≡ at + (end - at) = omega arith in
        rw (pieces_left ρ s at r l e) (then (LeftOut at (end - at)) refl (omega arith) (subst (λ m. Follow m (length s) (pieces_from ρ s end)) to h));
  }

  -- so that their bytes, one behind the other, are the text's
  follow_joined : {at last : ℕ} {ps : List Piece} → Follow at last ps → last ≡ length s → flat_map (piece_bytes s) ps ≡ drop at s
  unfolding flat_map
  follow_joined (no_more {at}) e = sym (drop_of_length-le s {i = at} (omega arith))
  follow_joined (then p {ps} here some rest) e =
      ap (λ x. piece_bytes s p ++ x) (follow_joined rest e) ∙ drop_part s (piece_start p) (piece_end p) (omega arith) ∙ ap (λ n. drop n s) here

  pub pieces_joined : flat_map (piece_bytes s) (pieces ρ s) ≡ s
  pieces_joined = follow_joined (pieces_follow 0 (omega arith)) refl ∙ drop_none s

  -- ---- no two stretches are neighbours

  pieces_apart : (at : ℕ) → at ≤ length s → Apart (pieces_from ρ s at)
  pieces_apart = piecewise ρ s (λ at. Apart (pieces_from ρ s at)) record {
    at_end = rw (pieces_end ρ s (length s) (omega arith)) nothing;
    at_record = λ at n ns e h. rw (pieces_copied ρ s at n ns e) (behind_copied at (n - at) h);
    at_stretch = λ at r l e h. rw (pieces_left ρ s at r l e) (⊎_elim (going at h) (stopping at) (stretch_ends ρ s at l).ends);
  }
    where
      going : (at : ℕ) → Apart (pieces_from ρ s (stretch_end ρ s at)) → Resumes ρ s (stretch_end ρ s at)
          → Apart (LeftOut at (stretch_end ρ s at - at) ∷ pieces_from ρ s (stretch_end ρ s at))
      going at h r =
          let end = stretch_end ρ s at in
          let next = r.sound.next in
          let p = pieces_copied ρ s end next _ (is_placed_lem ρ s end next r.sound.placed).located_at in
          rw p (behind_stretch at (end - at) end (next - end) (rw p at h))

      stopping : (at : ℕ) → stretch_end ρ s at ≡ length s → Apart (LeftOut at (stretch_end ρ s at - at) ∷ pieces_from ρ s (stretch_end ρ s at))
      stopping at e = rw (pieces_end ρ s (stretch_end ρ s at) (omega arith)) (last_stretch at (stretch_end ρ s at - at))

-- ---- where nothing is left out

none_bytes : (s : List ℕ) (ps : List Piece) → NoStretch ps → flat_map (copy_of s) ps ≡ flat_map (piece_bytes s) ps
unfolding flat_map
none_bytes s [] h = refl
none_bytes s (Copied at n ∷ ps) h = ap (λ x. piece_bytes s (Copied at n) ++ x) (none_bytes s ps h)
none_bytes s (LeftOut at n ∷ ps) h = absurd h

none_report : (ps : List Piece) → NoStretch ps → flat_map report_of ps ≡ []
unfolding flat_map
none_report [] h = refl
none_report (Copied at n ∷ ps) h = none_report ps h
none_report (LeftOut at n ∷ ps) h = absurd h

pub none_whole : (ρ : Rules) (s : List ℕ) → NoStretch (pieces ρ s) → CopiedWhole ρ s
unfolding copy report
none_whole ρ s h = record { none = h; same = none_bytes s (pieces ρ s) h ∙ pieces_joined ρ s; silent = none_report (pieces ρ s) h }

-- ---- the plain walk

module _ (ρ : Rules) (s : List ℕ) where
  -- so many of its records, from the k-th on, and then the pieces from there
  walk_pieces : (left k : ℕ) → ((j : ℕ) → j < k + left → IsRecord ρ s (spot ρ s j)) → pieces_from ρ s (spot ρ s k) ≡ map (record_piece ρ s) (up_from k left) ++ pieces_from ρ s (spot ρ s (k + left))
  unfolding Every.up_from
  walk_pieces zero k h = ap (λ n. pieces_from ρ s (spot ρ s n)) (omega arith)
  walk_pieces (suc left) k h =
      let r = h k (omega arith) in
      let m : spot ρ s (suc k) ≡ r.next = spot_more ρ s k r.next r.ns r.is in
      pieces_copied ρ s (spot ρ s k) r.next r.ns r.is
      ∙ rw (← m)
      (ap (λ ps. record_piece ρ s k ∷ ps) (walk_pieces left (suc k) (λ j l. h j (omega arith)) ∙ ap (λ n. map (record_piece ρ s) (up_from (suc k) left) ++ pieces_from ρ s (spot ρ s n)) (omega arith)))

  module _ (many : ℕ) (each : (k : ℕ) → k < many → IsRecord ρ s (spot ρ s k)) where
    pub pieces_walk : pieces ρ s ≡ map (record_piece ρ s) (up_from 0 many) ++ pieces_from ρ s (spot ρ s many)
    pieces_walk = ap (pieces_from ρ s) (spot_start ρ s) ∙ walk_pieces many 0 (λ j l. each j (omega arith)) ∙ ap (λ n. map (record_piece ρ s) (up_from 0 many) ++ pieces_from ρ s (spot ρ s n)) (omega arith)

    -- R354: they are the first pieces
    first : take many (pieces ρ s) ≡ map (record_piece ρ s) (up_from 0 many)
    first = rw pieces_walk (take_at (map (record_piece ρ s) (up_from 0 many)) (pieces_from ρ s (spot ρ s many)) many (length-map (up_from 0 many) (record_piece ρ s) ∙ length_up 0 many))

  -- what is copied of them is what stands there
  walk_copy : (left k : ℕ) → ((j : ℕ) → j < k + left → IsRecord ρ s (spot ρ s j))
      → flat_map (copy_of s) (pieces_from ρ s (spot ρ s k)) ≡ part (spot ρ s k) (spot ρ s (k + left)) s ++ flat_map (copy_of s) (pieces_from ρ s (spot ρ s (k + left)))
  unfolding flat_map
  walk_copy zero k h =
      let at = spot ρ s k in
      let same : k ≡ k + 0 = omega arith in
      let zero : at - at ≡ 0 = omega arith in
      let none : part at at s ≡ [] = ap (λ n. take n (drop at s)) zero ∙ take_none (drop at s) in
      let here : flat_map (copy_of s) (pieces_from ρ s at) ≡ part at at s ++ flat_map (copy_of s) (pieces_from ρ s at) = sym (ap (λ x. x ++ flat_map (copy_of s) (pieces_from ρ s at)) none) in
      subst (λ n. flat_map (copy_of s) (pieces_from ρ s at) ≡ part at (spot ρ s n) s ++ flat_map (copy_of s) (pieces_from ρ s (spot ρ s n))) same here
  walk_copy (suc left) k h =
      let r = h k (omega arith) in
      let to : suc k + left ≡ k + suc left = omega arith in
      let long = located_long ρ s (spot ρ s k) r.next r.ns r.is in
      let m : spot ρ s (suc k) ≡ r.next = spot_more ρ s k r.next r.ns r.is in
      let n : spot ρ s k + (r.next - spot ρ s k) ≡ spot ρ s (suc k) = omega arith in
      let rest = flat_map (copy_of s) (pieces_from ρ s (spot ρ s (k + suc left))) in
      let first = part (spot ρ s k) (spot ρ s (suc k)) s in
      let others = part (spot ρ s (suc k)) (spot ρ s (k + suc left)) s in
      ap (flat_map (copy_of s)) (pieces_copied ρ s (spot ρ s k) r.next r.ns r.is)
      ∙ ap₂ (λ x y. part (spot ρ s k) x s ++ flat_map (copy_of s) (pieces_from ρ s y)) n (sym m)
      ∙ ap (λ x. first ++ x) (walk_copy left (suc k) (λ j l. h j (omega arith)) ∙ ap (λ i. part (spot ρ s (suc k)) (spot ρ s i) s ++ flat_map (copy_of s) (pieces_from ρ s (spot ρ s i))) to)
      ∙ sym (append_assoc first others rest)
      ∙ ap (λ x. x ++ rest) (part_append s (spot ρ s k) (spot ρ s (suc k)) (spot ρ s (k + suc left)) (omega arith) (spot_mono ρ s (suc k) (k + suc left) (omega arith)))

  module _ (many : ℕ) (each : (k : ℕ) → k < many → IsRecord ρ s (spot ρ s k)) where
    pub copy_walk : copy ρ s ≡ part 0 (spot ρ s many) s ++ flat_map (copy_of s) (pieces_from ρ s (spot ρ s many))
    unfolding copy
    copy_walk =
        ap (λ n. flat_map (copy_of s) (pieces_from ρ s n)) (spot_start ρ s)
        ∙ walk_copy many 0 (λ j l. each j (omega arith))
        ∙ ap₂ (λ n i. part n (spot ρ s i) s ++ flat_map (copy_of s) (pieces_from ρ s (spot ρ s i))) (sym (spot_start ρ s)) (omega arith)

    pub nothing_lost : NothingLost ρ s many
    nothing_lost =
        let n = spot ρ s many in
        let rest = flat_map (copy_of s) (pieces_from ρ s n) in
        let long : length (take n s) ≡ n = length-take-le n s (spot_inside ρ s many) in
        let is : copy ρ s ≡ take n s ++ rest = copy_walk ∙ ap (λ x. x ++ rest) (part_zero n s) in
        record { first = first many each; begins = ap (part 0 n) is ∙ part_zero n (take n s ++ rest) ∙ take_at (take n s) rest n long ∙ sym (part_zero n s) }

  -- ---- the walk ends with 1 exactly if nothing is left out

  pub stop_none : (many : ℕ) → Stops ρ s many End → NoStretch (pieces ρ s)
  stop_none many w =
      let e : spot ρ s many ≡ length s = end_number ρ s (spot ρ s many) (number_of ρ s (spot ρ s many) End w.last) in
      rw (pieces_walk many w.each, pieces_end ρ s (spot ρ s many) (omega arith), append-nil (map (record_piece ρ s) (up_from 0 many))) (all_copied (up_from 0 many))
    where
      all_copied : (ks : List ℕ) → NoStretch (map (record_piece ρ s) ks)
      all_copied [] = tt
      all_copied (k ∷ ks) = all_copied ks

  left_never : (ps : List Piece) (at n : ℕ) (qs : List Piece) → NoStretch (ps ++ (LeftOut at n ∷ qs)) → ⊥
  left_never [] at n qs h = h
  left_never (Copied p m ∷ ps) at n qs h = left_never ps at n qs h
  left_never (LeftOut p m ∷ ps) at n qs h = h

  pub none_stops : NoStretch (pieces ρ s) → (many : ℕ) × Stops ρ s many End
  none_stops h =
      let w = stops_some ρ s in
      let at = spot ρ s w.many in
      let inside = spot_inside ρ s w.many in
      let left : at < length s → ⊥ = λ l.
      left_never (map (record_piece ρ s) (up_from 0 w.many)) at (stretch_end ρ s at - at) (pieces_from ρ s (stretch_end ρ s at))
      (subst NoStretch (pieces_walk w.many w.stops.each ∙ ap (λ ps. map (record_piece ρ s) (up_from 0 w.many) ++ ps) (pieces_left ρ s at w.answer l w.stops.last)) h) in
      (w.many, record { each = w.stops.each; last = ⊎_elim (λ (l : length s ≤ at). locate_end ρ s at (omega arith)) (λ (l : at < length s). absurd (left l)) (le_or_lt (length s) at) })

  pub covers : Cover ρ s
  covers = record {
    follow = pieces_follow ρ s 0 (omega arith);
    joined = pieces_joined ρ s;
    apart = pieces_apart ρ s 0 (omega arith);
    undamaged = λ many w. none_whole ρ s (stop_none many w);
  }
