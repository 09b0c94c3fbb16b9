-- R355: a ruined index costs its own record, and all else is salvaged as it is by itself.
-- Assumes nothing.
use mathlib.Core.Path.{◌≡◌, refl, sym, ◌∙◌, ap, ap₂, subst}
use mathlib.Core.List.{List, ◌∷◌, ◌++◌, map, flat_map, append_assoc, append-nil}
use Prim.Native.Nat.{ℕ, zero, suc, ◌+◌, ◌-◌, ◌<◌, ◌≤◌}
use native.Mathlib.Omega.{arith}
use lib.ListN.{length, take, drop, length-append, length-drop, length-map}
use lib.Seq.{drop-drop, take_at, take_all, length-take-le}
use Rattle.rules.specs.declared.Rules.{Rules}
use Rattle.base.specs.Every.{up_from}
use Rattle.base.specs.Part.{part}
use Rattle.base.proofs.Agree.{part_agree}
use Rattle.base.proofs.Part.{part_append, part_cut}
use Rattle.base.proofs.Taken.{part_zero}
use Rattle.base.proofs.UpFrom.{length_up, map_up_same}
use Rattle.line.specs.Lines.{reach}
use Rattle.line.proofs.Reach.{reach_mono}
use Rattle.count.proofs.Tallied.{record_two}
use Rattle.place.specs.Placing.{located, locate}
use Rattle.place.specs.Walk.{spot, IsRecord, Stops}
use Rattle.place.proofs.Alone.{located_alone, alone_located}
use Rattle.place.proofs.Apart.{record_before, spot_mono}
use Rattle.place.proofs.Growth.{located_grown, growth_keeps}
use Rattle.place.proofs.Placed.{located_is, located_long}
use Rattle.place.proofs.Steps.{locate_end}
use Rattle.place.proofs.Stopped.{placed_record}
use Rattle.place.proofs.Walked.{spot_start, spot_more, spot_inside}
use Rattle.reply.specs.declared.Refusal.TheVariants.{End}
use Rattle.salvaging.specs.declared.Piece.TheVariants.{Copied, LeftOut}
use Rattle.salvaging.specs.Confined.{further, Ruined, RuinConfined, IndexRuined, RecordLost, DamageConfined}
use Rattle.salvaging.specs.Cover.{record_piece}
use Rattle.salvaging.specs.Pieces.{pieces_from, pieces, copy_of, copy}
use Rattle.salvaging.specs.Stretch.{stretch_end}
use Rattle.salvaging.proofs.Covered.{pieces_walk, copy_walk}
use Rattle.salvaging.proofs.Moved.{pieces_moved, copy_moved}
use Rattle.salvaging.proofs.Pieces.{pieces_end, pieces_copied, pieces_left, halts_refused, number_of, end_number}
use Rattle.salvaging.proofs.Stretches.{stretch_is}

-- ---- a text of records, and what follows

module _ (ρ : Rules) (a : List ℕ) (many : ℕ) (w : Stops ρ a many End) where
  walk_end : spot ρ a many ≡ length a
  walk_end = end_number ρ a (spot ρ a many) (number_of ρ a (spot ρ a many) End w.last)

  pub walk_records : pieces ρ a ≡ map (record_piece ρ a) (up_from 0 many)
  walk_records =
      pieces_walk ρ a many w.each
      ∙ ap (λ ps. map (record_piece ρ a) (up_from 0 many) ++ ps) (pieces_end ρ a (spot ρ a many) (omega (arith, walk_end)))
      ∙ append-nil (map (record_piece ρ a) (up_from 0 many))

  module _ (b : List ℕ) where
    grown_spot : (k : ℕ) → k ≤ many → spot ρ (a ++ b) k ≡ spot ρ a k
    grown_spot = ((growth_keeps ρ a b).walk many End w).places

    grown_each : (k : ℕ) → k < many → IsRecord ρ (a ++ b) (spot ρ (a ++ b) k)
    grown_each k l =
        let r = w.each k l in
        record { next = r.next; ns = r.ns; is = rw (grown_spot k (omega arith)) (located_grown ρ a b (spot ρ a k) r.next r.ns r.is) }

    grown_end : spot ρ (a ++ b) many ≡ length a
    grown_end = grown_spot many (omega arith) ∙ walk_end

    pub pieces_behind : pieces ρ (a ++ b) ≡ pieces ρ a ++ pieces_from ρ (a ++ b) (length a)
    pieces_behind =
        pieces_walk ρ (a ++ b) many grown_each
        ∙ ap₂ (λ ps n. ps ++ pieces_from ρ (a ++ b) n)
        (map_up_same (record_piece ρ (a ++ b)) (record_piece ρ a) 0 many (λ k low l. ap₂ (λ p n. Copied p (n - p)) (grown_spot k (omega arith)) (grown_spot (suc k) (omega arith))) ∙ sym walk_records)
        grown_end

    pub copy_behind : copy ρ (a ++ b) ≡ a ++ flat_map (copy_of (a ++ b)) (pieces_from ρ (a ++ b) (length a))
    copy_behind =
        copy_walk ρ (a ++ b) many grown_each
        ∙ ap (λ n. part 0 n (a ++ b) ++ flat_map (copy_of (a ++ b)) (pieces_from ρ (a ++ b) n)) grown_end
        ∙ ap (λ x. x ++ flat_map (copy_of (a ++ b)) (pieces_from ρ (a ++ b) (length a))) (part_zero (length a) (a ++ b) ∙ take_at a b (length a) refl)

-- ---- bytes y between them, and any text b behind

module _ (ρ : Rules) (a y b : List ℕ) where
  abbrev t : List ℕ
  t = a ++ (y ++ b)

  abbrev n : ℕ
  n = length a + length y

  -- what follows, as by itself
  behind_pieces : pieces_from ρ t n ≡ map (further n) (pieces ρ b)
  behind_pieces =
      let e : length (a ++ y) ≡ n = length-append a y in
      let z : n ≡ length (a ++ y) + 0 = omega (arith, e) in
      ap₂ (pieces_from ρ) (sym (append_assoc a y b)) z ∙ pieces_moved ρ (a ++ y) b 0 (omega arith) ∙ ap (λ m. map (further m) (pieces ρ b)) e

  behind_copies : flat_map (copy_of t) (pieces_from ρ t n) ≡ copy ρ b
  unfolding copy
  behind_copies =
      ap (flat_map (copy_of t)) behind_pieces
      ∙ ap₂ (λ x m. flat_map (copy_of x) (map (further m) (pieces ρ b))) (sym (append_assoc a y b)) (sym (length-append a y))
      ∙ copy_moved ρ (a ++ y) b (pieces ρ b)

  size : n - length a ≡ length y
  size = omega arith

  -- a record
  pub pieces_record : (ns : List ℕ) → locate ρ t (length a) ≡ located n ns → pieces_from ρ t (length a) ≡ Copied (length a) (length y) ∷ map (further n) (pieces ρ b)
  pieces_record ns e = pieces_copied ρ t (length a) n ns e ∙ ap₂ (λ i ps. Copied (length a) i ∷ ps) size behind_pieces

  -- ruined bytes
  module _ (r : Ruined ρ t (length a) n) where
    ruined_left : pieces_from ρ t (length a) ≡ LeftOut (length a) (n - length a) ∷ pieces_from ρ t n
    ruined_left =
        let long : length t ≡ length a + length (y ++ b) = length-append a (y ++ b) in
        let some = r.some in
        let inside : n ≤ length t = omega (arith, long, length-append y b) in
        let f = halts_refused ρ t (length a) r.halts in
        let e : n ≡ stretch_end ρ t (length a) = stretch_is ρ t (length a) n record { later = some; within = inside; passed = r.none; ends = r.behind } in
        pieces_left ρ t (length a) f.0 (omega arith) f.1 ∙ ap (λ i. LeftOut (length a) (i - length a) ∷ pieces_from ρ t i) (sym e)

    pub pieces_ruined : pieces_from ρ t (length a) ≡ LeftOut (length a) (length y) ∷ map (further n) (pieces ρ b)
    pieces_ruined = ruined_left ∙ ap₂ (λ i ps. LeftOut (length a) i ∷ ps) size behind_pieces

    pub ruin_confined : (many : ℕ) → Stops ρ a many End → RuinConfined ρ a y b
    unfolding flat_map
    ruin_confined many w = record {
      leaves = pieces_behind ρ a many w (y ++ b) ∙ ap (λ ps. pieces ρ a ++ ps) pieces_ruined;
      copies = copy_behind ρ a many w (y ++ b) ∙ ap (λ x. a ++ x) (ap (flat_map (copy_of t)) ruined_left ∙ behind_copies);
    }

-- ---- a text cut at a place of its walk

module _ (ρ : Rules) (t : List ℕ) where
  -- a record is placed the same where the text is cut behind it
  located_within : (m at : ℕ) {n : ℕ} {ns : List ℕ} → locate ρ t at ≡ located n ns → n ≤ m → m ≤ length t → locate ρ (take m t) at ≡ located n ns
  located_within m at {n} {ns} e l k =
      let long = located_long ρ t at n ns e in
      let first = part 0 at t in
      let x = part at n t in
      let rest = part n m t in
      let joined : first ++ (x ++ rest) ≡ take m t = ap (λ z. first ++ z) (part_append t at n m (omega arith) l) ∙ part_append t 0 at m (omega arith) (omega arith) ∙ part_zero m t in
      let here : length first ≡ at = ap length (part_zero at t) ∙ length-take-le at t (omega arith) in
      let size : length x ≡ n - at = length-take-le (n - at) (drop at t) (omega (arith, length-drop at t)) in
      let next : length first + length x ≡ n = omega arith in
      ap₂ (locate ρ) (sym joined) (sym here) ∙ alone_located ρ x ns (located_alone ρ t at n ns e) first rest ∙ ap (λ i. located i ns) next

  -- so the records before one of the walk are a text of records
  module _ (k : ℕ) (r : IsRecord ρ t (spot ρ t k)) where
    abbrev p : ℕ
    p = spot ρ t k

    before : (j : ℕ) → j ≤ k → IsRecord ρ t (spot ρ t j)
    before j l = record_before ρ t j k l r

    cut_located : (j : ℕ) (q : IsRecord ρ t (spot ρ t j)) → j < k → locate ρ (take p t) (spot ρ t j) ≡ located q.next q.ns
    cut_located j q l =
        located_within p (spot ρ t j) q.is (omega (arith, spot_more ρ t j q.next q.ns q.is, spot_mono ρ t (suc j) k l)) (spot_inside ρ t k)

    cut_spot : (j : ℕ) → j ≤ k → spot ρ (take p t) j ≡ spot ρ t j
    cut_spot zero l = sym (spot_start ρ (take p t)) ∙ spot_start ρ t
    cut_spot (suc j) l =
        let q = before j (omega arith) in
        let e = cut_spot j (omega arith) in
        spot_more ρ (take p t) j q.next q.ns (rw e (cut_located j q l)) ∙ sym (spot_more ρ t j q.next q.ns q.is)

    cut_long : length (take p t) ≡ p
    cut_long = length-take-le p t (spot_inside ρ t k)

    pub cut_stops : Stops ρ (take p t) k End
    cut_stops = record {
      each = λ j l. let q = before j (omega arith) in record { next = q.next; ns = q.ns; is = rw (cut_spot j (omega arith)) (cut_located j q l) };
      last = locate_end ρ (take p t) (spot ρ (take p t) k) (cut_long ∙ sym (cut_spot k (omega arith)));
    }

-- a text by its first bytes, a part and the rest
three_parts : (s : List ℕ) (p q : ℕ) → p ≤ q → q ≤ length s → s ≡ take p s ++ (part p q s ++ drop q s)
three_parts s p q l k =
    let to : p + (q - p) ≡ q = omega arith in
    part_cut s p (q - p) ∙ ap₂ (λ n x. take p s ++ (part p n s ++ x)) to (drop-drop (q - p) p s ∙ ap (λ n. drop n s) to)

-- ---- bytes exchanged in the index lines of a record

module _ (ρ : Rules) (t u : List ℕ) (k : ℕ) (h : IndexRuined ρ t u k) where
  here : IsRecord ρ t (spot ρ t k)
  here = (placed_record ρ t (spot ρ t k)).0 h.placed

  abbrev from : ℕ
  from = spot ρ t k

  abbrev to : ℕ
  to = spot ρ t (suc k)

  next_is : to ≡ here.next
  next_is = spot_more ρ t k here.next here.ns here.is

  -- it has its index lines and ends inside the text
  range : (from + reach (drop from t) 2 ≤ to) × (to ≤ length t)
  range =
      let e = located_is ρ t from here.next here.ns here.is in
      (omega (arith, next_is, e.next, reach_mono (drop from t) 2 _ (record_two ρ here.ns)), spot_inside ρ t (suc k))

  abbrev first : List ℕ
  first = take from t

  abbrev rest : List ℕ
  rest = drop to t

  same_first : take from u ≡ first
  same_first = sym (part_zero from u) ∙ sym (part_agree t u 0 from h.elsewhere (λ i low few d. omega (arith, d.0))) ∙ part_zero from t

  same_rest : drop to u ≡ rest
  same_rest =
      let long = h.elsewhere.long in
      let e = part_agree t u to (length t) h.elsewhere (λ i low few d. omega (arith, d.1, range.0)) in
      sym (take_all (length t - to) (drop to u) (omega (arith, length-drop to u))) ∙ sym e ∙ take_all (length t - to) (drop to t) (omega (arith, length-drop to t))

  between : from ≤ to
  between = spot_mono ρ t k (suc k) (omega arith)

  u_parts : u ≡ first ++ (part from to u ++ rest)
  u_parts = three_parts u from to between (omega (arith, range.1, h.elsewhere.long)) ∙ ap₂ (λ x y. x ++ (part from to u ++ y)) same_first same_rest

  long_first : length first ≡ from
  long_first = length-take-le from t (spot_inside ρ t k)

  long_part : (s : List ℕ) → length s ≡ length t → length (part from to s) ≡ to - from
  long_part s e = length-take-le (to - from) (drop from s) (omega (arith, length-drop from s, range.1))

  behind : (s : List ℕ) → length s ≡ length t → length first + length (part from to s) ≡ to
  behind s e = omega (arith, long_first, long_part s e, between)

  pub record_lost : RecordLost ρ t u k
  record_lost =
      let a = first in
      let x = part from to t in
      let y = part from to u in
      let b = rest in
      let e = sym h.elsewhere.long in
      let w = cut_stops ρ t k here in
      let t-parts : t ≡ a ++ (x ++ b) = three_parts t from to between range.1 in
      let f : locate ρ (a ++ (x ++ b)) (length a) ≡ located (length a + length x) here.ns =
      ap₂ (locate ρ) (sym t-parts) long_first ∙ here.is ∙ ap (λ i. located i here.ns) (sym next_is ∙ sym (behind t refl)) in
      let g : Ruined ρ (a ++ (y ++ b)) (length a) (length a + length y) =
      subst (λ z. Ruined ρ z (length a) (length a + length y)) u_parts
      (subst (λ i. Ruined ρ u i (length a + length y)) (sym long_first) (subst (Ruined ρ u from) (sym (behind u e)) h.ruined)) in
      record {
        before = pieces ρ a;
        after = map (further to) (pieces ρ b);
        many = ap length (walk_records ρ a k w) ∙ length-map (up_from 0 k) (record_piece ρ a) ∙ length_up 0 k;
        was = ap (pieces ρ) t-parts ∙ pieces_behind ρ a k w (x ++ b) ∙ ap (λ ps. pieces ρ a ++ ps)
            (pieces_record ρ a x b here.ns f ∙ ap₂ (λ p n. Copied p n ∷ map (further (length a + length x)) (pieces ρ b)) long_first (long_part t refl)
            ∙ ap (λ n. Copied from (to - from) ∷ map (further n) (pieces ρ b)) (behind t refl));
        is = ap (pieces ρ) u_parts ∙ pieces_behind ρ a k w (y ++ b) ∙ ap (λ ps. pieces ρ a ++ ps)
            (pieces_ruined ρ a y b g ∙ ap₂ (λ p n. LeftOut p n ∷ map (further (length a + length y)) (pieces ρ b)) long_first (long_part u e)
            ∙ ap (λ n. LeftOut from (to - from) ∷ map (further n) (pieces ρ b)) (behind u e));
        copies = ap (copy ρ) u_parts ∙ (ruin_confined ρ a y b g k w).copies;
      }

pub damage_confined : (ρ : Rules) → DamageConfined ρ
damage_confined ρ = record { ruin = λ a y b many w r. ruin_confined ρ a y b r many w; index = record_lost ρ }
