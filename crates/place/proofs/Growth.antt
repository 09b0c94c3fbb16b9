-- R256, R257: bytes that are added at a text's end (specs/Growth.antt). By *placing is local* (Local): 4, 5 and 6 rest on the two index lines, 0
-- and 7 on these and on where line feeds are up to the next place, and all of that is there already.
-- Assumes nothing.
use Rattle.std.specs.Prelude.{Option, Some, None}
use mathlib.Core.Path.{◌≡◌, refl, sym, ◌∙◌, ap}
use mathlib.Core.List.{List, ◌++◌, map}
use mathlib.Core.Logic.{◌⊎◌, ◌↔◌, inl, inr, ⊎_elim}
use Prim.Native.Nat.{ℕ, zero, suc, ◌<◌, ◌≤◌}
use native.Mathlib.Omega.{arith}
use lib.ListN.{length, drop, replicate, length-drop}
use lib.Seq.{drop-append-le}
use Rattle.rules.specs.declared.Rules.{Rules}
use Rattle.base.specs.Every
use Rattle.base.specs.Sum
use Rattle.base.proofs.Order.{le_or_lt}
use Rattle.base.proofs.Part.{part_within}
use Rattle.form.specs.Count
use Rattle.form.specs.Table
use Rattle.base.specs.Part.{part}
use Rattle.line.specs.Lines.{is_feed, feeds, lines}
use Rattle.line.proofs.Feeds.{feeds_part}
use Rattle.line.proofs.Reach.{reach_le, reach_append, lines_append}
use Rattle.count.specs.Rules.{ruling_of}
use Rattle.count.specs.Tally
use Rattle.count.specs.Tally.{lines_before, record_lines}
use Rattle.count.proofs.Tallied.{all_lines, lines_below, lines_all, record_two}
use Rattle.reply.specs.Refusals.{refusal_number}
use Rattle.reply.specs.declared.Refusal.{Refusal}
use Rattle.place.specs.Due.{RefusedFor, beyond, text_end, few_for_index, few_for_data, bad_index, bad_release, fills_vacant}
use Rattle.place.specs.Growth.{Settled, Unsettled, number_at, PlacingStays, WalkStays, GrowthKeeps}
use Rattle.place.specs.Numbered.{placing_reply}
use Rattle.place.specs.Parts.{start}
use Rattle.place.specs.Placing.{Located, located, refused, locate, ruled_at, placing_by, counts_by, placing_of, counts_at}
use Rattle.place.specs.Walk.{spot, IsRecord, Stops}
use Rattle.place.proofs.Due.{refused_due}
use Rattle.place.proofs.Local.{ByIndex, four, five, six, from_index, refused_local, located_local, placing_same}
use Rattle.place.proofs.Placed.{no_record, located_is, located_range, located_long}
use Rattle.place.proofs.Spans.{carried_same}
use Rattle.place.proofs.Tiling.{record_whole}
use Rattle.place.proofs.Walked.{spot_start, spot_more}

-- ---- 0, 4, 5, 6 and 7; 1, 2 and 3

few : (n : ℕ) → Unsettled n → (1 ≤ n) × (n ≤ 3)
few n (inl e) = (omega arith, omega arith)
few n (inr (inl e)) = (omega arith, omega arith)
few n (inr (inr e)) = (omega arith, omega arith)

not_few : (n : ℕ) → Settled n → (1 ≤ n) × (n ≤ 3) → ⊥
not_few n (inl e) b = omega (arith, b.0)
not_few n (inr (inl e)) b = omega (arith, b.1)
not_few n (inr (inr (inl e))) b = omega (arith, b.1)
not_few n (inr (inr (inr (inl e)))) b = omega (arith, b.1)
not_few n (inr (inr (inr (inr e)))) b = omega (arith, b.1)

not_both : (n : ℕ) → Unsettled n → Settled n → ⊥
not_both n u h = not_few n h (few n u)

module _ (ρ : Rules) (s : List ℕ) (at : ℕ) where
  refused_one : (r : Refusal) → RefusedFor ρ s at r → Settled (refusal_number r) ⊎ Unsettled (refusal_number r)
  refused_one r (beyond d) = inr (inr (inl refl))
  refused_one r (text_end d) = inr (inl refl)
  refused_one r (few_for_index d) = inr (inr (inr refl))
  refused_one r (few_for_data d) = inr (inr (inr refl))
  refused_one r (bad_index d) = inl (inr (inl refl))
  refused_one r (bad_release d) = inl (inr (inr (inl refl)))
  refused_one r (fills_vacant g d) = inl (inr (inr (inr (inl refl))))

  settled_or : Settled (number_at ρ s at) ⊎ Unsettled (number_at ρ s at)
  unfolding placing_of
  settled_or = by (locate ρ s at) refl
    where
      ruled : (n : ℕ) (k : Option ℕ) → Settled (placing_reply (ruled_at n k)).number
      ruled n None = inl refl
      ruled n (Some g) = inr (inr (inr (inr refl)))

      by : (l : Located) → locate ρ s at ≡ l → Settled (placing_reply (placing_by l)).number ⊎ Unsettled (placing_reply (placing_by l)).number
      by (located n ns) e = inl (ruled n (ruling_of ns))
      by (refused r) e = refused_one r (refused_due ρ s at r e)

  -- a reply of placing is one of 0, 4, 5, 6 and 7 exactly if it is none of 1, 2 and 3
  pub settled_exactly : Settled (number_at ρ s at) ↔ (Unsettled (number_at ρ s at) → ⊥)
  settled_exactly = (
    λ h u. not_both (number_at ρ s at) u h,
    λ n. ⊎_elim (λ h. h) (λ u. absurd (n u)) settled_or,
  )

  -- of what placing refuses with, these are the refusals that the index decides
  settled_index : (r : Refusal) → RefusedFor ρ s at r → Settled (refusal_number r) → ByIndex r
  settled_index r (beyond d) h = absurd (not_both 2 (inr (inl refl)) h)
  settled_index r (text_end d) h = absurd (not_both 1 (inl refl) h)
  settled_index r (few_for_index d) h = absurd (not_both 3 (inr (inr refl)) h)
  settled_index r (few_for_data d) h = absurd (not_both 3 (inr (inr refl)) h)
  settled_index r (bad_index d) h = four
  settled_index r (bad_release d) h = five
  settled_index r (fills_vacant g d) h = six g

-- ---- where the lines of the groups stand

module _ (ρ : Rules) (s : List ℕ) (at : ℕ) (ns : List ℕ) where
  -- all lines of a record with these counts are there
  record AllThere : Type 0 where
    within : at ≤ length s
    many : record_lines ρ ns ≤ feeds (drop at s)

  module _ (h : AllThere) where
    before_there : (g : ℕ) → lines_before ρ ns g ≤ feeds (drop at s)
    before_there g =
        let a = h.many in
        ⊎_elim
        (λ (l : g ≤ 61). omega (arith, lines_below ρ ns g 61 l, all_lines ρ ns))
        (λ (l : 61 < g). omega (arith, lines_all ρ ns g (omega arith)))
        (le_or_lt g 61)

    inside_there : (g : ℕ) → start ρ s at ns g ≤ length s
    unfolding start
    inside_there g = omega (arith, h.within, reach_le (drop at s) (lines_before ρ ns g), length-drop at s)

    grown_there : (b : List ℕ) (g : ℕ) → start ρ (s ++ b) at ns g ≡ start ρ s at ns g
    unfolding start
    grown_there b g = rw (drop-append-le at s b h.within, reach_append (drop at s) b (lines_before ρ ns g) (before_there g))

located_there : (ρ : Rules) (s : List ℕ) (at n : ℕ) (ns : List ℕ) → locate ρ s at ≡ located n ns → AllThere ρ s at ns
located_there ρ s at n ns e = let p = located_is ρ s at n ns e in record { within = omega (arith, p.inside); many = p.many }

-- what has no counts has no lines but the index
zeros_two : (ρ : Rules) → record_lines ρ (replicate 80 0) ≡ 2
unfolding Tally.line_tally Tally.lines_in Sum.sum Every.up_from Table.form_of Table.form_among Table.listed_as Table.row_of Count.lines_of Count.rounded_up
    Count.elements_of Count.is_segments Count.segment_elements
zeros_two ρ = refl

module _ (ρ : Rules) (s : List ℕ) (at : ℕ) (h : Settled (number_at ρ s at)) where
  -- under 4, 5 and 6 the lines of the index are there
  all_there : AllThere ρ s at (counts_at ρ s at)
  unfolding placing_of counts_at
  all_there = by (locate ρ s at) refl h
    where
      by : (l : Located) → locate ρ s at ≡ l → Settled (placing_reply (placing_by l)).number → AllThere ρ s at (counts_by l)
      by (located n ns) e h = located_there ρ s at n ns e
      by (refused r) e h =
          let x = from_index ρ at r (settled_index ρ s at r (refused_due ρ s at r e) h) s e in
          record { within = omega (arith, x.inner); many = rw (zeros_two ρ) x.two }

  pub start_inside : (g : ℕ) → start ρ s at (counts_at ρ s at) g ≤ length s
  start_inside = inside_there ρ s at (counts_at ρ s at) all_there

  pub start_grown : (b : List ℕ) (g : ℕ) → start ρ (s ++ b) at (counts_at ρ s at) g ≡ start ρ s at (counts_at ρ s at) g
  start_grown = grown_there ρ s at (counts_at ρ s at) all_there

-- ---- at one place

module _ (ρ : Rules) (s b : List ℕ) (at : ℕ) where
  -- the two index lines are the same
  head_grown : at < length s → 2 ≤ feeds (drop at s) → lines 2 (drop at s) ≡ lines 2 (drop at (s ++ b))
  head_grown h two = sym (ap (lines 2) (drop-append-le at s b (omega arith)) ∙ lines_append (drop at s) b 2 two)

  pub located_grown : (n : ℕ) (ns : List ℕ) → locate ρ s at ≡ located n ns → locate ρ (s ++ b) at ≡ located n ns
  located_grown n ns e =
      let p = located_is ρ s at n ns e in
      let l : at ≤ n = omega (arith, located_long ρ s at n ns e) in
      located_local ρ s (s ++ b) at n ns (head_grown p.inside p.head) (ap (map is_feed) (sym (part_within s b at n l (located_range ρ s at n ns e)))) e

  -- and the other way: a record that ends inside s does not need what stands behind
  pub located_cut : (n : ℕ) (ns : List ℕ) → locate ρ (s ++ b) at ≡ located n ns → n ≤ length s → locate ρ s at ≡ located n ns
  located_cut n ns e inside =
      let l : at ≤ n = omega (arith, located_long ρ (s ++ b) at n ns e) in
      let same : part at n (s ++ b) ≡ part at n s = part_within s b at n l inside in
      let many = (record_whole ρ (s ++ b) at n ns e).many in
      let two : 2 ≤ feeds (drop at s) = omega (arith, feeds_part s at n l, ap feeds same, many, record_two ρ ns) in
      located_local ρ (s ++ b) s at n ns (ap (lines 2) (drop-append-le at s b (omega arith)) ∙ lines_append (drop at s) b 2 two) (ap (map is_feed) same) e

  refused_grown : (r : Refusal) → ByIndex r → locate ρ s at ≡ refused r → locate ρ (s ++ b) at ≡ refused r
  refused_grown r i e = let x = from_index ρ at r i s e in refused_local ρ at r i s (s ++ b) (head_grown x.inner x.two) e

  settled_refused : (r : Refusal) → Settled (refusal_number r) → locate ρ s at ≡ refused r → locate ρ (s ++ b) at ≡ refused r
  settled_refused r h e = refused_grown r (settled_index ρ s at r (refused_due ρ s at r e) h) e

  pub locate_grown : Settled (number_at ρ s at) → locate ρ (s ++ b) at ≡ locate ρ s at
  unfolding placing_of
  locate_grown h = by (locate ρ s at) refl h
    where
      by : (l : Located) → locate ρ s at ≡ l → Settled (placing_reply (placing_by l)).number → locate ρ (s ++ b) at ≡ locate ρ s at
      by (located n ns) e h = located_grown n ns e ∙ sym e
      by (refused r) e h = settled_refused r h e ∙ sym e

  as_located : locate ρ (s ++ b) at ≡ locate ρ s at → PlacingStays ρ s b at
  as_located e = record {
    answer = (placing_same ρ (s ++ b) s at e).0;
    carried = carried_same ρ (s ++ b) ρ s at e (λ n ns u. grown_there ρ s at ns (located_there ρ s at n ns (sym e ∙ u)) b);
  }

-- ---- the walk

module _ (ρ : Rules) (s b : List ℕ) where
  spot_grown : (k : ℕ) → ((j : ℕ) → j < k → IsRecord ρ s (spot ρ s j)) → spot ρ (s ++ b) k ≡ spot ρ s k
  spot_grown zero h = sym (spot_start ρ (s ++ b)) ∙ spot_start ρ s
  spot_grown (suc k) h =
      let r = h k (omega arith) in
      let e = spot_grown k (λ j l. h j (omega arith)) in
      spot_more ρ (s ++ b) k r.next r.ns (rw e (located_grown ρ s b (spot ρ s k) r.next r.ns r.is))
      ∙ sym (spot_more ρ s k r.next r.ns r.is)

  walk_grown : (many : ℕ) (r : Refusal) → Stops ρ s many r → WalkStays ρ s b many r
  walk_grown many r w =
      record {
        places = places;
        records = λ k l. let q = w.each k l in as_located ρ s b (spot ρ s k) (located_grown ρ s b (spot ρ s k) q.next q.ns q.is ∙ sym q.is);
        as_many = λ n q v. ⊎_elim (λ (l : many ≤ n). l) (λ (l : n < many). no_record (sym v.last ∙ (each n l).is)) (le_or_lt many n);
        for_good = λ h. record { each = each; last = rw (places many (omega arith)) (settled_refused ρ s b (spot ρ s many) r h w.last) };
      }
    where
      places : (k : ℕ) → k ≤ many → spot ρ (s ++ b) k ≡ spot ρ s k
      places k l = spot_grown k (λ j m. w.each j (omega arith))

      each : (k : ℕ) → k < many → IsRecord ρ (s ++ b) (spot ρ (s ++ b) k)
      each k l =
          let q = w.each k l in
          record { next = q.next; ns = q.ns; is = rw (places k (omega arith)) (located_grown ρ s b (spot ρ s k) q.next q.ns q.is) }

  pub growth_keeps : GrowthKeeps ρ s b
  growth_keeps = record {
    placing = λ at h. as_located ρ s b at (locate_grown ρ s b at h);
    another = λ at n. ⊎_elim (λ h. absurd (n (as_located ρ s b at (locate_grown ρ s b at h)))) (λ u. u) (settled_or ρ s at);
    walk = walk_grown;
  }
