-- R336 (specs/Kept.antt): the answer is the same in a text that is cut behind the record that was found, that grows, whose lines end otherwise, or
-- that was damaged outside of group 3.
-- Assumes nothing.
use Rattle.std.specs.Prelude.{Ok, Err}
use mathlib.Core.Path.{◌≡◌, refl, sym, ◌∙◌, ap, subst}
use mathlib.Core.List.{List, ◌++◌}
use mathlib.Core.Logic.{◌⊎◌, inl, inr, ⊎_elim}
use Prim.Native.Nat.{ℕ, zero, suc, ◌<◌, ◌≤◌}
use native.Mathlib.Omega.{arith}
use lib.ListN.{length, take, drop, take-append-drop}
use lib.Seq.{length-take-le}
use Rattle.rules.specs.declared.Rules.{Rules}
use Rattle.base.proofs.Order.{le_or_lt}
use Rattle.count.specs.Tally.{cells_in}
use Rattle.date.specs.declared.Date.{Date}
use Rattle.date.specs.Due.{IsAsked}
use Rattle.line.specs.Alike.{Alike}
use Rattle.place.specs.declared.Placing.TheVariants as P
use Rattle.place.specs.Due as Place
use Rattle.place.specs.Due.{beyond, text_end, few_for_index, few_for_data, bad_index, bad_release, fills_vacant}
use Rattle.place.specs.Growth.{Settled, Unsettled, number_at, WalkStays}
use Rattle.place.specs.Numbered.{placing_reply}
use Rattle.place.specs.Placing.{placing_of, counts_at}
use Rattle.place.specs.Walk.{PlacedAt, spot, IsRecord, Stops, StopsAt, records_in}
use Rattle.place.proofs.Alike.{alike_spot, alike_stops, alike_counts, alike_record}
use Rattle.place.proofs.Apart.{spot_mono}
use Rattle.place.proofs.Due as Placing
use Rattle.place.proofs.Growth.{growth_keeps, located_cut, settled_exactly}
use Rattle.place.proofs.Placed.{located_range}
use Rattle.place.proofs.Stopped.{walks, placed_record}
use Rattle.place.proofs.Walked.{spot_start, spot_more, spot_forward, spot_inside}
use Rattle.place.proofs.Zero.{is_placed_lem}
use Rattle.reading.specs.Read.{date_told}
use Rattle.reply.specs.declared.Refusal.{Refusal}
use Rattle.reply.specs.Refusals.{refusal_number}
use Rattle.group.specs.Damage.{Damaged, Confined}
use Rattle.group.specs.Text.{read_at}
use Rattle.group.proofs.Alike.{alike_read}
use Rattle.group.proofs.Damage.{others_read, damage_stays}
use Rattle.group.proofs.Growth.{answers_stay}
use Rattle.since.specs.Numbered.{First, found, unfound}
use Rattle.since.specs.Due.{IsFirst, NoneIs, RefusedFor, bad_date, not_found}
use Rattle.since.specs.Kept.{StopsThere, GrowthKeepsFirst, SameFirst, both_found, both_refused, DamageKeepsFirst}
use Rattle.since.specs.Since.{date_at, stop_of, first_from}
use Rattle.since.proofs.Dates.{from_placed, from_record}
use Rattle.since.proofs.Due.{first_due, first_few}
use Rattle.since.proofs.Rests.{SameDate, first_there, none_there, SameRecords, same_first, found_stands}
use Rattle.since.proofs.Walked.{stop_is}

-- the date follows from the counts and what group 3 reads as
dates_same : (ρ : Rules) (s : List ℕ) (p : ℕ) (t : List ℕ) (q : ℕ) → counts_at ρ s p ≡ counts_at ρ t q → ((room : ℕ) → read_at ρ s p 3 room ≡ read_at ρ t q 3 room) → date_at ρ s p ≡ date_at ρ t q
unfolding date_at
dates_same ρ s p t q counts reads = ap (λ ns. date_told (read_at ρ s p 3 (cells_in ρ ns 3))) counts ∙ ap date_told (reads (cells_in ρ (counts_at ρ t q) 3))

-- ---- R256, R257: bytes that are added

placed_settled : (n : ℕ) → (n ≡ 0) ⊎ (n ≡ 7) → Settled n
placed_settled n (inl e) = inl e
placed_settled n (inr e) = inr (inr (inr (inr e)))

module _ (ρ : Rules) (s b : List ℕ) where
  date_grown : (at : ℕ) → PlacedAt ρ s at → date_at ρ (s ++ b) at ≡ date_at ρ s at
  date_grown at p =
      let h = (answers_stay ρ s b at (placed_settled (number_at ρ s at) p)).answers in
      dates_same ρ (s ++ b) at s at (ap (λ c. c.counts_of) h.carried) (h.groups 3)

  module _ (many : ℕ) (r : Refusal) (w : Stops ρ s many r) where
    its : WalkStays ρ s b many r
    its = (growth_keeps ρ s b).walk many r w

    record_grown : (k : ℕ) → k < many → PlacedAt ρ (s ++ b) (spot ρ (s ++ b) k)
    record_grown k l =
        let a = ap (λ p. (placing_reply p).number) (its.records k l).answer in
        let p = (placed_record ρ s (spot ρ s k)).1 (w.each k l) in
        subst (PlacedAt ρ (s ++ b)) (sym (its.places k (omega arith))) (⊎_elim (λ e. inl (a ∙ e)) (λ e. inr (a ∙ e)) p)

    dates_grown : (k : ℕ) → k < many → SameDate ρ s (s ++ b) k
    dates_grown k l = sym (ap (date_at ρ (s ++ b)) (its.places k (omega arith)) ∙ date_grown (spot ρ s k) ((placed_record ρ s (spot ρ s k)).1 (w.each k l)))

  pub first_grown : (from : Date) (p k : ℕ) → IsFirst ρ s from p k → IsFirst ρ (s ++ b) from p k
  first_grown from p k h =
      let w = stop_is ρ s in
      let few = first_few ρ s from p k h in
      let moved = (its (records_in ρ s) (stop_of ρ s) w).places k (omega arith) in
      rw (h.stands ∙ sym moved)
      (first_there ρ s (s ++ b) from p k h (λ j l. record_grown (records_in ρ s) (stop_of ρ s) w j (omega arith)) (λ j l. dates_grown (records_in ρ s) (stop_of ρ s) w j (omega arith)))

  -- a spot never lies beyond the text's end, so the walk does not stop with 2
  not_two : (k : ℕ) (r : Refusal) → Place.RefusedFor ρ s (spot ρ s k) r → refusal_number r ≡ 2 → ⊥
  not_two k r (beyond d) e = omega (arith, d, spot_inside ρ s k)
  not_two k r (text_end d) e = omega arith
  not_two k r (few_for_index d) e = omega arith
  not_two k r (few_for_data d) e = omega arith
  not_two k r (bad_index d) e = omega arith
  not_two k r (bad_release d) e = omega arith
  not_two k r (fills_vacant g d) e = omega arith

  settled_stop : (many : ℕ) (r : Refusal) → StopsAt ρ s many r → (refusal_number r ≡ 1 → ⊥) → (refusal_number r ≡ 3 → ⊥) → Settled (refusal_number r)
  settled_stop many r h one three =
      let e = ap (λ p. (placing_reply p).number) h.answer in
      subst Settled e ((settled_exactly ρ s (spot ρ s many)).1 (λ u. by (subst Unsettled e u)))
    where
      by : Unsettled (refusal_number r) → ⊥
      by (inl e) = one e
      by (inr (inl e)) = not_two many r ((Placing.first_due ρ s (spot ρ s many) (P.Refused r)).0 h.answer) e
      by (inr (inr e)) = three e

  none_grown : (from : Date) (many : ℕ) (r : Refusal) → NoneIs ρ s from many r → Settled (refusal_number r) → NoneIs ρ (s ++ b) from many r
  none_grown from many r h settled =
      let w = ((walks ρ s).stops many r).1 h.stops in
      none_there ρ s (s ++ b) from many r h (((walks ρ (s ++ b)).stops many r).0 ((its many r w).for_good settled)) (dates_grown many r w)

  refused_grown : (from : Date) (k : ℕ) (r : Refusal) → RefusedFor ρ s from k r → (refusal_number r ≡ 1 → ⊥) → (refusal_number r ≡ 3 → ⊥) → RefusedFor ρ (s ++ b) from k r
  refused_grown from k r (bad_date p a) one three = bad_date p a
  refused_grown from k r (not_found many q a h) one three = not_found many q a (none_grown from many q h (settled_stop many q h.stops one three))

  pub growth_kept : (from : Date) → GrowthKeepsFirst ρ s b from
  growth_kept from = record {
    found = λ p k e. let d = (first_due ρ s from (found p k)).0 e in (first_due ρ (s ++ b) from (found p k)).1 (d.0, first_grown from p k d.1);
    refused = λ k r e one three. (first_due ρ (s ++ b) from (unfound k r)).1 (refused_grown from k r ((first_due ρ s from (unfound k r)).0 e) one three);
  }

-- ---- bytes that are cut off behind the record

module _ (ρ : Rules) (a b : List ℕ) where
  spot_cut : (k : ℕ) → ((j : ℕ) → j < k → IsRecord ρ (a ++ b) (spot ρ (a ++ b) j)) → spot ρ (a ++ b) k ≤ length a → spot ρ a k ≡ spot ρ (a ++ b) k
  spot_cut zero each inside = sym (spot_start ρ a) ∙ spot_start ρ (a ++ b)
  spot_cut (suc k) each inside =
      let r = each k (omega arith) in
      let next = spot_more ρ (a ++ b) k r.next r.ns r.is in
      let e = spot_cut k (λ j l. each j (omega arith)) (omega (arith, spot_forward ρ (a ++ b) k)) in
      spot_more ρ a k r.next r.ns (rw e (located_cut ρ a b (spot ρ (a ++ b) k) r.next r.ns r.is (omega arith))) ∙ sym next

  module _ (from : Date) (p k : ℕ) (h : IsFirst ρ (a ++ b) from p k) (inside : spot ρ (a ++ b) (suc k) ≤ length a) where
    each : (j : ℕ) → j ≤ k → IsRecord ρ (a ++ b) (spot ρ (a ++ b) j)
    each j l =
        ⊎_elim
        (λ (m : k ≤ j). let e : j ≡ k = omega arith in rw e (from_record ρ (a ++ b) from k h.is))
        (λ (m : j < k). (placed_record ρ (a ++ b) (spot ρ (a ++ b) j)).0 (h.passed j m))
        (le_or_lt k j)

    stays : (j : ℕ) → j ≤ k → spot ρ a j ≡ spot ρ (a ++ b) j
    stays j l = spot_cut j (λ i m. each i (omega arith)) (omega (arith, spot_mono ρ (a ++ b) j (suc k) (omega arith)))

    still : (j : ℕ) → j ≤ k → PlacedAt ρ a (spot ρ a j)
    still j l =
        let r = each j l in
        let next : r.next ≤ length a = omega (arith, spot_more ρ (a ++ b) j r.next r.ns r.is, spot_mono ρ (a ++ b) (suc j) (suc k) (omega arith)) in
        (placed_record ρ a (spot ρ a j)).1 record { next = r.next; ns = r.ns; is = rw (stays j l) (located_cut ρ a b (spot ρ (a ++ b) j) r.next r.ns r.is next) }

    dates : (j : ℕ) → j ≤ k → SameDate ρ (a ++ b) a j
    dates j l = ap (date_at ρ (a ++ b)) (sym (stays j l)) ∙ date_grown ρ a b (spot ρ a j) (still j l)

    pub first_cut : IsFirst ρ a from p k
    first_cut = rw (h.stands ∙ sym (stays k (omega arith))) (first_there ρ (a ++ b) a from p k h (λ j l. still j (omega arith)) dates)

-- ---- so what stands behind the record has no part in it

module _ (ρ : Rules) (s : List ℕ) (from : Date) (p k : ℕ) (e : first_from ρ s from ≡ found p k) where
  asked_first : IsAsked from × IsFirst ρ s from p k
  asked_first = (first_due ρ s from (found p k)).0 e

  n : ℕ
  n = asked_first.1.is.has.reads.next

  placed : placing_of ρ s (spot ρ s k) ≡ P.Placed n
  unfolding n
  placed = from_placed ρ s from k asked_first.1.is

  inside : n ≤ length s
  inside = let q = is_placed_lem ρ s (spot ρ s k) n placed in located_range ρ s (spot ρ s k) n (counts_at ρ s (spot ρ s k)) q.located_at

  next_is : spot ρ s (suc k) ≡ n
  next_is = let q = is_placed_lem ρ s (spot ρ s k) n placed in spot_more ρ s k n (counts_at ρ s (spot ρ s k)) q.located_at

  in_front : IsFirst ρ (take n s) from p k
  in_front =
      let whole : take n s ++ drop n s ≡ s = take-append-drop n s in
      first_cut ρ (take n s) (drop n s) from p k (subst (λ x. IsFirst ρ x from p k) (sym whole) asked_first.1)
      (omega (arith, ap (λ x. spot ρ x (suc k)) whole, next_is, length-take-le n s inside))

  pub stops_there : StopsThere ρ s from p k
  stops_there = record {
    ends = record { next = n; placed = ap (placing_of ρ s) asked_first.1.stands ∙ placed; inside = inside };
    same = λ t u.
        let there = first_grown ρ (take n s) (drop n t) from p k in_front in
        let whole : take n s ++ drop n t ≡ t = ap (λ x. x ++ drop n t) (sym u) ∙ take-append-drop n t in
        (first_due ρ t from (found p k)).1 (asked_first.0, subst (λ x. IsFirst ρ x from p k) whole there);
  }

-- ---- R9: lines that end otherwise

module _ (ρ : Rules) (s t : List ℕ) (h : Alike ρ s t) where
  alike_records : SameRecords ρ s t
  alike_records = record {
    placed = λ k p. (placed_record ρ t (spot ρ t k)).1 (alike_record ρ s (spot ρ s k) t (spot ρ t k) (alike_spot ρ s t h k) ((placed_record ρ s (spot ρ s k)).0 p));
    stops = λ many r. (alike_stops ρ s t h many r).0;
    dates = λ k.
        let p = spot ρ s k in
        let q = spot ρ t k in
        let a = alike_spot ρ s t h k in
        dates_same ρ s p t q (alike_counts ρ s p t q a) (alike_read ρ s p t q a 3);
  }

  pub alike_first : (from : Date) → SameFirst ρ s t (first_from ρ s from) (first_from ρ t from)
  alike_first from = by (first_from ρ s from) refl
    where
      by : (x : First) → first_from ρ s from ≡ x → SameFirst ρ s t x (first_from ρ t from)
      by (Ok f) e =
          let k = f.passed in
          rw (same_first ρ s t alike_records from (found f.place k) e, found_stands ρ s from f.place k e) (both_found (spot ρ s k) (spot ρ t k) k (alike_spot ρ s t h k))
      by (Err u) e = rw (same_first ρ s t alike_records from (unfound u.passed u.why) e) (both_refused u.passed u.why)

-- ---- D3: damage

pub damage_kept : (ρ : Rules) (t u : List ℕ) (among : ℕ → ℕ → Type 0) → Damaged ρ t u among → DamageKeepsFirst ρ t u among
damage_kept ρ t u among damaged out from = by (first_from ρ t from) refl
  where
    stays : Confined ρ t u among
    stays = damage_stays ρ t u among damaged

    records : SameRecords ρ t u
    records = record {
      placed = λ k p. ⊎_elim (λ e. inl (ap (λ x. (placing_reply x).number) (stays.answers k) ∙ e)) (λ e. inr (ap (λ x. (placing_reply x).number) (stays.answers k) ∙ e)) p;
      stops = λ many r. (stays.as_many many r).0;
      dates = λ k. sym (
          dates_same ρ u (spot ρ u k) t (spot ρ t k) (ap (λ c. c.counts_of) (stays.carries k)) (λ room. others_read ρ t u among damaged k 3 room (out k))
          );
    }

    by : (x : First) → first_from ρ t from ≡ x → first_from ρ u from ≡ x
    by (Ok f) e = same_first ρ t u records from (found f.place f.passed) e ∙ ap (λ q. found q f.passed) (stays.places f.passed ∙ sym (found_stands ρ t from f.place f.passed e))
    by (Err x) e = same_first ρ t u records from (unfound x.passed x.why) e
