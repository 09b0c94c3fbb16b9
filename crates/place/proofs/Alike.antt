-- R9: placing in texts whose lines have the same contents. From places on that the texts are alike from, placing gives the same answer but for
-- the next place, with the same counts, and from the next places on the texts are alike again. So is the walk, from spot to spot.
-- Assumes nothing.
use Rattle.std.specs.Prelude.{Option, Some, None, Result, Ok, Err}
use mathlib.Core.Path.{◌≡◌, refl, sym, ◌∙◌, ap}
use mathlib.Core.Bool.{Bool, true, false, cond}
use mathlib.Core.List.{List}
use mathlib.Core.Logic.{◌↔◌, ⊎_elim}
use Prim.Native.Nat.{ℕ, zero, suc, ◌+◌, ◌-◌, ◌<◌, ◌≤◌}
use native.Mathlib.Omega.{arith}
use lib.Dec.{leb, eqb}
use lib.ListN.{length, drop}
use Rattle.rules.specs.declared.Rules.{Rules}
use Rattle.base.proofs.Order.{le_or_lt}
use Rattle.line.specs.Alike.{SameLine, Alike, AlikeFrom}
use Rattle.line.specs.Lines.{feeds, reach, lines, behind}
use Rattle.line.proofs.Alike.{same_line_told, alike_feeds, alike_sym, alike_behind, alike_lines, alike_first, alike_line, alike_start, alike_from_sym, alike_ends, alike_further}
use Rattle.count.specs.Tally.{lines_before, record_lines}
use Rattle.count.specs.Rules.{release_of, ruling_of}
use Rattle.reply.specs.declared.Refusal.{Refusal}
use Rattle.reply.specs.declared.Refusal.TheVariants.{End, TooFewLines, Misformed}
use Rattle.place.specs.Alike.{SamePlacing, both_placed, both_broken, both_refused}
use Rattle.place.specs.Index.{Indexed, counts, misformed, read_entries, read_index_content, read_index_line, read_index}
use Rattle.place.specs.Parts.{group_part}
use Rattle.place.specs.Placing.{located, refused, locate, locate_index, locate_release, ruled_at, placing_by, counts_by, placing_of, counts_at}
use Rattle.place.specs.Walk.{spot, IsRecord, Stops}
use Rattle.place.proofs.Placed.{no_record}
use Rattle.place.proofs.Steps.{locate_end, locate_few, locate_index_lem}
use Rattle.place.proofs.Tiling.{part_between}
use Rattle.place.proofs.Walked.{spot_start, spot_more, spot_stays}

-- what is located at p in s and at q in t: records with the same counts, from whose next places on the texts are alike again; or neither is one,
-- for the same reason
pub data AlikeLocated (ρ : Rules) (s : List ℕ) (p : ℕ) (t : List ℕ) (q : ℕ) : Type 0 where
  both_located : (n m : ℕ) (ns : List ℕ) → locate ρ s p ≡ located n ns → locate ρ t q ≡ located m ns → AlikeFrom ρ s n t m → AlikeLocated ρ s p t q
  neither : (r : Refusal) → locate ρ s p ≡ refused r → locate ρ t q ≡ refused r → AlikeLocated ρ s p t q

module _ (ρ : Rules) where
  -- ---- the index

  alike_index_line : (a b : List ℕ) → SameLine ρ a b → read_index_line ρ a ≡ read_index_line ρ b
  unfolding read_index_line
  alike_index_line a b h = same_line_told ρ read_index_content a b (λ n e. ap (λ x. cond (eqb n 120) (read_entries 40 x) misformed) e) refl h

  pub alike_index : (xs ys : List ℕ) → Alike ρ xs ys → read_index ρ xs ≡ read_index ρ ys
  unfolding read_index
  alike_index xs ys r =
      rw (
        alike_index_line (lines 1 xs) (lines 1 ys) (alike_first ρ xs ys r),
        alike_index_line (lines 1 (behind 1 xs)) (lines 1 (behind 1 ys)) (alike_line ρ xs ys r 1),
      )

  -- ---- at a place of each

  module _ (s : List ℕ) (p : ℕ) (t : List ℕ) (q : ℕ) (h : AlikeFrom ρ s p t q) where
    xs : List ℕ
    xs = drop p s

    ys : List ℕ
    ys = drop q t

    same_feeds : feeds xs ≡ feeds ys
    unfolding xs ys
    same_feeds = alike_feeds ρ xs ys h.alike

    by_lines : (ns : List ℕ) (c : Bool) → locate ρ s p ≡ cond c (located (p + reach xs (record_lines ρ ns)) ns) (refused TooFewLines)
        → locate ρ t q ≡ cond c (located (q + reach ys (record_lines ρ ns)) ns) (refused TooFewLines)
        → AlikeLocated ρ s p t q
    unfolding xs ys
    by_lines ns true a b = both_located (p + reach xs (record_lines ρ ns)) (q + reach ys (record_lines ρ ns)) ns a b (alike_further ρ s p t q h (record_lines ρ ns))
    by_lines ns false a b = neither TooFewLines a b

    by_release_lem : (ns : List ℕ) (r : Result (Unit {0}) Refusal) → locate ρ s p ≡ locate_release ρ xs p ns r → locate ρ t q ≡ locate_release ρ ys q ns r → AlikeLocated ρ s p t q
    by_release_lem ns (Ok five) a b = by_lines ns (leb (record_lines ρ ns) (feeds xs)) a (rw (← same_feeds) at b)
    by_release_lem ns (Err r) a b = neither r a b

    by_index : (i : Indexed) → locate ρ s p ≡ locate_index ρ xs p i → locate ρ t q ≡ locate_index ρ ys q i → AlikeLocated ρ s p t q
    by_index (counts ns) a b = by_release_lem ns (release_of ns) a b
    by_index misformed a b = neither Misformed a b

    inside : p < length s → q < length t
    inside l =
        ⊎_elim
        (λ (m : length t ≤ q). absurd (omega (arith, alike_ends ρ t q s p (alike_from_sym ρ s p t q h) (omega (arith, h.second_within)))))
        (λ (m : q < length t). m)
        (le_or_lt (length t) q)

    pub alike_located : AlikeLocated ρ s p t q
    unfolding xs ys
    alike_located = ⊎_elim at_end (λ (l : p < length s). ⊎_elim (indexed l) (few l) (le_or_lt 2 (feeds xs))) (le_or_lt (length s) p)
      where
        at_end : length s ≤ p → AlikeLocated ρ s p t q
        at_end l =
            let m : length s ≡ p = omega (arith, h.first_within) in
            neither End (locate_end ρ s p m) (locate_end ρ t q (alike_ends ρ s p t q h m))

        few : p < length s → feeds xs < 2 → AlikeLocated ρ s p t q
        few l f = neither TooFewLines (locate_few ρ s p l f) (locate_few ρ t q (inside l) (omega (arith, same_feeds)))

        indexed : p < length s → 2 ≤ feeds xs → AlikeLocated ρ s p t q
        indexed l f =
            by_index (read_index ρ xs) (locate_index_lem ρ s p l f)
            (locate_index_lem ρ t q (inside l) (omega (arith, same_feeds)) ∙ ap (locate_index ρ ys q) (sym (alike_index xs ys h.alike)))

    -- the answer and the counts

    ruled : (n m : ℕ) (r : Option ℕ) → AlikeFrom ρ s n t m → SamePlacing ρ s t (ruled_at n r) (ruled_at m r)
    ruled n m None f = both_placed n m f
    ruled n m (Some g) f = both_broken g n m f

    pub alike_placing : SamePlacing ρ s t (placing_of ρ s p) (placing_of ρ t q)
    unfolding placing_of
    alike_placing = by alike_located
      where
        by : AlikeLocated ρ s p t q → SamePlacing ρ s t (placing_by (locate ρ s p)) (placing_by (locate ρ t q))
        by (both_located n m ns a b f) = rw (a, b) (ruled n m (ruling_of ns) f)
        by (neither r a b) = rw (a, b) (both_refused r)

    pub alike_counts : counts_at ρ s p ≡ counts_at ρ t q
    unfolding counts_at
    alike_counts = by alike_located
      where
        by : AlikeLocated ρ s p t q → counts_by (locate ρ s p) ≡ counts_by (locate ρ t q)
        by (both_located n m ns a b f) = rw (a, b)
        by (neither r a b) = rw (a, b)

    -- a record is there as well, or the same refusal
    pub alike_record : IsRecord ρ s p → IsRecord ρ t q
    alike_record r = by alike_located
      where
        by : AlikeLocated ρ s p t q → IsRecord ρ t q
        by (both_located n m ns a b f) = record { next = m; ns = ns; is = b }
        by (neither w a b) = no_record (sym a ∙ r.is)

    pub alike_refused : {r : Refusal} → locate ρ s p ≡ refused r → locate ρ t q ≡ refused r
    alike_refused {r} e = by alike_located
      where
        by : AlikeLocated ρ s p t q → locate ρ t q ≡ refused r
        by (both_located n m ns a b f) = no_record (sym e ∙ a)
        by (neither w a b) = b ∙ sym a ∙ e

    -- the lines of a group
    pub alike_part : (ns : List ℕ) (g : ℕ) → Alike ρ (group_part ρ s p ns g) (group_part ρ t q ns g)
    alike_part ns g =
        let j = lines_before ρ ns g in
        rw (part_between ρ s p ns g, part_between ρ t q ns g)
        (alike_lines ρ (behind j (drop p s)) (behind j (drop q t)) (alike_behind ρ (drop p s) (drop q t) h.alike j) (lines_before ρ ns (suc g) - j))

  -- ---- along the walk

  pub alike_spot : (s t : List ℕ) → Alike ρ s t → (k : ℕ) → AlikeFrom ρ s (spot ρ s k) t (spot ρ t k)
  alike_spot s t r zero = rw (← spot_start ρ s, ← spot_start ρ t) (alike_start ρ s t r)
  alike_spot s t r (suc k) = by (alike_spot s t r k) (alike_located s (spot ρ s k) t (spot ρ t k) (alike_spot s t r k))
    where
      by : AlikeFrom ρ s (spot ρ s k) t (spot ρ t k) → AlikeLocated ρ s (spot ρ s k) t (spot ρ t k) → AlikeFrom ρ s (spot ρ s (suc k)) t (spot ρ t (suc k))
      by h (both_located n m ns a b f) = rw (spot_more ρ s k n ns a, spot_more ρ t k m ns b) f
      by h (neither w a b) = rw (spot_stays ρ s k w a, spot_stays ρ t k w b) h

  stops_too : (s t : List ℕ) → Alike ρ s t → (many : ℕ) (r : Refusal) → Stops ρ s many r → Stops ρ t many r
  stops_too s t a many r w =
      record {
        each = λ k l. alike_record s (spot ρ s k) t (spot ρ t k) (alike_spot s t a k) (w.each k l);
        last = alike_refused s (spot ρ s many) t (spot ρ t many) (alike_spot s t a many) w.last;
      }

  -- as many records, and the walk stops with the same refusal
  pub alike_stops : (s t : List ℕ) → Alike ρ s t → (many : ℕ) (r : Refusal) → Stops ρ s many r ↔ Stops ρ t many r
  alike_stops s t a many r = (stops_too s t a many r, stops_too t s (alike_sym ρ s t a) many r)
