-- Two texts with their lines at the same places that agree outside a set of places D, where D misses the index lines along the walk
-- (`Replaced`). Every group of every record is then read from its record's counts and what the second text has in place of its lines; and where D
-- misses these lines too (`Spares`), it gives what it gave. D may be the lines of one group or of any number of them.
-- By placing is local (place, SameWalk) and reading is local (SamePlace).
-- Assumes nothing.
use Rattle.std.specs.Prelude.{Result, Ok, Err}
use mathlib.Core.Path.{◌≡◌, refl, sym, ◌∙◌, ap}
use mathlib.Core.List.{List}
use mathlib.Core.Logic.{◌↔◌}
use Prim.Native.Nat.{ℕ, suc}
use native.Mathlib.Omega.{arith}
use lib.ListN.{length, length-take, length-drop}
use Rattle.rules.specs.declared.Rules.{Rules}
use Rattle.base.specs.Agree.{Agree, Misses}
use Rattle.base.specs.Part.{part}
use Rattle.base.proofs.Agree.{part_agree}
use Rattle.line.specs.Texts.{SameLines}
use Rattle.reply.specs.declared.Refusal.{Refusal}
use Rattle.place.specs.Parts
use Rattle.place.specs.Parts.{start, group_part}
use Rattle.place.specs.Placing.{located, locate, placing_of, counts_at, carried_at}
use Rattle.place.specs.Walk.{spot, IsRecord, Stops}
use Rattle.place.proofs.Local.{placing_same}
use Rattle.place.proofs.Placed.{counts_at_lem}
use Rattle.place.proofs.Zero.{is_placed_lem}
use Rattle.place.proofs.Spans.{carried_same}
use Rattle.place.proofs.SameWalk.{start_same, same_located, same_spot, same_answer, same_stops}
use Rattle.reading.specs.Read.{read_group}
use Rattle.group.specs.Damage.{Spares, Replaced}
use Rattle.group.specs.Held.{lines_start, found_at, start_by, part_start, part_end, part_at}
use Rattle.group.specs.Text.{read_at}
use Rattle.group.proofs.Texts.{read_located}
use Rattle.group.proofs.Holding.{given_is}
use Rattle.group.proofs.SamePlace.{found_same, part_start_same, part_there, read_same}

pub record_at : (ρ : Rules) (s : List ℕ) (at : ℕ) (r : IsRecord ρ s at) → locate ρ s at ≡ located r.next (counts_at ρ s at)
record_at ρ s at r = r.is ∙ ap (located r.next) (sym (counts_at_lem ρ s at r.next r.ns r.is))

-- ---- the lines of a group of a record with these counts, in two texts with their lines at the same places

module _ (ρ : Rules) (s t : List ℕ) (at : ℕ) (l : SameLines s t) (ns : List ℕ) (g : ℕ) where
  -- the second text's lines, by the places of the first
  pub lines_there : part (start ρ s at ns g) (start ρ s at ns (suc g)) t ≡ group_part ρ t at ns g
  unfolding Parts.group_part
  lines_there = rw (start_same ρ s t l at ns g, start_same ρ s t l at ns (suc g))

  pub lines_same : {D : ℕ → Type 0} → Agree D s t → Misses D (start ρ s at ns g) (start ρ s at ns (suc g)) → group_part ρ s at ns g ≡ group_part ρ t at ns g
  unfolding Parts.group_part
  lines_same a clear = part_agree s t (start ρ s at ns g) (start ρ s at ns (suc g)) a clear ∙ lines_there

-- ---- the same located at a place of two texts with their lines at the same places

module _ (ρ : Rules) (s t : List ℕ) (at : ℕ) (l : SameLines s t) (e : locate ρ s at ≡ locate ρ t at) where
  starts_same : (g : ℕ) → lines_start ρ s at g ≡ lines_start ρ t at g
  starts_same g = start_same ρ s t l at (counts_at ρ s at) g ∙ ap (λ ns. start ρ t at ns g) (placing_same ρ s t at e).1

  part_length_same : (g : ℕ) → length (part_at ρ s at g) ≡ length (part_at ρ t at g)
  unfolding part_at
  part_length_same g = long ∙ ap length (part_there ρ s t at e g starts_same)
    where
      long : length (part (part_start ρ s at g) (part_end ρ s at g) s) ≡ length (part (part_start ρ s at g) (part_end ρ s at g) t)
      long = let n = l.long in simp (length-take, length-drop, n)

  module _ {D : ℕ → Type 0} (a : Agree D s t) (g : ℕ) (clear : Spares ρ D s at g) where
    part_same : part_at ρ s at g ≡ part_at ρ t at g
    unfolding part_at part_start part_end
    part_same = part_agree s t (start_by ρ s at g (found_at ρ s at g)) (start_by ρ s at (suc g) (found_at ρ s at g)) a (by (found_at ρ s at g) refl) ∙ part_there ρ s t at e g starts_same
      where
        by : (f : Result (Unit {0}) Refusal) → found_at ρ s at g ≡ f → Misses D (start_by ρ s at g f) (start_by ρ s at (suc g) f)
        by (Ok done) u =
            let i = given_is ρ s at g u in
            clear i.next (counts_at ρ s at) (is_placed_lem ρ s at i.next i.placed).located_at
        by (Err r) u = λ i low high d. omega arith

    read_spared : (room : ℕ) → read_at ρ s at g room ≡ read_at ρ t at g room
    read_spared room = read_same ρ s t at e g (λ n ns u. lines_same ρ s t at l ns g a (clear n ns u)) room

-- ---- along the walk

module _ (ρ : Rules) {D : ℕ → Type 0} (s t : List ℕ) (o : Replaced ρ D s t) where
  pub spot_kept : (j : ℕ) → spot ρ s j ≡ spot ρ t j
  spot_kept = same_spot ρ s t o.lines o.elsewhere o.heads

  located_kept : (j : ℕ) → locate ρ s (spot ρ s j) ≡ locate ρ t (spot ρ s j)
  located_kept = same_located ρ s t o.lines o.elsewhere o.heads

  -- what is the same at the first text's spot is the same at the second's
  there : {A : Type 0} (f : ℕ → A) {x : A} (j : ℕ) → x ≡ f (spot ρ s j) → x ≡ f (spot ρ t j)
  there f j e = e ∙ ap f (spot_kept j)

  pub stops_kept : (n : ℕ) (p : Refusal) → Stops ρ s n p ↔ Stops ρ t n p
  stops_kept n p = (same_stops ρ s t o.lines o.elsewhere o.heads n p, back)
    where
      back : Stops ρ t n p → Stops ρ s n p
      back w =
          record {
            each = λ k b. let r = w.each k b in record { next = r.next; ns = r.ns; is = same_answer ρ s t o.lines o.elsewhere o.heads k ∙ r.is };
            last = same_answer ρ s t o.lines o.elsewhere o.heads n ∙ w.last;
          }

  pub placing_kept : (j : ℕ) → placing_of ρ s (spot ρ s j) ≡ placing_of ρ t (spot ρ t j)
  placing_kept j = there (placing_of ρ t) j (placing_same ρ s t (spot ρ s j) (located_kept j)).0

  pub carries_kept : (j : ℕ) → carried_at ρ s (spot ρ s j) ≡ carried_at ρ t (spot ρ t j)
  carries_kept j = there (carried_at ρ t) j (carried_same ρ s ρ t (spot ρ s j) (located_kept j) (λ n ns u. start_same ρ s t o.lines (spot ρ s j) ns))

  counts_kept : (j : ℕ) → counts_at ρ s (spot ρ s j) ≡ counts_at ρ t (spot ρ t j)
  counts_kept j = ap (λ c. c.counts_of) (carries_kept j)

  module _ (j g : ℕ) where
    starts_here : (h : ℕ) → lines_start ρ s (spot ρ s j) h ≡ lines_start ρ t (spot ρ s j) h
    starts_here = starts_same ρ s t (spot ρ s j) o.lines (located_kept j)

    pub starts_kept : lines_start ρ s (spot ρ s j) g ≡ lines_start ρ t (spot ρ t j) g
    starts_kept = there (λ p. lines_start ρ t p g) j (starts_here g)

    pub found_kept : found_at ρ s (spot ρ s j) g ≡ found_at ρ t (spot ρ t j) g
    found_kept = there (λ p. found_at ρ t p g) j (found_same ρ s t (spot ρ s j) (located_kept j) g)

    pub part_start_kept : part_start ρ s (spot ρ s j) g ≡ part_start ρ t (spot ρ t j) g
    part_start_kept = there (λ p. part_start ρ t p g) j (part_start_same ρ s t (spot ρ s j) (located_kept j) g starts_here)

    pub part_length_kept : length (part_at ρ s (spot ρ s j) g) ≡ length (part_at ρ t (spot ρ t j) g)
    part_length_kept = there (λ p. length (part_at ρ t p g)) j (part_length_same ρ s t (spot ρ s j) o.lines (located_kept j) g)

    -- every group, altered or not, is read from the counts that its record had and what now stands in place of its lines
    pub read_by_lines : IsRecord ρ s (spot ρ s j) → (room : ℕ)
        → read_at ρ t (spot ρ t j) g room ≡ read_group ρ (counts_at ρ s (spot ρ s j)) g (part (lines_start ρ s (spot ρ s j) g) (lines_start ρ s (spot ρ s j) (suc g)) t) room
    read_by_lines r room =
        let at = spot ρ s j in
        let c : r.ns ≡ counts_at ρ s at = sym (counts_at_lem ρ s at r.next r.ns r.is) in
        ap (λ p. read_at ρ t p g room) (sym (spot_kept j))
        ∙ read_located ρ t at g room r.next r.ns (sym (located_kept j) ∙ r.is)
        ∙ ap (λ x. read_group ρ r.ns g x room) (sym (lines_there ρ s t at o.lines r.ns g))
        ∙ ap (λ ns. read_group ρ ns g (part (start ρ s at ns g) (start ρ s at ns (suc g)) t) room) c

    -- a group whose lines are spared
    module _ (clear : Spares ρ D s (spot ρ s j) g) where
      pub lines_kept : IsRecord ρ s (spot ρ s j) → group_part ρ s (spot ρ s j) (counts_at ρ s (spot ρ s j)) g ≡ group_part ρ t (spot ρ t j) (counts_at ρ t (spot ρ t j)) g
      lines_kept r =
          let at = spot ρ s j in
          let e : locate ρ s at ≡ located r.next (counts_at ρ s at) = record_at ρ s at r in
          lines_same ρ s t at o.lines (counts_at ρ s at) g o.elsewhere (clear r.next (counts_at ρ s at) e)
          ∙ ap (λ ns. group_part ρ t at ns g) (counts_kept j)
          ∙ ap (λ p. group_part ρ t p (counts_at ρ t (spot ρ t j)) g) (spot_kept j)

      pub part_kept : part_at ρ s (spot ρ s j) g ≡ part_at ρ t (spot ρ t j) g
      part_kept = there (λ p. part_at ρ t p g) j (part_same ρ s t (spot ρ s j) o.lines (located_kept j) o.elsewhere g clear)

      pub read_kept : (room : ℕ) → read_at ρ s (spot ρ s j) g room ≡ read_at ρ t (spot ρ t j) g room
      read_kept room = there (λ p. read_at ρ t p g room) j (read_spared ρ s t (spot ρ s j) o.lines (located_kept j) o.elsewhere g clear room)
