-- R255: placing is local. Whatever stands before the place, the answer is the same. Two texts that have the same two lines from there on
-- share 4, 5 and 6; if their line feeds agree too, as far as the record goes, they share 0 and 7 and all that is told with these.
-- Assumes nothing.
use Rattle.std.specs.Prelude.{Result, Ok, Err}
use mathlib.Core.Path.{◌≡◌, refl, sym, ◌∙◌, ap, subst}
use mathlib.Core.Bool.{Bool, true, false, cond}
use mathlib.Core.List.{List, ◌++◌, map}
use Prim.Native.Nat.{ℕ, ◌+◌, ◌<◌, ◌≤◌}
use native.Mathlib.Omega.{arith}
use lib.ListN.{length, drop, length-drop, take-append-drop}
use borrow.Author.Tests.{le-ltb, ne_eqb, leb-true}
use lib.Dec.{leb, ltb, eqb}
use Rattle.rules.specs.declared.Rules.{Rules}
use Rattle.base.specs.Part.{part}
use Rattle.line.specs.Lines.{is_feed, feeds, reach, lines, behind}
use Rattle.line.proofs.Feeds.{feeds_append, feeds_le}
use Rattle.line.proofs.Reach.{lines_append, behind_append, feeds_lines, feeds_behind}
use Rattle.line.proofs.Places.{is_at, at_is, behind_at_local}
use Rattle.count.specs.Tally.{record_lines}
use Rattle.count.specs.Rules.{release_of}
use Rattle.reply.specs.declared.Refusal.{Refusal}
use Rattle.reply.specs.declared.Refusal.TheVariants.{End, Beyond, TooFewLines, Misformed, OtherRelease, FilledVacant}
use Rattle.place.specs.Index.{Indexed, counts, misformed, read_index}
use Rattle.place.specs.Placing.{located, refused, locate, locate_index, locate_release, locate_lines, placing_by, placing_of, counts_by, counts_at}
use Rattle.place.proofs.Steps.{locate_index_lem}
use Rattle.place.proofs.Placed.{no_record, is_located, located_is}

-- ---- nothing before the place

inside : (xs : List ℕ) (at : ℕ) (s : List ℕ) → drop at s ≡ xs → 0 < length xs → at < length s
inside xs at s e h = omega (arith, length-drop at s, ap length e)

-- two texts that are the same from the place on, and have something there
pub locate_from_lem : (ρ : Rules) (s t : List ℕ) (at : ℕ) → drop at s ≡ drop at t → at < length s → locate ρ s at ≡ locate ρ t at
unfolding locate
locate_from_lem ρ s t at e h =
    let k : at < length t = omega (arith, length-drop at s, length-drop at t, ap length e) in
    rw (le-ltb (length s) at (omega arith), ne_eqb (length s) at (λ x. omega arith), le-ltb (length t) at (omega arith), ne_eqb (length t) at (λ x. omega arith), e)

-- ---- the index lines alone decide the index

pub index_lines : (ρ : Rules) (xs : List ℕ) → 2 ≤ feeds xs → read_index ρ xs ≡ read_index ρ (lines 2 xs)
unfolding read_index
index_lines ρ xs h =
    let a = lines 2 xs in
    let b = behind 2 xs in
    let e : a ++ b ≡ xs = take-append-drop (reach xs 2) xs in
    let f : feeds a ≡ 2 = feeds_lines xs 2 h in
    let one : lines 1 xs ≡ lines 1 a = ap (lines 1) (sym e) ∙ lines_append a b 1 (omega arith) in
    let g : feeds (behind 1 a) + 1 ≡ feeds a = feeds_behind a 1 (omega arith) in
    let two : lines 1 (behind 1 xs) ≡ lines 1 (behind 1 a) = ap (λ x. lines 1 (behind 1 x)) (sym e) ∙ ap (lines 1) (behind_append a b 1 (omega arith)) ∙ lines_append (behind 1 a) b 1 (omega arith) in
    rw (one, two)

-- the second text has the two lines too
has_two : (xs ys : List ℕ) → 2 ≤ feeds xs → lines 2 xs ≡ lines 2 ys → 2 ≤ feeds ys
has_two xs ys h e =
    omega (arith, feeds_lines xs 2 h, ap feeds e, feeds_append (lines 2 ys) (behind 2 ys), ap feeds (take-append-drop (reach ys 2) ys))

pub index_local : (ρ : Rules) (xs ys : List ℕ) → 2 ≤ feeds xs → lines 2 xs ≡ lines 2 ys → read_index ρ xs ≡ read_index ρ ys
index_local ρ xs ys h e = index_lines ρ xs h ∙ ap (read_index ρ) e ∙ sym (index_lines ρ ys (has_two xs ys h e))

-- ---- replies 4, 5 and 6: the two lines from the place on

-- 4, 5 or 6
pub data ByIndex : Refusal → Type 0 where
  four : ByIndex Misformed
  five : ByIndex OtherRelease
  six : (g : ℕ) → ByIndex (FilledVacant g)

not_end : ByIndex End → ⊥
not_end = elim [ ]

not_beyond : ByIndex Beyond → ⊥
not_beyond = elim [ ]

not_few : ByIndex TooFewLines → ⊥
not_few = elim [ ]

not_by : {A : Type 0} {p q : Refusal} → refused p ≡ refused q → (ByIndex p → ⊥) → ByIndex q → A
not_by {p = p} {q = q} e n b =
    let f : p ≡ q = cc in
    absurd (n (subst ByIndex (sym f) b))

module _ (ρ : Rules) (at : ℕ) (p : Refusal) (b : ByIndex p) where
  -- it was answered from the index, so there is one
  pub record FromIndex (s : List ℕ) : Type 0 where
    pub inner : at < length s
    pub two : 2 ≤ feeds (drop at s)
    pub by : locate_index ρ (drop at s) at (read_index ρ (drop at s)) ≡ refused p

  pub from_index : (s : List ℕ) → locate ρ s at ≡ refused p → FromIndex s
  unfolding locate
  from_index s e = by (ltb (length s) at) (eqb (length s) at) (leb 2 (feeds (drop at s))) refl e
    where
      by : (x y z : Bool) → leb 2 (feeds (drop at s)) ≡ z
          → cond x (refused Beyond) (cond y (refused End) (cond z (locate_index ρ (drop at s) at (read_index ρ (drop at s))) (refused TooFewLines))) ≡ refused p → FromIndex s
      by true y z u f = not_by f not_beyond b
      by false true z u f = not_by f not_end b
      by false false false u f = not_by f not_few b
      by false false true u f =
          let h = leb-true 2 (feeds (drop at s)) u in
          record { inner = omega (arith, h, feeds_le (drop at s), length-drop at s); two = h; by = f }

  by_lines : (xs ys ns : List ℕ) (t : Bool) → cond t (located (at + reach xs (record_lines ρ ns)) ns) (refused TooFewLines) ≡ refused p → locate_lines ρ ys at ns ≡ refused p
  by_lines xs ys ns true e = no_record (sym e)
  by_lines xs ys ns false e = not_by e not_few b

  by_release_lem : (xs ys ns : List ℕ) (r : Result (Unit {0}) Refusal) → locate_release ρ xs at ns r ≡ refused p → locate_release ρ ys at ns r ≡ refused p
  by_release_lem xs ys ns (Ok _) e = by_lines xs ys ns (leb (record_lines ρ ns) (feeds xs)) e
  by_release_lem xs ys ns (Err r) e = e

  by_index : (xs ys : List ℕ) (q : Indexed) → locate_index ρ xs at q ≡ refused p → locate_index ρ ys at q ≡ refused p
  by_index xs ys (counts ns) e = by_release_lem xs ys ns (release_of ns) e
  by_index xs ys misformed e = e

  pub refused_local : (s t : List ℕ) → lines 2 (drop at s) ≡ lines 2 (drop at t) → locate ρ s at ≡ refused p → locate ρ t at ≡ refused p
  refused_local s t e f =
      let x = from_index s f in
      let two = has_two (drop at s) (drop at t) x.two e in
      locate_index_lem ρ t at (omega (arith, two, feeds_le (drop at t), length-drop at t)) two
      ∙ by_index (drop at s) (drop at t) (read_index ρ (drop at t)) (ap (locate_index ρ (drop at s) at) (sym (index_local ρ (drop at s) (drop at t) x.two e)) ∙ x.by)

-- ---- replies 0 and 7: these two lines, and the line feeds of the whole record

module _ (ρ : Rules) where
  pub located_local : (s t : List ℕ) (at n : ℕ) (ns : List ℕ) → lines 2 (drop at s) ≡ lines 2 (drop at t) → map is_feed (part at n s) ≡ map is_feed (part at n t)
      → locate ρ s at ≡ located n ns → locate ρ t at ≡ located n ns
  located_local s t at n ns e m f =
      let p = located_is ρ s at n ns f in
      let two = has_two (drop at s) (drop at t) p.head e in
      let a = behind_at_local s t at (record_lines ρ ns) n m (is_at s at (record_lines ρ ns) n record { many = p.many; place = p.next }) in
      let q = at_is t at (record_lines ρ ns) n a in
      is_located ρ t at n ns record {
        inside = omega (arith, two, feeds_le (drop at t), length-drop at t);
        head = two;
        index = sym (index_local ρ (drop at s) (drop at t) p.head e) ∙ p.index;
        release = p.release;
        many = q.many;
        next = q.place;
      }

-- the answers and the counts, which follow from what is located
pub placing_same : (ρ : Rules) (s t : List ℕ) (at : ℕ) → locate ρ s at ≡ locate ρ t at → (placing_of ρ s at ≡ placing_of ρ t at) × (counts_at ρ s at ≡ counts_at ρ t at)
unfolding placing_of counts_at
placing_same ρ s t at e = (ap placing_by e, ap counts_by e)
