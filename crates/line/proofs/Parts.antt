-- Parts that are exactly so many lines of a text: where lines begin; R7 of the part; the answer is true exactly if the plain statement holds;
-- the lines that a text has from a place on, and those behind other lines, are such parts; the answer as the code finds it.
-- Assumes nothing.
use mathlib.Core.Path.{◌≡◌, refl, sym, ◌∙◌, ap, subst}
use mathlib.Core.Bool.{Bool, true, false, ◌&&◌}
use mathlib.Core.List.{List}
use mathlib.Core.Logic.{◌↔◌, ⊎_elim}
use Prim.Native.Nat.{ℕ, zero, suc, ◌+◌, ◌-◌, ◌<◌, ◌≤◌}
use native.Mathlib.Omega.{arith}
use lib.Dec.{leb, eqb, eqb-suc-zero}
use lib.ListN.{length, take, drop, get_or, length-drop}
use lib.Seq.{get_or-take, get_or-drop, drop-drop, take_all, length-take-le}
use borrow.Author.Tests.{le-leb, lt-leb, leb-true, eq-eqb, ne_eqb, eqb-true}
use Rattle.base.specs.Part.{part}
use Rattle.base.proofs.Choice.{and_first, and_second, and_false, test_same}
use Rattle.base.proofs.Order.{le_or_lt}
use Rattle.line.specs.Lines.{is_feed, feeds, reach, behind, Whole}
use Rattle.line.specs.Parts.{LineStart, text_start, behind_feed, AreLines, lies_within, begins_line, is_whole, are_lines}
use Rattle.std.proofs.Common.{Option, Some, None, ◌⊎◌, inl, inr, nat_eq}
use Rattle.std.specs.Option.{option_eq}
use Rattle.line.specs.Places.{behind_at}
use Rattle.line.proofs.Feeds.{feeds_le, feeds_cut, feeds_drop_feed}
use Rattle.line.proofs.Last.{reach_last, whole_last, last_whole, feeds_reach}
use Rattle.line.proofs.Places.{is_at, few_is, whole_at}
use Rattle.line.proofs.Reach.{reach_zero, reach_le, reach_add, reach_least, feeds_behind}
use Rattle.line.proofs.Whole.{whole_lines}

-- ---- where a line begins

pub line_start_within : (s : List ℕ) (at : ℕ) → LineStart s at → at ≤ length s
line_start_within s at text_start = omega arith
line_start_within s at (behind_feed i h e) = h

-- behind a line there is a line start, wherever the line was entered
pub reach_starts : (s : List ℕ) (at k : ℕ) → 1 ≤ k → k ≤ feeds (drop at s) → LineStart s (at + reach (drop at s) k)
reach_starts s at k p h =
    let n = at + (reach (drop at s) k - 1) in
    let r = reach_least (drop at s) k h in
    let e : suc n ≡ at + reach (drop at s) k = omega arith in
    let f : get_or s n 0 ≡ 10 = sym (get_or-drop at s (reach (drop at s) k - 1) 0) ∙ reach_last (drop at s) k p h in
    subst (LineStart s) e (behind_feed n (omega (arith, reach_le (drop at s) k, length-drop at s)) f)

-- and no line begins inside it
pub line_start_later : (s : List ℕ) (at p : ℕ) → LineStart s p → at < p → at + reach (drop at s) 1 ≤ p
line_start_later s at p text_start l = absurd (omega arith)
line_start_later s at p (behind_feed i h e) l =
    let x = take (suc i - at) (drop at s) in
    let long : length x ≡ suc i - at = length-take-le (suc i - at) (drop at s) (omega (arith, length-drop at s)) in
    let at-feed : at + (i - at) ≡ i = omega arith in
    let feed : get_or x (i - at) 0 ≡ 10 = get_or-take (suc i - at) (drop at s) (i - at) 0 (omega arith) ∙ get_or-drop at s (i - at) 0 ∙ ap (λ n. get_or s n 0) at-feed ∙ e in
    let some : 1 ≤ feeds x = omega (arith, feeds_cut (i - at) x, feeds_drop_feed x (i - at) (omega arith) feed) in
    omega (arith, feeds_reach (drop at s) 1 (suc i - at) some)

-- ---- R7 of the part

module _ (s : List ℕ) (from to : ℕ) where
  part_long : from ≤ to → to ≤ length s → length (part from to s) ≡ to - from
  part_long h l = length-take-le (to - from) (drop from s) (omega (arith, length-drop from s))

  -- the last byte of a part
  part_last : from < to → to ≤ length s → get_or (part from to s) (length (part from to s) - 1) 0 ≡ get_or s (to - 1) 0
  part_last h l =
      let i = to - from - 1 in
      let e : from + i ≡ to - 1 = omega arith in
      ap (λ n. get_or (part from to s) (n - 1) 0) (part_long (omega arith) l)
      ∙ get_or-take (to - from) (drop from s) i 0 (omega arith) ∙ get_or-drop from s i 0 ∙ ap (λ n. get_or s n 0) e

module _ (s : List ℕ) (from to lines : ℕ) where
  pub are_whole : AreLines s from to lines → Whole lines (part from to s)
  are_whole u = ⊎_elim some empty (le_or_lt 1 lines)
    where
      n : length (part from to s) ≡ to - from
      n = part_long s from to u.order u.within

      some : 1 ≤ lines → Whole lines (part from to s)
      some h =
          let l : 0 < length (part from to s) = omega (arith, feeds_le (part from to s), u.as_many) in
          subst (λ k. Whole k (part from to s)) u.as_many (last_whole (part from to s) l (part_last s from to (omega (arith, n)) u.within ∙ u.last h))

      empty : lines < 1 → Whole lines (part from to s)
      empty h =
          let z : lines ≡ 0 = omega arith in
          record { many = u.as_many; ends = ap (reach (part from to s)) z ∙ omega (arith, reach_zero (part from to s), n, u.none z) }

  pub whole_are : from ≤ to → to ≤ length s → LineStart s from → Whole lines (part from to s) → AreLines s from to lines
  whole_are h l b w = record {
    order = h;
    within = l;
    begins = b;
    as_many = w.many;
    last = λ p. sym (part_last s from to (omega (arith, n, feeds_le (part from to s), w.many)) l) ∙ whole_last (part from to s) p w;
    none = λ z. omega (arith, n, w.ends, ap (reach (part from to s)) z, reach_zero (part from to s));
  }
    where
      n : length (part from to s) ≡ to - from
      n = part_long s from to h l

-- ---- the answer

is_whole_lem : (k : ℕ) (a : List ℕ) → is_whole k a ≡ true ↔ Whole k a
is_whole_lem k a = (told, tested)
  where
    told : is_whole k a ≡ true → Whole k a
    told e = record {
      many = eqb-true (feeds a) k (and_first (eqb (feeds a) k) (eqb (reach a k) (length a)) e);
      ends = eqb-true (reach a k) (length a) (and_second (eqb (feeds a) k) (eqb (reach a k) (length a)) e);
    }

    tested : Whole k a → is_whole k a ≡ true
    tested w = rw (eq-eqb (feeds a) k w.many, eq-eqb (reach a k) (length a) w.ends)

pub lies_within_lem : (s : List ℕ) (from to : ℕ) → lies_within s from to ≡ true → (from ≤ to) × (to ≤ length s)
unfolding lies_within
lies_within_lem s from to e =
    (leb-true from to (and_first (leb from to) (leb to (length s)) e), leb-true to (length s) (and_second (leb from to) (leb to (length s)) e))

-- behind a byte
begins_behind : (s : List ℕ) (i : ℕ) → begins_line s (suc i) ≡ (leb (suc i) (length s) && is_feed (get_or s i 0))
unfolding begins_line
begins_behind s i =
    let m : suc i - 1 ≡ i = omega arith in
    rw (eqb-suc-zero i, m)

pub begins_line_lem : (s : List ℕ) (at : ℕ) → begins_line s at ≡ true ↔ LineStart s at
unfolding begins_line
begins_line_lem s at = (told at, tested at)
  where
    told : (i : ℕ) → begins_line s i ≡ true → LineStart s i
    told zero e = text_start
    told (suc i) e =
        let f = sym (begins_behind s i) ∙ e in
        behind_feed i (leb-true (suc i) (length s) (and_first (leb (suc i) (length s)) (is_feed (get_or s i 0)) f))
        (eqb-true (get_or s i 0) 10 (and_second (leb (suc i) (length s)) (is_feed (get_or s i 0)) f))

    tested : (j : ℕ) → LineStart s j → begins_line s j ≡ true
    tested j text_start = refl
    tested j (behind_feed i h e) = begins_behind s i ∙ rw (le-leb (suc i) (length s) h, eq-eqb (get_or s i 0) 10 e)

pub are_lines_lem : (s : List ℕ) (from to lines : ℕ) → are_lines s from to lines ≡ true ↔ AreLines s from to lines
unfolding are_lines lies_within
are_lines_lem s from to lines = (told, tested)
  where
    inside : Bool
    inside = lies_within s from to

    behind_start : Bool
    behind_start = begins_line s from && is_whole lines (part from to s)

    told : are_lines s from to lines ≡ true → AreLines s from to lines
    told e =
        let p = lies_within_lem s from to (and_first inside behind_start e) in
        let q = and_second inside behind_start e in
        whole_are s from to lines p.0 p.1
        ((begins_line_lem s from).0 (and_first (begins_line s from) (is_whole lines (part from to s)) q))
        ((is_whole_lem lines (part from to s)).0 (and_second (begins_line s from) (is_whole lines (part from to s)) q))

    tested : AreLines s from to lines → are_lines s from to lines ≡ true
    tested u =
        rw (
          le-leb from to u.order,
          le-leb to (length s) u.within,
          (begins_line_lem s from).1 u.begins,
          (is_whole_lem lines (part from to s)).1 (are_whole s from to lines u),
        )

-- ---- the lines that a text has

-- from a line start
pub lines_from : (s : List ℕ) (at j : ℕ) → LineStart s at → j ≤ feeds (drop at s) → AreLines s at (at + reach (drop at s) j) j
lines_from s at j b h =
    let r = reach (drop at s) j in
    let e : r ≡ at + r - at = omega arith in
    whole_are s at (at + r) j (omega arith) (omega (arith, reach_le (drop at s) j, length-drop at s, line_start_within s at b)) b
    (subst (λ n. Whole j (take n (drop at s))) e (whole_lines (drop at s) j h))

-- j lines behind the first k, wherever the first of those was entered
pub lines_there : (s : List ℕ) (at k j : ℕ) → 1 ≤ k → k + j ≤ feeds (drop at s) → AreLines s (at + reach (drop at s) k) (at + reach (drop at s) (k + j)) j
lines_there s at k j p h =
    let xs = drop at s in
    let n = at + reach xs k in
    let d : drop n s ≡ behind k xs = sym (drop-drop (reach xs k) at s) in
    let f : j ≤ feeds (drop n s) = omega (arith, ap feeds d, feeds_behind xs k (omega arith)) in
    let e : n + reach (drop n s) j ≡ at + reach xs (k + j) = omega (arith, ap (λ (y : List ℕ). reach y j) d, reach_add xs k j) in
    subst (λ to. AreLines s n to j) e (lines_from s n j (reach_starts s at k p (omega arith)) f)

-- ---- as the code asks: by the place behind the lines

-- R7 by that place: a text is exactly k lines if its end is the place behind them
whole_end : (a : List ℕ) (k : ℕ) → behind_at a 0 k ≡ Some (length a) → Whole k a
whole_end a k e = subst (Whole k) (take_all (length a - 0) a (omega arith)) (whole_at a 0 k (length a) e)

end_whole : (a : List ℕ) (k : ℕ) → Whole k a → behind_at a 0 k ≡ Some (length a)
end_whole a k w = is_at a 0 k (length a) record { many = omega (arith, w.many); place = omega (arith, w.ends) }

whole_told : (a : List ℕ) (k n : ℕ) → behind_at a 0 k ≡ Some n → eqb n (length a) ≡ is_whole k a
whole_told a k n e = test_same (eqb n (length a)) (is_whole k a) whole found
  where
    whole : eqb n (length a) ≡ true → is_whole k a ≡ true
    whole t = (is_whole_lem k a).1 (whole_end a k (e ∙ ap Some (eqb-true n (length a) t)))

    found : is_whole k a ≡ true → eqb n (length a) ≡ true
    found t =
        let f = sym e ∙ end_whole a k ((is_whole_lem k a).0 t) in
        let g : n ≡ length a = cc in
        eq-eqb n (length a) g

whole_few : (a : List ℕ) (k : ℕ) → behind_at a 0 k ≡ None → is_whole k a ≡ false
whole_few a k e = rw (ne_eqb (feeds a) k (λ f. omega (arith, few_is a 0 k e)))

whole_asked : (a : List ℕ) (k : ℕ) → is_whole k a ≡ option_eq nat_eq (behind_at a 0 k) (Some (length a))
whole_asked a k = go (behind_at a 0 k) refl
  where
    go : (o : Option ℕ) → behind_at a 0 k ≡ o → is_whole k a ≡ option_eq nat_eq o (Some (length a))
    go (Some n) e = sym (whole_told a k n e)
    go None e = whole_few a k e

module _ (s : List ℕ) (from to lines : ℕ) where
  pub lines_no_part : (to < from) ⊎ (length s < to) → are_lines s from to lines ≡ false
  unfolding are_lines lies_within
  lines_no_part (inl h) = rw (lt-leb from to h)
  lines_no_part (inr h) = rw (lt-leb to (length s) h, and_false (leb from to))

  pub lines_asked : from ≤ to → to ≤ length s
      → are_lines s from to lines ≡ (begins_line s from && option_eq nat_eq (behind_at (part from to s) 0 lines) (Some (length (part from to s))))
  unfolding are_lines lies_within
  lines_asked h l = rw (le-leb from to h, le-leb to (length s) l, whole_asked (part from to s) lines)
