-- The place behind k lines from a place: what each answer means; k then j lines; nothing before the place and nothing behind the last
-- line feed found matters; only the places of line feeds matter; one byte or one block more, as the code looks at it.
-- Assumes nothing.
use mathlib.Core.Path.{◌≡◌, refl, sym, ◌∙◌, ap, subst}
use mathlib.Core.Bool.{Bool, true, false, cond}
use mathlib.Core.List.{List, [], ◌++◌, map}
use mathlib.Core.Logic.{⊎_elim}
use Prim.Native.Nat.compare
use Prim.Native.Nat.{ℕ, zero, suc, ◌+◌, ◌-◌, ◌<◌, ◌≤◌}
use native.Mathlib.Omega.{arith}
use native.Mathlib.Nat.{add-suc, suc-add, add-zero}
use native.Mathlib.Numerals.{add-one}
use lib.Dec.{leb}
use lib.ListN.{length, take, drop, get_or, length-append, length-drop, take-append-drop, drop_of_length-le}
use lib.Seq.{length-take-le, drop-drop, drop-append-add, drop-append-le, drop-append_seam}
use borrow.Author.Tests.{le-leb, lt-leb, leb-true, leb-false}
use Rattle.base.specs.Part.{part}
use Rattle.base.proofs.Part.{part_within}
use Rattle.base.proofs.Taken.{drop_none}
use Rattle.base.proofs.Mapped.{map_length}
use Rattle.base.proofs.Order.{le_or_lt}
use Rattle.line.specs.Lines.{is_feed, feeds, reach, lines, behind, Whole}
use Rattle.line.specs.Places.{behind_at}
use Rattle.line.specs.Texts.{SameLines}
use Rattle.std.proofs.Common.{Some, None}
use Rattle.line.proofs.Feeds.{feeds_append, feeds_nil, feeds_drop_feed, feeds_drop_other}
use Rattle.line.proofs.Reach.{reach_zero, reach_le, reach_add, reach_all, reach_nil, reach_append, reach_append_few, reach_drop_feed, reach_drop_other, feeds_behind, length_lines}
use Rattle.line.proofs.Whole.{reach_whole, feeds_whole, whole_lines, whole_same}
use Rattle.line.proofs.Texts.{feeds_from, reach_from}

-- ---- what each answer means, both ways

pub record IsAt (s : List ℕ) (at k n : ℕ) : Type 0 where
  pub many : k ≤ feeds (drop at s)
  pub place : n ≡ at + reach (drop at s) k

pub is_at : (s : List ℕ) (at k n : ℕ) → IsAt s at k n → behind_at s at k ≡ Some n
unfolding behind_at
is_at s at k n h = rw (le-leb k (feeds (drop at s)) h.many) (ap Some (sym h.place))

pub at_is : (s : List ℕ) (at k n : ℕ) → behind_at s at k ≡ Some n → IsAt s at k n
unfolding behind_at
at_is s at k n e = go (leb k (feeds (drop at s))) refl e
  where
    go : (c : Bool) → leb k (feeds (drop at s)) ≡ c → cond c (Some (at + reach (drop at s) k)) None ≡ Some n → IsAt s at k n
    go true u e = record { many = leb-true k (feeds (drop at s)) u; place = cc }
    go false u e = let z : ◌≡◌ {A = ℕ} 0 1 = cc in absurd (omega arith)

pub is_few : (s : List ℕ) (at k : ℕ) → feeds (drop at s) < k → behind_at s at k ≡ None
unfolding behind_at
is_few s at k h = rw (lt-leb k (feeds (drop at s)) h)

pub few_is : (s : List ℕ) (at k : ℕ) → behind_at s at k ≡ None → feeds (drop at s) < k
unfolding behind_at
few_is s at k e = go (leb k (feeds (drop at s))) refl e
  where
    go : (c : Bool) → leb k (feeds (drop at s)) ≡ c → cond c (Some (at + reach (drop at s) k)) None ≡ None → feeds (drop at s) < k
    go true u e = let z : ◌≡◌ {A = ℕ} 0 1 = cc in absurd (omega arith)
    go false u e = leb-false k (feeds (drop at s)) u

-- the place lies between the one asked about and the text's end
pub at_range : (s : List ℕ) (at k n : ℕ) → at ≤ length s → behind_at s at k ≡ Some n → (at ≤ n) × (n ≤ length s)
at_range s at k n h e =
    let p = at_is s at k n e in
    (omega (arith, p.place), omega (arith, p.place, reach_le (drop at s) k, length-drop at s))

-- the lines up to the place are the part of the text up to it
pub lines_at : (s : List ℕ) (at k n : ℕ) → behind_at s at k ≡ Some n → lines k (drop at s) ≡ part at n s
lines_at s at k n e =
    let d : reach (drop at s) k ≡ n - at = omega (arith, (at_is s at k n e).place) in
    ap (λ m. take m (drop at s)) d

pub whole_at : (s : List ℕ) (at k n : ℕ) → behind_at s at k ≡ Some n → Whole k (part at n s)
whole_at s at k n e = subst (Whole k) (lines_at s at k n e) (whole_lines (drop at s) k (at_is s at k n e).many)

-- ---- one byte more

pub behind_at_none : (s : List ℕ) (i : ℕ) → behind_at s i 0 ≡ Some i
behind_at_none s i = is_at s i 0 i record { many = omega arith; place = omega (arith, reach_zero (drop i s)) }

pub behind_at_out : (s : List ℕ) (i k : ℕ) → length s ≤ i → 0 < k → behind_at s i k ≡ None
behind_at_out s i k h p = is_few s i k (rw (drop_of_length-le s h, feeds_nil) p)

pub behind_at_feed : (s : List ℕ) (i k : ℕ) → i < length s → 0 < k → get_or s i 0 ≡ 10 → behind_at s i k ≡ behind_at s (i + 1) (k - 1)
unfolding behind_at
behind_at_feed s i zero h p e = absurd (omega arith)
behind_at_feed s i (suc k) h p e =
    let m : suc k - 1 ≡ k = omega arith in
    rw (m, add-one, feeds_drop_feed s i h e, reach_drop_feed s i k h e, compare.suc-suc, add-suc, ← suc-add)

pub behind_at_last : (s : List ℕ) (i k : ℕ) → i < length s → k ≡ 1 → get_or s i 0 ≡ 10 → behind_at s i k ≡ Some (i + 1)
behind_at_last s i k h p e =
    let z : k - 1 ≡ 0 = omega arith in
    behind_at_feed s i k h (omega arith) e ∙ ap (behind_at s (i + 1)) z ∙ behind_at_none s (i + 1)

pub behind_at_other : (s : List ℕ) (i k : ℕ) → i < length s → 0 < k → (get_or s i 0 ≡ 10 → ⊥) → behind_at s i k ≡ behind_at s (i + 1) k
unfolding behind_at
behind_at_other s i zero h p n = absurd (omega arith)
behind_at_other s i (suc k) h p n =
    rw (add-one, feeds_drop_other s i h n, reach_drop_other s i k h n, add-suc, ← suc-add)

-- what `place_behind` cites
pub ruleset byte_by_byte = (behind_at_none, behind_at_out, behind_at_feed, behind_at_last, behind_at_other)

-- ---- a block more that has fewer lines than are sought: x stands at the place, and y behind it

module _ (s : List ℕ) (i m : ℕ) (x y : List ℕ) (d : drop i s ≡ x ++ y) (long : length x ≡ m) where
  pub drop_block : drop (i + m) s ≡ y
  drop_block = sym (drop-drop m i s) ∙ ap (drop m) d ∙ rw (← long) (drop-append_seam x y)

  pub block_within : i ≤ length s → i + m ≤ length s
  block_within h = omega (arith, ap length d, length-append x y, length-drop i s)

  pub behind_block : (k n : ℕ) → n ≡ feeds x → n < k → behind_at s (i + m) (k - n) ≡ behind_at s i k
  behind_block k n u p =
      let f : feeds (drop i s) ≡ n + feeds y = ap feeds d ∙ feeds_append x y ∙ omega arith in
      let r : reach (drop i s) k ≡ m + reach y (k - n) = ap (λ (z : List ℕ). reach z k) d ∙ rw (u, ← long) (reach_append_few x y k (omega arith)) in
      ⊎_elim
      (λ (l : k ≤ feeds (drop i s)).
      is_at s (i + m) (k - n) (i + m + reach y (k - n)) record { many = rw drop_block (omega arith); place = rw drop_block refl }
      ∙ sym (is_at s i k (i + m + reach y (k - n)) record { many = l; place = omega arith }))
      (λ (l : feeds (drop i s) < k). is_few s (i + m) (k - n) (rw drop_block (omega arith)) ∙ sym (is_few s i k l))
      (le_or_lt k (feeds (drop i s)))

-- the same of a part of the text
pub behind_at_passed : (s : List ℕ) (i e k n : ℕ) → i ≤ e → e ≤ length s → n ≡ feeds (part i e s) → n < k → behind_at s e (k - n) ≡ behind_at s i k
behind_at_passed s i e k n h l u p =
    let m = e - i in
    let long = length-take-le m (drop i s) (omega (arith, length-drop i s)) in
    let q : i + m ≡ e = omega arith in
    subst (λ j. behind_at s j (k - n) ≡ behind_at s i k) q (behind_block s i m (take m (drop i s)) (drop m (drop i s)) (sym (take-append-drop m (drop i s))) long k n u p)

-- what `past_blocks` cites
pub ruleset past_block = (drop_block, block_within, behind_block)

-- ---- j lines and then k lines

pub behind_at_then : (s : List ℕ) (at j k n : ℕ) → behind_at s at j ≡ Some n → behind_at s at (j + k) ≡ behind_at s n k
behind_at_then s at j k n e =
    let p = at_is s at j n e in
    let xs = drop at s in
    let d : drop n s ≡ behind j xs = ap (λ m. drop m s) p.place ∙ sym (drop-drop (reach xs j) at s) in
    let f = feeds_behind xs j p.many in
    let g : feeds (drop n s) ≡ feeds (behind j xs) = ap feeds d in
    let r : reach (drop n s) k ≡ reach (behind j xs) k = ap (λ (y : List ℕ). reach y k) d in
    ⊎_elim
    (λ (l : k ≤ feeds (drop n s)).
    is_at s at (j + k) (n + reach (drop n s) k) record { many = omega arith; place = omega (arith, p.place, reach_add xs j k) }
    ∙ sym (is_at s n k (n + reach (drop n s) k) record { many = l; place = refl }))
    (λ (l : feeds (drop n s) < k). is_few s at (j + k) (omega arith) ∙ sym (is_few s n k l))
    (le_or_lt k (feeds (drop n s)))

pub few_then : (s : List ℕ) (at j k : ℕ) → behind_at s at j ≡ None → behind_at s at (j + k) ≡ None
few_then s at j k e = is_few s at (j + k) (omega (arith, few_is s at j e))

-- ---- nothing before the place matters

pub behind_at_from : (s t : List ℕ) (at k : ℕ) → drop at s ≡ drop at t → behind_at s at k ≡ behind_at t at k
unfolding behind_at
behind_at_from s t at k e = rw e

pub behind_at_moved : (a s : List ℕ) (at k n : ℕ) → behind_at s at k ≡ Some n → behind_at (a ++ s) (length a + at) k ≡ Some (length a + n)
behind_at_moved a s at k n e =
    let p = at_is s at k n e in
    let d = drop-append-add a s at in
    is_at (a ++ s) (length a + at) k (length a + n) record {
      many = rw d p.many;
      place = rw d (omega (arith, p.place));
    }

pub few_moved : (a s : List ℕ) (at k : ℕ) → behind_at s at k ≡ None → behind_at (a ++ s) (length a + at) k ≡ None
few_moved a s at k e = is_few (a ++ s) (length a + at) k (rw (drop-append-add a s at) (few_is s at k e))

-- ---- nothing behind the last line feed found matters, and before it only where the line feeds are

pub behind_at_local : (s t : List ℕ) (at k n : ℕ) → map is_feed (part at n s) ≡ map is_feed (part at n t) → behind_at s at k ≡ Some n → behind_at t at k ≡ Some n
behind_at_local s t at k n m e =
    let p = at_is s at k n e in
    let xs = drop at s in
    let ys = drop at t in
    let j : n - at ≡ reach xs k = omega (arith, p.place) in
    let w : Whole k (take (n - at) ys) = whole_same (take (n - at) xs) (take (n - at) ys) m (whole_at s at k n e) in
    let c : take (n - at) ys ++ drop (n - at) ys ≡ ys = take-append-drop (n - at) ys in
    let f : feeds ys ≡ k + feeds (drop (n - at) ys) = ap feeds (sym c) ∙ feeds_whole (drop (n - at) ys) w in
    let r : reach ys k ≡ length (take (n - at) ys) = ap (λ (y : List ℕ). reach y k) (sym c) ∙ reach_whole (drop (n - at) ys) w in
    let l : length (take (n - at) ys) ≡ reach xs k = sym (map_length is_feed (take (n - at) xs) (take (n - at) ys) m) ∙ rw j (length_lines xs k) in
    is_at t at k n record { many = omega arith; place = omega (arith, p.place) }

pub behind_at_append : (s b : List ℕ) (at k n : ℕ) → behind_at s at k ≡ Some n → behind_at (s ++ b) at k ≡ Some n
behind_at_append s b at k n e =
    let p = at_is s at k n e in
    ⊎_elim
    (λ (l : at ≤ length s).
    let d = drop-append-le at s b l in
    is_at (s ++ b) at k n record {
      many = rw d (omega (arith, p.many, feeds_append (drop at s) b));
      place = rw (d, reach_append (drop at s) b k p.many) p.place;
    })
    (λ (l : length s < at).
    let o : drop at s ≡ [] = drop_of_length-le s {i = at} (omega arith) in
    let z : k ≡ 0 = omega (arith, p.many, ap feeds o, feeds_nil) in
    let y : n ≡ at = omega (arith, p.place, ap (reach (drop at s)) z, reach_zero (drop at s)) in
    rw (z, y) (behind_at_none (s ++ b) at))
    (le_or_lt at (length s))

-- what is found within a text was there before bytes were added
pub behind_at_within : (s b : List ℕ) (at k n : ℕ) → n ≤ length s → behind_at (s ++ b) at k ≡ Some n → behind_at s at k ≡ Some n
behind_at_within s b at k n h e =
    let p = at_is (s ++ b) at k n e in
    let l : at ≤ n = omega (arith, p.place) in
    behind_at_local (s ++ b) s at k n (ap (map is_feed) (part_within s b at n l h)) e

-- ---- only the places of line feeds matter

pub behind_at_same : (s t : List ℕ) (at k : ℕ) → SameLines s t → behind_at s at k ≡ behind_at t at k
unfolding behind_at
behind_at_same s t at k h = rw (feeds_from s t at h, reach_from s t at k h)

-- ---- k lines between other bytes end where they end

pub behind_at_lines : {k : ℕ} {a : List ℕ} (p b : List ℕ) → Whole k a → behind_at (p ++ (a ++ b)) (length p) k ≡ Some (length p + length a)
behind_at_lines {k} {a} p b u =
    let d = drop-append_seam p (a ++ b) in
    is_at (p ++ (a ++ b)) (length p) k (length p + length a) record {
      many = rw d (omega (arith, feeds_whole b u));
      place = rw d (ap (λ n. length p + n) (sym (reach_whole b u)));
    }

-- ---- behind the line that a place stands in, or at the end

-- a line's end right there
pub reach_first : (s : List ℕ) → 1 ≤ length s → get_or s 0 0 ≡ 10 → reach s 1 ≡ 1
reach_first s h e = rw drop_none at (reach_drop_feed s 0 0 h e) ∙ ap suc (reach_zero (drop 1 s))

pub reach_second : (s : List ℕ) → 2 ≤ length s → (get_or s 0 0 ≡ 10 → ⊥) → get_or s 1 0 ≡ 10 → reach s 1 ≡ 2
reach_second s h other e =
    rw drop_none at (reach_drop_other s 0 0 (omega arith) other) ∙ ap suc (reach_drop_feed s 1 0 (omega arith) e) ∙ ap (λ n. suc (suc n)) (reach_zero (drop 2 s))

module _ (s : List ℕ) (at : ℕ) where
  pub reach_beyond : length s ≤ at → at ≡ at + reach (drop at s) 1
  reach_beyond h = rw (drop_of_length-le s {i = at} h, reach_nil 1) (sym (add-zero at))

  pub reach_at : (k n : ℕ) → behind_at s at k ≡ Some n → n ≡ at + reach (drop at s) k
  reach_at k n e = (at_is s at k n e).place

  pub reach_end : at ≤ length s → behind_at s at 1 ≡ None → length s ≡ at + reach (drop at s) 1
  reach_end h e = omega (arith, reach_all (drop at s) 1 (few_is s at 1 e), length-drop at s)

-- what `behind_line` cites
pub ruleset reached = (reach_beyond, reach_first, reach_second, reach_at, reach_end)
