-- The place behind k lines, told by bytes: the byte before it is a line feed, k line feeds stand before it, and it is the first place
-- of which that is so.
-- Assumes nothing.
use mathlib.Core.Path.{◌≡◌, refl, sym, ◌∙◌, ap}
use mathlib.Core.Bool.{Bool, true, false, cond}
use mathlib.Core.List.{List, [], ◌∷◌}
use mathlib.Core.Logic.{⊎_elim}
use Prim.Native.Nat.{ℕ, zero, suc, ◌+◌, ◌-◌, ◌<◌, ◌≤◌}
use native.Mathlib.Omega.{arith}
use lib.ListN.{length, take, drop, get_or, length-take, length-drop, take-append-drop}
use lib.Seq.{get_or-take, get_or-drop, length-take-le, take-take}
use borrow.Author.Tests.{eqb-true}
use Rattle.base.proofs.Order.{le_or_lt}
use Rattle.line.specs.Lines.{is_feed, feeds, reach, lines, behind, Whole, Plain}
use Rattle.line.proofs.Feeds.{feeds_cons, feeds_cut, plain_only_if}
use Rattle.line.proofs.Reach.{reach_zero, reach_le, reach_append, reach_least, feeds_behind, feeds_lines, length_lines}
use Rattle.line.proofs.Whole.{reach_whole}

-- the last byte of k lines is a line feed
pub reach_last : (xs : List ℕ) (k : ℕ) → 0 < k → k ≤ feeds xs → get_or xs (reach xs k - 1) 0 ≡ 10
unfolding feeds reach
reach_last [] k p h = absurd (omega arith)
reach_last (x ∷ xs) zero p h = absurd (omega arith)
reach_last (x ∷ xs) (suc k) p h = byte (is_feed x) refl (rw feeds_cons at h) (λ j q l. further j q l (reach_last xs j q l))
  where
    further : (j : ℕ) → 0 < j → j ≤ feeds xs → get_or xs (reach xs j - 1) 0 ≡ 10 → get_or (x ∷ xs) (suc (reach xs j) - 1) 0 ≡ 10
    further j q l r =
        let e : suc (reach xs j) - 1 ≡ suc (reach xs j - 1) = omega (arith, reach_least xs j l) in
        ap (λ n. get_or (x ∷ xs) n 0) e ∙ r

    feed : (j : ℕ) → x ≡ 10 → j ≤ feeds xs → (0 < j → get_or (x ∷ xs) (suc (reach xs j) - 1) 0 ≡ 10) → get_or (x ∷ xs) (suc (reach xs j) - 1) 0 ≡ 10
    feed zero e l r =
        let z : suc (reach xs 0) - 1 ≡ 0 = omega (arith, reach_zero xs) in
        ap (λ n. get_or (x ∷ xs) n 0) z ∙ e
    feed (suc j) e l r = r (omega arith)

    byte : (c : Bool) → is_feed x ≡ c → suc k ≤ cond c (suc (feeds xs)) (feeds xs) → ((j : ℕ) → 0 < j → j ≤ feeds xs → get_or (x ∷ xs) (suc (reach xs j) - 1) 0 ≡ 10)
        → get_or (x ∷ xs) (suc (reach xs (cond c k (suc k))) - 1) 0 ≡ 10
    byte true e l r = let m : k ≤ feeds xs = omega arith in feed k (eqb-true x 10 e) m (λ q. r k q m)
    byte false e l r = r (suc k) p l

pub lines_last : (xs : List ℕ) (k : ℕ) → 0 < k → k ≤ feeds xs → get_or (lines k xs) (length (lines k xs) - 1) 0 ≡ 10
lines_last xs k p h =
    rw (length_lines xs k)
    (get_or-take (reach xs k) xs (reach xs k - 1) 0 (omega (arith, reach_least xs k h)) ∙ reach_last xs k p h)

pub whole_last : {k : ℕ} (a : List ℕ) → 0 < k → Whole k a → get_or a (length a - 1) 0 ≡ 10
whole_last {k} a p u =
    ap (λ n. get_or a (n - 1) 0) (sym u.ends) ∙ reach_last a k p (omega (arith, u.many))

-- what ends in a line feed is whole lines
pub last_whole : (a : List ℕ) → 0 < length a → get_or a (length a - 1) 0 ≡ 10 → Whole (feeds a) a
unfolding Plain
last_whole a h e = record { many = refl; ends = ⊎_elim (λ g. omega (arith, reach_le a (feeds a))) short (le_or_lt (length a) (reach a (feeds a))) }
  where
    short : reach a (feeds a) < length a → reach a (feeds a) ≡ length a
    short l =
        let m = reach a (feeds a) in
        let i = length a - 1 - m in
        let s : m + i ≡ length a - 1 = omega arith in
        let z : feeds (behind (feeds a) a) ≡ 0 = omega (arith, feeds_behind a (feeds a) (omega arith)) in
        let b : i < length (behind (feeds a) a) = omega (arith, length-drop m a) in
        absurd (plain_only_if (behind (feeds a) a) i z b (get_or-drop m a i 0 ∙ ap (λ n. get_or a n 0) s ∙ e))

-- a place behind a line feed is the place behind the lines before it
pub reach_feeds : (xs : List ℕ) (n : ℕ) → 0 < n → n ≤ length xs → get_or xs (n - 1) 0 ≡ 10 → reach xs (feeds (take n xs)) ≡ n
reach_feeds xs n p h e =
    let l = length-take-le n xs h in
    let w = last_whole (take n xs) (omega arith) (ap (λ m. get_or (take n xs) (m - 1) 0) l ∙ get_or-take n xs (n - 1) 0 (omega arith) ∙ e) in
    ap (λ (y : List ℕ). reach y (feeds (take n xs))) (sym (take-append-drop n xs)) ∙ reach_whole (drop n xs) w ∙ l

-- k line feeds stand in the first n bytes exactly if the first k lines reach no further
pub feeds_reach : (xs : List ℕ) (k n : ℕ) → k ≤ feeds (take n xs) → reach xs k ≤ n
feeds_reach xs k n h =
    let e : reach xs k ≡ reach (take n xs) k = ap (λ (y : List ℕ). reach y k) (sym (take-append-drop n xs)) ∙ reach_append (take n xs) (drop n xs) k h in
    omega (arith, reach_le (take n xs) k, length-take n xs)

pub reach_feeds_le : (xs : List ℕ) (k n : ℕ) → k ≤ feeds xs → reach xs k ≤ n → k ≤ feeds (take n xs)
reach_feeds_le xs k n h l =
    let t : take (reach xs k) (take n xs) ≡ lines k xs = take-take (reach xs k) n xs l in
    omega (arith, feeds_cut (reach xs k) (take n xs), ap feeds t, feeds_lines xs k h)
