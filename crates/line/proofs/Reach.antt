-- How many bytes the first k lines take: lines behind one another, more lines, bytes added behind them or in front of them, equal line
-- feeds.
-- Assumes nothing.
use mathlib.Core.Path.{◌≡◌, refl, sym, ◌∙◌, ap}
use mathlib.Core.Bool.{Bool, true, false, cond}
use mathlib.Core.List.{List, [], ◌∷◌, ◌++◌, map}
use Prim.Native.Nat.{ℕ, zero, suc, ◌+◌, ◌-◌, ◌<◌, ◌≤◌}
use native.Mathlib.Omega.{arith}
use native.Mathlib.Nat.{suc-add, zero-add, sub-zero}
use lib.ListN.{length, drop, get_or, length-drop, take-append-drop}
use lib.Seq.{drop-cons, drop-drop, length-take-le, take-append-le, drop-append-le}
use borrow.Author.Tests.{eq-eqb, ne_eqb}
use Rattle.base.specs.Part.{part}
use Rattle.line.specs.Lines.{is_feed, feeds, reach, lines, behind, Plain}
use Rattle.line.proofs.Feeds.{feeds_cons, feeds_append, feeds_le}

pub reach_zero : (a : List ℕ) → reach a 0 ≡ 0
unfolding reach
reach_zero [] = refl
reach_zero (x ∷ a) = refl

pub reach_nil : (k : ℕ) → reach [] k ≡ 0
unfolding reach
reach_nil k = refl

pub reach_le : (a : List ℕ) (k : ℕ) → reach a k ≤ length a
unfolding reach
reach_le [] k = omega arith
reach_le (x ∷ a) zero = omega arith
reach_le (x ∷ a) (suc k) = omega (arith, reach_le a (cond (is_feed x) k (suc k)))

less_add : (c : Bool) (j k : ℕ) → cond c (j + k) (suc (j + k)) ≡ cond c j (suc j) + k
less_add true j k = refl
less_add false j k = sym (suc-add j k)

-- j lines and then k lines are j + k lines
pub reach_add : (a : List ℕ) (j k : ℕ) → reach a (j + k) ≡ reach a j + reach (behind j a) k
unfolding reach
reach_add [] j k = refl
reach_add (x ∷ a) zero k = rw (zero-add k, zero-add (reach (x ∷ a) k))
reach_add (x ∷ a) (suc j) k =
    let h = reach_add a (cond (is_feed x) j (suc j)) k in
    rw (suc-add j k, less_add (is_feed x) j k, h, suc-add)

pub behind_add : (a : List ℕ) (j k : ℕ) → behind (j + k) a ≡ behind k (behind j a)
behind_add a j k = ap (λ (n : ℕ). drop n a) (reach_add a j k) ∙ sym (drop-drop (reach (behind j a) k) (reach a j) a)

-- more lines reach further
pub reach_mono : (a : List ℕ) (j k : ℕ) → j ≤ k → reach a j ≤ reach a k
reach_mono a j k h =
    let e : j + (k - j) ≡ k = omega arith in
    let r : reach a k ≡ reach a j + reach (behind j a) (k - j) = ap (reach a) (sym e) ∙ reach_add a j (k - j) in
    omega arith

-- the lines that a has, whatever stands behind it
pub reach_append : (a b : List ℕ) (k : ℕ) → k ≤ feeds a → reach (a ++ b) k ≡ reach a k
unfolding feeds reach
reach_append [] b k h = let z : k ≡ 0 = omega arith in rw z (reach_zero b)
reach_append (x ∷ a) b zero h = refl
reach_append (x ∷ a) b (suc k) h = ap suc (reach_append a b (cond (is_feed x) k (suc k)) (one (is_feed x) (rw feeds_cons at h)))
  where
    one : (c : Bool) → suc k ≤ cond c (suc (feeds a)) (feeds a) → cond c k (suc k) ≤ feeds a
    one true l = omega arith
    one false l = l

pub lines_append : (a b : List ℕ) (k : ℕ) → k ≤ feeds a → lines k (a ++ b) ≡ lines k a
lines_append a b k h = rw (reach_append a b k h) (take-append-le (reach a k) a b (reach_le a k))

pub behind_append : (a b : List ℕ) (k : ℕ) → k ≤ feeds a → behind k (a ++ b) ≡ behind k a ++ b
behind_append a b k h = rw (reach_append a b k h) (drop-append-le (reach a k) a b (reach_le a k))

-- all bytes where there are fewer lines
pub reach_all : (a : List ℕ) (k : ℕ) → feeds a < k → reach a k ≡ length a
unfolding feeds reach
reach_all [] k h = refl
reach_all (x ∷ a) zero h = absurd (omega arith)
reach_all (x ∷ a) (suc k) h = ap suc (reach_all a (cond (is_feed x) k (suc k)) (one (is_feed x) (rw feeds_cons at h)))
  where
    one : (c : Bool) → cond c (suc (feeds a)) (feeds a) < suc k → feeds a < cond c k (suc k)
    one true l = omega arith
    one false l = l

-- the lines that were passed
pub feeds_behind : (xs : List ℕ) (k : ℕ) → k ≤ feeds xs → feeds (behind k xs) + k ≡ feeds xs
unfolding feeds reach
feeds_behind [] k h = omega arith
feeds_behind (x ∷ xs) zero h = omega arith
feeds_behind (x ∷ xs) (suc k) h = rw feeds_cons (one (is_feed x) (rw feeds_cons at h) (feeds_behind xs (cond (is_feed x) k (suc k))))
  where
    one : (c : Bool) → suc k ≤ cond c (suc (feeds xs)) (feeds xs) → (cond c k (suc k) ≤ feeds xs → feeds (behind (cond c k (suc k)) xs) + cond c k (suc k) ≡ feeds xs)
        → feeds (behind (cond c k (suc k)) xs) + suc k ≡ cond c (suc (feeds xs)) (feeds xs)
    one true l r = omega (arith, r (omega arith))
    one false l r = r l

pub feeds_lines : (xs : List ℕ) (k : ℕ) → k ≤ feeds xs → feeds (lines k xs) ≡ k
feeds_lines xs k h =
    omega (arith, feeds_append (lines k xs) (behind k xs), ap feeds (take-append-drop (reach xs k) xs), feeds_behind xs k h)

pub length_lines : (xs : List ℕ) (k : ℕ) → length (lines k xs) ≡ reach xs k
length_lines xs k = length-take-le (reach xs k) xs (reach_le xs k)

-- each line has a byte at least
pub reach_least : (xs : List ℕ) (k : ℕ) → k ≤ feeds xs → k ≤ reach xs k
reach_least xs k h = omega (arith, feeds_lines xs k h, feeds_le (lines k xs), length_lines xs k)

pub reach_strict : (xs : List ℕ) (j k : ℕ) → j < k → k ≤ feeds xs → reach xs j < reach xs k
reach_strict xs j k l h =
    let e : j + (k - j) ≡ k = omega arith in
    let r : reach xs k ≡ reach xs j + reach (behind j xs) (k - j) = ap (reach xs) (sym e) ∙ reach_add xs j (k - j) in
    omega (arith, reach_least (behind j xs) (k - j) (omega (arith, feeds_behind xs j (omega arith))))

-- only which bytes are line feeds matters
pub reach_same : (s t : List ℕ) (k : ℕ) → map is_feed s ≡ map is_feed t → reach s k ≡ reach t k
unfolding reach
reach_same [] [] k e = refl
reach_same [] (y ∷ t) k e = let z : ◌≡◌ {A = ℕ} 0 1 = cc in absurd (omega arith)
reach_same (x ∷ s) [] k e = let z : ◌≡◌ {A = ℕ} 0 1 = cc in absurd (omega arith)
reach_same (x ∷ s) (y ∷ t) zero e = refl
reach_same (x ∷ s) (y ∷ t) (suc k) e =
    let b : is_feed x ≡ is_feed y = cc in
    let r : map is_feed s ≡ map is_feed t = cc in
    rw b (ap suc (reach_same s t (cond (is_feed y) k (suc k)) r))

-- from a place on, by the byte there
pub reach_drop_feed : (s : List ℕ) (i k : ℕ) → i < length s → get_or s i 0 ≡ 10 → reach (drop i s) (suc k) ≡ suc (reach (drop (suc i) s) k)
unfolding reach
reach_drop_feed s i k h e = rw (drop-cons s i 0 h, eq-eqb (get_or s i 0) 10 e)

pub reach_drop_other : (s : List ℕ) (i k : ℕ) → i < length s → (get_or s i 0 ≡ 10 → ⊥) → reach (drop i s) (suc k) ≡ suc (reach (drop (suc i) s) (suc k))
unfolding reach
reach_drop_other s i k h n = rw (drop-cons s i 0 h, ne_eqb (get_or s i 0) 10 n)

-- bytes in front that have fewer lines: what they have is passed
pub reach_append_few : (a b : List ℕ) (k : ℕ) → feeds a < k → reach (a ++ b) k ≡ length a + reach b (k - feeds a)
unfolding feeds reach
reach_append_few [] b k h = rw (sub-zero k) (sym (zero-add (reach b k)))
reach_append_few (x ∷ a) b zero h = absurd (omega arith)
reach_append_few (x ∷ a) b (suc k) h = rw feeds_cons (one (is_feed x) (rw feeds_cons at h) (reach_append_few a b (cond (is_feed x) k (suc k))))
  where
    one : (c : Bool) → cond c (suc (feeds a)) (feeds a) < suc k
        → (feeds a < cond c k (suc k) → reach (a ++ b) (cond c k (suc k)) ≡ length a + reach b (cond c k (suc k) - feeds a))
        → suc (reach (a ++ b) (cond c k (suc k))) ≡ suc (length a) + reach b (suc k - cond c (suc (feeds a)) (feeds a))
    one true l r =
        let e : suc k - suc (feeds a) ≡ k - feeds a = omega arith in
        rw e (omega (arith, r (omega arith)))
    one false l r = omega (arith, r l)

-- so lines may be sought behind a part that has fewer
pub reach_passed : (s : List ℕ) (at to k : ℕ) → at ≤ to → to ≤ length s → feeds (part at to s) < k
    → to + reach (drop to s) (k - feeds (part at to s)) ≡ at + reach (drop at s) k
reach_passed s at to k h l p =
    let m = to - at in
    let e : at + m ≡ to = omega arith in
    let d : drop m (drop at s) ≡ drop to s = drop-drop m at s ∙ ap (λ n. drop n s) e in
    let n : length (part at to s) ≡ m = length-take-le m (drop at s) (omega (arith, length-drop at s)) in
    let j = k - feeds (part at to s) in
    let r : reach (drop at s) k ≡ length (part at to s) + reach (drop m (drop at s)) j =
    ap (λ (y : List ℕ). reach y k) (sym (take-append-drop m (drop at s))) ∙ reach_append_few (part at to s) (drop m (drop at s)) k p in
    omega (arith, r, n, ap (λ y. reach y j) d)

-- and a line's end behind bytes without a line feed
pub reach_past : (s : List ℕ) (at to k : ℕ) → at ≤ to → to ≤ length s → Plain (part at to s) → to + reach (drop to s) (suc k) ≡ at + reach (drop at s) (suc k)
unfolding Plain
reach_past s at to k h l p =
    let e : suc k ≡ suc k - feeds (part at to s) = omega arith in
    ap (λ n. to + reach (drop to s) n) e ∙ reach_passed s at to (suc k) h l (omega arith)
