-- How long numerals are: no longer than k digits exactly if the number is below 10 ^ k; so at most 20 digits for a u64.
-- Assumes nothing.
use mathlib.Core.Path.{◌≡◌, sym, ◌∙◌, ap}
use mathlib.Core.List.{List, [], ◌∷◌, ◌++◌}
use mathlib.Core.Logic.{⊎_elim}
use Prim.Native.Nat.{max, ℕ, zero, suc, ◌+◌, ◌-◌, ◌*◌, ◌/◌, ◌%◌, ◌^◌, ◌<◌, ◌≤◌}
use native.Mathlib.Omega.{arith}
use native.Mathlib.Nat.{pow-suc, pow-le-pow_right, div-add-mod'}
use native.Mathlib.Numerals.{add-one}
use lib.Dec.{lit<}
use lib.ListN.{length, take, drop, length-append, length-map}
use Rattle.base.specs.Columns.{columns}
use Rattle.base.specs.Part.{part, over}
use Rattle.base.proofs.Part.{part_length, over_lent}
use Rattle.base.specs.Digits.{digit_text}
use Rattle.base.proofs.Digits.{number_below}
use Rattle.base.proofs.Order.{le_or_lt}
use Rattle.decimal.specs.Numerals.{digits_of, numeral, last_byte, tenth}
use Rattle.decimal.proofs.Numerals.{by_digits, numeral_small, numeral_more, digits_each, digits_value}

pub length_small : (n : ℕ) → n < 10 → length (numeral n) ≡ 1
length_small n h = ap length (numeral_small n h)

pub length_more : (n : ℕ) → 10 ≤ n → length (numeral n) ≡ length (numeral (n / 10)) + 1
length_more n h = ap length (numeral_more n h) ∙ length-append (numeral (n / 10)) (last_byte n ∷ [])

pub length_some : (n : ℕ) → 1 ≤ length (numeral n)
length_some = by_digits (λ n. 1 ≤ length (numeral n)) (λ n h. omega (arith, length_small n h)) (λ n h r. omega (arith, length_more n h))

-- below 10 ^ k: no more than k digits
below_tenth : (n p : ℕ) → n < p * 10 → n / 10 < p
below_tenth n p h = omega (arith, div-add-mod' n 10)

pub length_within : (k n : ℕ) → n < 10 ^ suc k → length (numeral n) ≤ suc k
length_within zero n h = omega (arith, length_small n h)
length_within (suc k) n h =
    ⊎_elim
    (λ (l : 10 ≤ n). omega (arith, length_more n l, length_within k (n / 10) (below_tenth n (10 ^ suc k) (rw (pow-suc 10 (suc k)) at h))))
    (λ (l : n < 10). omega (arith, length_small n l))
    (le_or_lt 10 n)

-- and the other way
pub length_below : (n : ℕ) → n < 10 ^ length (numeral n)
unfolding numeral
length_below n =
    let l : length (digit_text (digits_of n)) ≡ length (digits_of n) = length-map (digits_of n) (λ d. 48 + d) in
    rw l (rw (digits_value n) at (number_below (digits_of n) (digits_each n)))

pub length_above : (k n : ℕ) → 10 ^ k ≤ n → k < length (numeral n)
length_above k n h =
    ⊎_elim
    (λ (l : length (numeral n) ≤ k). absurd (omega (arith, length_below n, pow-le-pow_right {n = 10} (lit< tt) {i = length (numeral n)} {j = k} l)))
    (λ (l : k < length (numeral n)). l)
    (le_or_lt (length (numeral n)) k)

-- a greater number has no fewer digits
pub length_mono : (m n : ℕ) → m ≤ n → length (numeral m) ≤ length (numeral n)
length_mono m n h = go (length (numeral n)) (length_some n) (length_below n)
  where
    go : (k : ℕ) → 1 ≤ k → n < 10 ^ k → length (numeral m) ≤ k
    go zero p b = absurd (omega arith)
    go (suc k) p b = length_within k m (omega arith)

pub length_u64 : (n : ℕ) → n < 2 ^ 64 → length (numeral n) ≤ 20
length_u64 n h = length_within 19 n (omega arith)

-- ---- by the power of ten that is not above n, or not above 1 for zero: what `digits` cites

pub digits_by_power : (n p : ℕ) → 10 ^ p ≤ max n 1 → max n 1 < 10 * 10 ^ p → p + 1 ≡ length (numeral n)
digits_by_power n zero h b = omega (arith, length_some n, length_within 0 n (omega arith))
digits_by_power n (suc q) h b =
    let ten : 10 ^ 1 ≤ 10 ^ suc q = pow-le-pow_right {n = 10} (lit< tt) {i = 1} {j = suc q} (omega arith) in
    omega (arith, length_above (suc q) n (omega arith), length_within (suc q) n (rw (pow-suc 10 (suc q)) (omega arith)))

-- ---- as a loop writes it: from the last digit to the first

pub numeral_columns : (n : ℕ) → columns last_byte tenth (length (numeral n)) n ≡ numeral n
numeral_columns =
    by_digits (λ n. columns last_byte tenth (length (numeral n)) n ≡ numeral n)
    (λ n h. rw (length_small n h) (small n h ∙ sym (numeral_small n h)))
    (λ n h r. rw (length_more n h, add-one) (ap (λ l. l ++ (last_byte n ∷ [])) r ∙ sym (numeral_more n h)))
  where
    small : (n : ℕ) → n < 10 → last_byte n ∷ [] ≡ (48 + n) ∷ []
    small n h = let e : n % 10 ≡ n = omega arith in rw e

-- and as they stand in a part that was lent
pub numeral_lent : (xs ys : List ℕ) (at end n : ℕ) → end ≡ at + length (numeral n) → end ≤ length xs → ys ≡ columns last_byte tenth (length (part at end xs)) n
    → take at xs ++ (ys ++ drop (end - at) (drop at xs)) ≡ over at (numeral n) xs
numeral_lent xs ys at end n e h p =
    let l : length (part at end xs) ≡ length (numeral n) = rw e (part_length xs at (length (numeral n)) (omega arith)) in
    let f : ys ≡ numeral n = p ∙ ap (λ k. columns last_byte tenth k n) l ∙ numeral_columns n in
    rw f (over_lent xs (numeral n) at (end - at) (omega arith))
