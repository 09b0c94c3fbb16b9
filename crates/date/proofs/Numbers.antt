-- The number that digits make, read from the first digit to the last: one that is too great already stays so.
-- Assumes nothing.
use Rattle.std.specs.Prelude.{Option, Some, None}
use mathlib.Core.Path.{◌≡◌}
use mathlib.Core.Bool.{true, cond, ◌&&◌}
use mathlib.Core.List.{List, [], ◌∷◌}
use Prim.Native.Nat.{ℕ, suc, ◌+◌, ◌-◌, ◌*◌, ◌<◌, ◌≤◌}
use native.Mathlib.Omega.{arith}
use borrow.Author.Tests.{lt-leb, le-leb}
use lib.Dec.{leb}
use lib.ListN.{length, drop, get_or}
use lib.Seq.{drop-cons}
use Rattle.base.specs.Digits.{number_from}
use Rattle.base.specs.Every.{every}
use Rattle.base.proofs.Choice.{and_false}
use Rattle.date.specs.Digits.{is_digit, digits_shown, within}

pub digit_is : (b : ℕ) → 48 ≤ b → b ≤ 57 → is_digit b ≡ true
digit_is b h k = rw (le-leb 48 b h, le-leb b 57 k)

-- ---- bytes behind those whose digits made m

abbrev pub read_from : ℕ → ℕ → ℕ → List ℕ → Option ℕ
read_from m least greatest bs =
    cond (every is_digit bs && within least greatest (number_from m (digits_shown bs))) (Some (number_from m (digits_shown bs))) None

number_grows : (m : ℕ) (ds : List ℕ) → m ≤ number_from m ds
number_grows m [] = omega arith
number_grows m (d ∷ ds) = omega (arith, number_grows (m * 10 + d) ds)

module _ (least greatest : ℕ) where
  too_great : (bs : List ℕ) (m : ℕ) → greatest < m → read_from m least greatest bs ≡ None
  too_great bs m h =
      rw (
        lt-leb (number_from m (digits_shown bs)) greatest (omega (arith, number_grows m (digits_shown bs))),
        and_false (leb least (number_from m (digits_shown bs))),
        and_false (every is_digit bs),
      )

  pub number_over : (s : List ℕ) (i m : ℕ) → i < length s → is_digit (get_or s i 0) ≡ true → greatest < m * 10 + (get_or s i 0 - 48) → read_from m least greatest (drop i s) ≡ None
  number_over s i m h d g = rw (drop-cons s i 0 h, d) (too_great (drop (suc i) s) (m * 10 + (get_or s i 0 - 48)) g)
