-- R524: a cell and its 64 bits, both ways; and that the machine's casts are these.
-- Assumes nothing.
use mathlib.Core.Path.{◌≡◌, refl}
use mathlib.Core.Bool.{Bool, true, false, cond}
use Prim.Native.Nat.{ℕ, suc, ◌-◌, ◌^◌, ◌<◌, ◌≤◌}
use native.Mathlib.Omega.{arith}
use lib.IntN.{ℤ, pos, negsuc}
use mir.Syntax.{w64}
use mir.Val.{SFits, sel}
use Rattle.std.specs.Int.{cast_unsigned, cast_signed}
use lib.Dec.{ltb}
use borrow.Author.Tests.{lt-ltb, le-ltb, ltb-true, ltb-false}
use Rattle.entry.specs.Bytes.{bits_of, cell_of}

-- ---- both ways

pub bits_small : (z : ℤ) → SFits w64 z → bits_of z < 2 ^ 64
unfolding bits_of
bits_small (pos n) f = let h : n < 2 ^ 63 = f.sfits in omega arith
bits_small (negsuc n) f = let h : n < 2 ^ 63 = f.sfits in omega arith

pub cell_bits : (z : ℤ) → SFits w64 z → cell_of (bits_of z) ≡ z
unfolding bits_of cell_of
cell_bits (pos n) f = rw (lt-ltb n (2 ^ 63) f.sfits)
cell_bits (negsuc n) f =
    let h : n < 2 ^ 63 = f.sfits in
    let q : 2 ^ 64 - suc (2 ^ 64 - suc n) ≡ n = omega arith in
    rw (le-ltb (2 ^ 64 - suc n) (2 ^ 63) (omega arith), q)

-- 64 bits are a cell's
bits_cond : (b : Bool) (n : ℕ) → ltb n (2 ^ 63) ≡ b → n < 2 ^ 64 → (bits_of (cond b (pos n) (negsuc (2 ^ 64 - suc n))) ≡ n) × SFits w64 (cond b (pos n) (negsuc (2 ^ 64 - suc n)))
unfolding bits_of
bits_cond true n e h = (refl, record { sfits = ltb-true n (2 ^ 63) e })
bits_cond false n e h = let k : 2 ^ 63 ≤ n = ltb-false n (2 ^ 63) e in (omega arith, record { sfits = omega arith })

pub bits_cell : (n : ℕ) → n < 2 ^ 64 → (bits_of (cell_of n) ≡ n) × SFits w64 (cell_of n)
unfolding cell_of
bits_cell n h = bits_cond (ltb n (2 ^ 63)) n refl h

-- ---- the machine's casts

pub unsigned_bits : (z : ℤ) → cast_unsigned w64 z ≡ bits_of z
unfolding bits_of
unsigned_bits (pos n) = refl
unsigned_bits (negsuc n) = refl

pub signed_cell : (n : ℕ) → cast_signed w64 n ≡ cell_of n
unfolding cell_of
signed_cell n = cast_by (ltb n (2 ^ 63))
  where
    cast_by : (b : Bool) → sel b (pos n) (negsuc (2 ^ 64 - suc n)) ≡ cond b (pos n) (negsuc (2 ^ 64 - suc n))
    cast_by true = refl
    cast_by false = refl
