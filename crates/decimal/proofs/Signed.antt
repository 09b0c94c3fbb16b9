-- Signed numerals: how long they are; that they read back as the number.
-- Assumes nothing.
use mathlib.Core.Path.{◌≡◌, sym, ap}
use mathlib.Core.List.{List, ◌∷◌}
use Prim.Native.Nat.{ℕ, suc, ◌≤◌}
use native.Mathlib.Omega.{arith}
use lib.IntN.{ℤ, pos, negsuc}
use lib.ListN.{length, get_or}
use mir.Syntax.{w64}
use mir.Val.{SFits}
use Rattle.decimal.specs.Numerals.{numeral}
use Rattle.decimal.specs.Signed.{signed_numeral}
use Rattle.decimal.proofs.Numerals.{numeral_same, numeral_bytes}
use Rattle.decimal.proofs.Lengths.{length_some, length_within}

-- at most 20 bytes for an i64
pub signed_length : (v : ℤ) → SFits w64 v → length (signed_numeral v) ≤ 20
signed_length (pos n) f = omega (arith, length_within 18 n (omega (arith, f.sfits)))
signed_length (negsuc n) f = omega (arith, length_within 18 (suc n) (omega (arith, f.sfits)))

-- a numeral does not begin with a minus
no_minus : (m : ℕ) (t : List ℕ) → numeral m ≡ 45 ∷ t → ⊥
no_minus m t e =
    let b = numeral_bytes m 0 (length_some m) in
    let z : get_or (numeral m) 0 0 ≡ 45 = ap (λ s. get_or s 0 0) e in
    omega (arith, b.0)

-- two numbers have two texts
pub signed_same : (u v : ℤ) → signed_numeral u ≡ signed_numeral v → u ≡ v
signed_same (pos m) (pos n) e = ap pos (numeral_same m n e)
signed_same (pos m) (negsuc n) e = absurd (no_minus m (numeral (suc n)) e)
signed_same (negsuc m) (pos n) e = absurd (no_minus n (numeral (suc m)) (sym e))
signed_same (negsuc m) (negsuc n) e =
    let t : numeral (suc m) ≡ numeral (suc n) = cc in
    let s : suc m ≡ suc n = numeral_same (suc m) (suc n) t in
    ap negsuc (omega arith)
