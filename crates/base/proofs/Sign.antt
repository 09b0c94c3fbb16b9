-- A signed 64-bit number as a sign and a size: what the machine computes on the bits, said of `of_sign`, `negative` and `size_of`.
-- Assumes nothing.
use mathlib.Core.Path.{◌≡◌, refl, ap, ◌∙◌}
use mathlib.Core.Bool.{Bool, true, false}
use Prim.Native.Nat.{ℕ, zero, suc, ◌^◌, ◌<◌, ◌≤◌}
use native.Mathlib.Omega.{arith}
use borrow.Author.Tests.{ltb-true}
use lib.IntN.{ℤ, pos, negsuc, neg_ℤ, ◌+ℤ◌, ◌-ℤ◌, +ℤ_idl, +ℤ_one, neg_ℤ-neg_ℤ}
use lib.Signed.{lt_z}
use mir.Syntax.{w64}
use mir.Val.{SFits, to_z, of_z}
use mir.Facts.{to_z-of_z, to_z_pos}
use lib.Dec.{T, leb, leb→le, le→leb}
use Rattle.base.specs.Sign.{of_sign, negative, size_of, holds}

-- ---- sign and size

pub sign_size : (z : ℤ) → of_sign (negative z) (size_of z) ≡ z
sign_size (pos n) = refl
sign_size (negsuc n) = refl

-- a negative number is not zero
pub negative_some : (z : ℤ) → negative z ≡ true → 0 < size_of z
negative_some (pos n) e = let y : ◌≡◌ {A = ℕ} 0 1 = cc in absurd (omega arith)
negative_some (negsuc n) e = omega arith

-- what a sign and a size give back, where zero has no minus
pub negative_of : (g : Bool) (n : ℕ) → (g ≡ true → 0 < n) → negative (of_sign g n) ≡ g
negative_of true zero h = absurd (omega (arith, h refl))
negative_of true (suc n) h = refl
negative_of false n h = refl

pub size_of_lem : (g : Bool) (n : ℕ) → size_of (of_sign g n) ≡ n
size_of_lem true zero = refl
size_of_lem true (suc n) = refl
size_of_lem false n = refl

-- ---- a range

pub holds_of : (low high : ℕ) (g : Bool) (n : ℕ) → (g ≡ false → n ≤ high) → (g ≡ true → n ≤ low) → T (holds low high (of_sign g n))
holds_of low high true zero p q = le→leb 0 high (omega arith)
holds_of low high true (suc n) p q = le→leb (suc n) low (q refl)
holds_of low high false n p q = le→leb n high (p refl)

pub holds_high : (low high : ℕ) (z : ℤ) → T (holds low high z) → negative z ≡ false → size_of z ≤ high
holds_high low high (pos n) t e = leb→le n high t
holds_high low high (negsuc n) t e = let y : ◌≡◌ {A = ℕ} 0 1 = cc in absurd (omega arith)

pub holds_low : (low high : ℕ) (z : ℤ) → T (holds low high z) → negative z ≡ true → size_of z ≤ low
holds_low low high (pos n) t e = let y : ◌≡◌ {A = ℕ} 0 1 = cc in absurd (omega arith)
holds_low low high (negsuc n) t e = leb→le (suc n) low t

pub holds_negative : (low high : ℕ) (z : ℤ) → negative z ≡ true → holds low high z ≡ leb (size_of z) low
holds_negative low high (pos n) e = let y : ◌≡◌ {A = ℕ} 0 1 = cc in absurd (omega arith)
holds_negative low high (negsuc n) e = refl

pub holds_natural : (low high : ℕ) (z : ℤ) → negative z ≡ false → holds low high z ≡ leb (size_of z) high
holds_natural low high (pos n) e = refl
holds_natural low high (negsuc n) e = let y : ◌≡◌ {A = ℕ} 0 1 = cc in absurd (omega arith)

-- ---- the machine's bits

pub fits_sign : (g : Bool) (n : ℕ) → n < 2 ^ 63 → SFits w64 (of_sign g n)
fits_sign true zero h = record { sfits = h }
fits_sign true (suc n) h = record { sfits = omega arith }
fits_sign false n h = record { sfits = h }

-- `0 - (n as i64)`
pub minus : (n : ℕ) → n < 2 ^ 63 → pos 0 -ℤ to_z w64 n ≡ of_sign true n
minus n h = ap (λ (z : ℤ). pos 0 -ℤ z) (to_z_pos w64 h) ∙ +ℤ_idl (neg_ℤ (pos n))

-- the bits of z, read back
abbrev pub back : ℤ → ℤ
back z = to_z w64 (of_z w64 z)

-- what a test `v < 0` tells of v
pub record Negative (v : ℤ) : Type 0 where
  pub less : ℕ
  pub small : less < 2 ^ 63
  pub is : v ≡ negsuc less

pub record Natural (v : ℤ) : Type 0 where
  pub size : ℕ
  pub small : size < 2 ^ 63
  pub is : v ≡ pos size

below_zero' : (v : ℤ) → SFits w64 v → lt_z v (pos 0) ≡ true → Negative v
below_zero' (pos n) f e = absurd (omega (arith, ltb-true n 0 e))
below_zero' (negsuc n) f e = record { less = n; small = f.sfits; is = refl }

not_below' : (v : ℤ) → SFits w64 v → lt_z v (pos 0) ≡ false → Natural v
not_below' (pos n) f e = record { size = n; small = f.sfits; is = refl }
not_below' (negsuc n) f e = let z : true ≡ false = e in let y : ◌≡◌ {A = ℕ} 0 1 = cc in absurd (omega arith)

pub below_zero : (v : ℤ) → SFits w64 v → lt_z (back v) (pos 0) ≡ true → Negative v
below_zero v f e = below_zero' v f (rw (to_z-of_z {w = w64} f) at e)

pub not_below : (v : ℤ) → SFits w64 v → lt_z (back v) (pos 0) ≡ false → Natural v
not_below v f e = not_below' v f (rw (to_z-of_z {w = w64} f) at e)

-- `v + 1` of a negative v
more' : (n : ℕ) → negsuc n +ℤ pos 1 ≡ of_sign true n
more' zero = +ℤ_one (negsuc zero)
more' (suc n) = +ℤ_one (negsuc (suc n))

module _ {v : ℤ} (f : SFits w64 v) (k : Negative v) where
  pub more : back v +ℤ pos 1 ≡ of_sign true k.less
  more = ap (λ (z : ℤ). z +ℤ pos 1) (to_z-of_z {w = w64} f ∙ k.is) ∙ more' k.less

  pub more_fits : SFits w64 (back v +ℤ pos 1)
  more_fits = rw more (fits_sign true k.less k.small)

  -- `0 - (v + 1)`
  pub turned : pos 0 -ℤ back (back v +ℤ pos 1) ≡ pos k.less
  turned =
      ap (λ (z : ℤ). pos 0 -ℤ z) (to_z-of_z {w = w64} more_fits ∙ more)
      ∙ +ℤ_idl (neg_ℤ (of_sign true k.less))
      ∙ neg_ℤ-neg_ℤ (pos k.less)

  pub turned_fits : SFits w64 (pos 0 -ℤ back (back v +ℤ pos 1))
  turned_fits = rw turned (fits_sign false k.less k.small)

  pub turned_back : back (pos 0 -ℤ back (back v +ℤ pos 1)) ≡ pos k.less
  turned_back = to_z-of_z {w = w64} turned_fits ∙ turned
