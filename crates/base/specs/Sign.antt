-- A whole number as its sign and its size.
use Rattle.std.specs.Prelude.{Bool, true, false, ℕ, suc, leb, ℤ, pos, negsuc, neg_ℤ}

-- the number of a sign and a size: minus n where the sign is true
abbrev pub of_sign : Bool → ℕ → ℤ
of_sign true n = neg_ℤ (pos n)
of_sign false n = pos n

abbrev pub negative : ℤ → Bool
negative (pos n) = false
negative (negsuc n) = true

abbrev pub size_of : ℤ → ℕ
size_of (pos n) = n
size_of (negsuc n) = suc n

-- the number lies from minus `low` to `high`
abbrev pub holds : ℕ → ℕ → ℤ → Bool
holds low high (pos n) = leb n high
holds low high (negsuc n) = leb (suc n) low
