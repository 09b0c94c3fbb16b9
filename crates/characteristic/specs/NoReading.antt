-- R291, R295: which characteristics are frequencies, and which cell of which characteristic means that there is no reading.
use Rattle.std.specs.Prelude.{◌≡◌, Bool, false, not, ◌&&◌, ◌||◌, List, [], ◌∷◌, ◌⊎◌, ℕ, ◌≤◌, eqb, leb, ℤ, pos}
use Rattle.base.specs.Sign.{negative, size_of}

-- numbers that follow one another, from the first to the last; a single number is its own first and last
pub record Range : Type 0 where
  pub first : ℕ
  pub last : ℕ

abbrev range : ℕ → ℕ → Range
range first last = record { first = first; last = last }

abbrev only : ℕ → Range
only k = range k k

-- R295: 1, 2, 4 to 10, 22, 23, 25, 27 to 31, 35, 36, 44, 46 and 48
abbrev pub frequencies : List Range
frequencies =
    only 1 ∷ only 2 ∷ range 4 10 ∷ only 22 ∷ only 23 ∷ only 25 ∷ range 27 31 ∷ only 35 ∷ only 36 ∷ only 44 ∷ only 46 ∷ only 48 ∷ []

-- k is in one of the runs
abbrev pub InOne : List Range → ℕ → Type 0
InOne [] k = ⊥
InOne (r ∷ rs) k = ((r.first ≤ k) × (k ≤ r.last)) ⊎ InOne rs k

abbrev pub Frequency : ℕ → Type 0
Frequency k = InOne frequencies k

-- R291: 9999.000 in thousandths, the mark of whatever was not scaled, and 999.900, that of a frequency
abbrev pub unscaled : ℕ
unscaled = 9999000

abbrev pub unscaled_frequency : ℕ
unscaled_frequency = 999900

-- R291: the cell z of number k means that there is no reading; every other is a value
abbrev pub IsNoReading : ℕ → ℤ → Type 0
IsNoReading k z = (z ≡ pos unscaled) ⊎ ((z ≡ pos unscaled_frequency) × Frequency k)

-- ---- the same as tests, for proofs (proofs/NoReading.antt: they pass exactly where the above holds)

abbrev pub in_ranges : List Range → ℕ → Bool
in_ranges [] k = false
in_ranges (r ∷ rs) k = (leb r.first k && leb k r.last) || in_ranges rs k

unfoldable pub is_frequency : ℕ → Bool
is_frequency k = in_ranges frequencies k

unfoldable pub is_no_reading : ℕ → ℤ → Bool
is_no_reading k z = not (negative z) && (eqb (size_of z) unscaled || (eqb (size_of z) unscaled_frequency && is_frequency k))
