-- R291, R295: the tests pass exactly where the statements hold.
-- Assumes nothing.
use mathlib.Core.Path.{◌≡◌, refl, ap}
use mathlib.Core.Bool.{false, ◌&&◌}
use mathlib.Core.List.{List, [], ◌∷◌}
use mathlib.Core.Logic.{◌↔◌, inl, inr, ⊎_elim}
use Prim.Native.Nat.{ℕ, ◌≤◌}
use lib.Dec.{T, eqb, leb, leb→le, le→leb, eqb→eq}
use lib.IntN.{ℤ, pos, negsuc}
use Rattle.base.proofs.Choice.{and_left, and_right, and_both, or_elim, or_left, or_right}
use Rattle.characteristic.specs.NoReading.{Range, frequencies, InOne, Frequency, unscaled, unscaled_frequency, IsNoReading, in_ranges, is_frequency, is_no_reading}

in_ranges_lem : (rs : List Range) (k : ℕ) → T (in_ranges rs k) → InOne rs k
in_ranges_lem [] k t = t
in_ranges_lem (r ∷ rs) k t =
    ⊎_elim
    (λ h. inl (leb→le r.first k (and_left (leb r.first k) (leb k r.last) h), leb→le k r.last (and_right (leb r.first k) (leb k r.last) h)))
    (λ h. inr (in_ranges_lem rs k h))
    (or_elim (leb r.first k && leb k r.last) (in_ranges rs k) t)

ranges_in : (rs : List Range) (k : ℕ) → InOne rs k → T (in_ranges rs k)
ranges_in [] k h = h
ranges_in (r ∷ rs) k h =
    ⊎_elim
    (λ (i : (r.first ≤ k) × (k ≤ r.last)).
    or_left (leb r.first k && leb k r.last) (in_ranges rs k) (and_both (leb r.first k) (leb k r.last) (le→leb r.first k i.0) (le→leb k r.last i.1)))
    (λ (i : InOne rs k). or_right (leb r.first k && leb k r.last) (in_ranges rs k) (ranges_in rs k i))
    h

pub frequency_exactly : (k : ℕ) → T (is_frequency k) ↔ Frequency k
unfolding is_frequency
frequency_exactly k = (in_ranges_lem frequencies k, ranges_in frequencies k)

test_means : (k : ℕ) (z : ℤ) → T (is_no_reading k z) → IsNoReading k z
unfolding is_no_reading
test_means k (pos n) t =
    ⊎_elim
    (λ h. inl (ap pos (eqb→eq n unscaled h)))
    (λ h. inr (ap pos (eqb→eq n unscaled_frequency (and_left (eqb n unscaled_frequency) (is_frequency k) h)), (frequency_exactly k).0 (and_right (eqb n unscaled_frequency) (is_frequency k) h)))
    (or_elim (eqb n unscaled) (eqb n unscaled_frequency && is_frequency k) t)
test_means k (negsuc n) t = absurd t

means_test : (k : ℕ) (z : ℤ) → IsNoReading k z → T (is_no_reading k z)
unfolding is_no_reading
means_test k z (inl e) = rw e tt
means_test k z (inr h) = rw h.0 ((frequency_exactly k).1 h.1)

pub no_reading_exactly : (k : ℕ) (z : ℤ) → T (is_no_reading k z) ↔ IsNoReading k z
no_reading_exactly k z = (test_means k z, means_test k z)

-- ---- R291: exactly 999,900: its neighbours and its negative are values of every characteristic, and it is one of number 26, a height

pub near_values : (k : ℕ) → (is_no_reading k (pos 999899) ≡ false) × ((is_no_reading k (pos 999901) ≡ false) × (is_no_reading k (negsuc 999899) ≡ false))
unfolding is_no_reading
near_values k = (refl, (refl, refl))

pub height_value : is_no_reading 26 (pos 999900) ≡ false
unfolding is_no_reading is_frequency
height_value = refl
