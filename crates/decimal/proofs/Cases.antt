-- Texts by computation: the listing of record S twice (R382); zero, the greatest u64 and the least i64.
-- Assumes nothing.
use mathlib.Core.Path.{◌≡◌, refl, sym, ap}
use mathlib.Core.List.{List, [], ◌∷◌, ◌++◌, map}
use Prim.Native.Nat.{ℕ, ◌-◌}
use Prim.Native.Char.{code}
use Prim.Native.String.{String}
use Prim.Native.String as Str
use lib.Dec.{T, ltb, ltb→lt, lit<}
use lib.IntN.{pos, negsuc}
use Rattle.base.specs.Digits.{AllDigits, number_of, Lean, digit_text}
use Rattle.base.specs.Every.{every}
use Rattle.base.proofs.Choice.{and_left, and_right}
use Rattle.decimal.specs.Numerals.{digits_in, digits_of, numeral}
use Rattle.decimal.specs.Rows.{row_text}
use Rattle.decimal.specs.Signed.{signed_numeral}
use Rattle.decimal.proofs.Numerals.{is_numeral}

abbrev bytes : String → List ℕ
bytes Str.[] = []
bytes (Str.◌∷◌ c s) = code c ∷ bytes s

abbrev line : String → List ℕ
line s = bytes s ++ (10 ∷ [])

pub listing :
    (row_text (1 ∷ 0 ∷ 305 ∷ 0 ∷ 0 ∷ 3 ∷ 5 ∷ []) ≡ line "1 0 305 0 0 3 5")
    × (row_text (2 ∷ 305 ∷ 610 ∷ 0 ∷ 0 ∷ 3 ∷ 5 ∷ []) ≡ line "2 305 610 0 0 3 5")
    × (bytes "end " ++ row_text (2 ∷ 610 ∷ 1 ∷ 0 ∷ []) ≡ line "end 2 610 1 0")
unfolding row_text numeral digits_of digits_in
listing = (refl, refl, refl)

-- digits that are tested by computation
of_digits : (ds : List ℕ) → T (every (λ d. ltb d 10) ds) → Lean ds → numeral (number_of ds) ≡ digit_text ds
of_digits ds t l = sym (is_numeral (digit_text ds) (number_of ds) record { digits = ds; each = each ds t; lean = l; text = refl; value = refl })
  where
    each : (ds : List ℕ) → T (every (λ d. ltb d 10) ds) → AllDigits ds
    each [] t = tt
    each (d ∷ ds) t = (ltb→lt d 10 (and_left (ltb d 10) (every (λ d. ltb d 10) ds) t), each ds (and_right (ltb d 10) (every (λ d. ltb d 10) ds) t))

abbrev digits : String → List ℕ
digits s = map (λ b. b - 48) (bytes s)

pub ends :
    (numeral 0 ≡ bytes "0")
    × (numeral 18446744073709551615 ≡ bytes "18446744073709551615")
    × (signed_numeral (pos 0) ≡ bytes "0")
    × (signed_numeral (negsuc 9223372036854775807) ≡ bytes "-9223372036854775808")
ends = (
  of_digits (digits "0") tt tt,
  of_digits (digits "18446744073709551615") tt (lit< tt),
  of_digits (digits "0") tt tt,
  ap (λ t. 45 ∷ t) (of_digits (digits "9223372036854775808") tt (lit< tt)),
)
