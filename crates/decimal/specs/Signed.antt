-- A signed number: `-` (45) before the numeral of a negative one's size.
use Rattle.std.specs.Prelude.{List, ◌∷◌, ℕ, suc, ℤ, pos, negsuc}
use Rattle.decimal.specs.Numerals.{numeral}

abbrev pub signed_numeral : ℤ → List ℕ
signed_numeral (pos n) = numeral n
signed_numeral (negsuc n) = 45 ∷ numeral (suc n)
