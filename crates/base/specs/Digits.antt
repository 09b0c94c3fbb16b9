-- Decimal digits: a list of numbers below ten, the first the most significant.
use Rattle.std.specs.Prelude.{List, [], ◌∷◌, map, ℕ, ◌+◌, ◌*◌, ◌<◌}

-- each is a digit
abbrev pub AllDigits : List ℕ → Type 0
AllDigits [] = Unit {0}
AllDigits (d ∷ ds) = (d < 10) × AllDigits ds

-- the number that digits make after those that made m
abbrev pub number_from : ℕ → List ℕ → ℕ
number_from m [] = m
number_from m (d ∷ ds) = number_from (m * 10 + d) ds

-- the number that digits make
abbrev pub number_of : List ℕ → ℕ
number_of ds = number_from 0 ds

-- one digit at least, and no needless zeros before the others
abbrev pub Lean : List ℕ → Type 0
Lean [] = ⊥
Lean (d ∷ []) = Unit {0}
Lean (d ∷ e ∷ ds) = 0 < d

-- digits as text: 48 is the code of `0`
abbrev pub digit_text : List ℕ → List ℕ
digit_text ds = map (λ d. 48 + d) ds
