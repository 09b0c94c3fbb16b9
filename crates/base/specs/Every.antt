-- A test at each element of a list, which antt computes where the list and its elements are given.
use Rattle.std.specs.Prelude.{Bool, false, ◌||◌, List, [], ◌∷◌, ℕ, zero, suc, eqb}
use Rattle.std.specs.List.{list_all}

-- the test passes at each element
abbrev pub every : {A : Type 0} → (A → Bool) → List A → Bool
every f xs = list_all f xs

-- the number is one of these
abbrev pub has : List ℕ → ℕ → Bool
has [] x = false
has (k ∷ ks) x = eqb k x || has ks x

-- the k numbers from n on
unfoldable pub up_from : ℕ → ℕ → List ℕ
up_from n zero = []
up_from n (suc k) = n ∷ up_from (suc n) k
