-- Texts in pieces, one behind the other: what is read from them, up to the first that is bad; what is written for them; and that a text is
-- such pieces. A is a piece, B what is told of a bad one, C a cell.
use Rattle.std.specs.Prelude.{List, [], ◌∷◌, ◌++◌, ℕ, take, drop}

-- the cells that were read, or what was told of the first bad piece
pub data Got (B C : Type 0) : Type 0 where
  done : List C → Got B C
  bad : B → Got B C

-- one piece and then another
abbrev pub both : {B C : Type 0} → Got B C → Got B C → Got B C
both (done a) (done b) = done (a ++ b)
both (done a) (bad r) = bad r
both (bad r) y = bad r

-- each piece takes as many bytes as `wide` says of what is left
unfoldable pub gather : {A B C : Type 0} → (A → List ℕ → ℕ) → (A → List ℕ → Got B C) → List A → List ℕ → Got B C
gather wide read [] s = done []
gather wide read (a ∷ bs) s = both (read a (take (wide a s) s)) (gather wide read bs (drop (wide a s) s))

-- the cells, none where a piece was bad
abbrev pub cells_got : {B C : Type 0} → Got B C → List C
cells_got (done cs) = cs
cells_got (bad r) = []

-- ---- writing: each piece takes as many cells as `size` says

unfoldable pub emit : {A C : Type 0} → (A → ℕ) → (A → List C → List ℕ) → List A → List C → List ℕ
emit size text [] cs = []
emit size text (a ∷ bs) cs = text a (take (size a) cs) ++ emit size text bs (drop (size a) cs)

-- each piece's own cells, so many as `size` says, are as P says
unfoldable pub Own : {A C : Type 0} → (A → ℕ) → (A → List C → Type 0) → List A → List C → Type 0
Own size P [] cs = Unit {0}
Own size P (a ∷ bs) cs = P a (take (size a) cs) × Own size P bs (drop (size a) cs)

-- a text is these pieces, and cs their cells: each piece with its own cells is as P says
pub data Each {A C : Type 0} (P : A → List ℕ → List C → Type 0) : List A → List ℕ → List C → Type 0 where
  none : Each P [] [] []
  more : {a : A} {bs : List A} (x : List ℕ) (c : List C) {y : List ℕ} {d : List C} → P a x c → Each P bs y d → Each P (a ∷ bs) (x ++ y) (c ++ d)
