-- R120, R207: reply 7 in plain words. A broken rule blames a group, and the lowest of the groups blamed is given.
use Rattle.std.specs.Prelude.{◌≡◌, false, List, [], ◌∷◌, ◌⊎◌, ℕ, ◌≤◌, Option, Some, None}
use Rattle.count.specs.Rules.{Rule, rules}

-- some rule that blames the group is broken
unfoldable pub Blames : List Rule → ℕ → Type 0
Blames [] g = ⊥
Blames (r ∷ rs) g = ((r.kept ≡ false) × (r.blamed ≡ g)) ⊎ Blames rs g

-- none is, whichever group it would blame
abbrev pub NoneBlamed : List Rule → Type 0
NoneBlamed rs = (g : ℕ) → Blames rs g → ⊥

-- some rule that blames this group is broken, and none that blames a lower one
pub record LowestBlamed (rs : List Rule) (g : ℕ) : Type 0 where
  pub broken : Blames rs g
  pub lowest : (h : ℕ) → Blames rs h → g ≤ h

abbrev pub Says : List Rule → Option ℕ → Type 0
Says rs None = NoneBlamed rs
Says rs (Some g) = LowestBlamed rs g

-- R121 to R128, of these counts
abbrev pub KeepsRules : List ℕ → Type 0
KeepsRules ns = NoneBlamed (rules ns)

abbrev pub BreaksRules : List ℕ → ℕ → Type 0
BreaksRules ns g = LowestBlamed (rules ns) g
