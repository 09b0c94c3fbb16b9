-- R24, R25: the release and the vacant groups (replies 5 and 6). R120 to R128: the rules on counts (reply 7).
use Rattle.std.specs.Prelude.{Bool, true, false, cond, not, ◌&&◌, ◌||◌, List, [], ◌∷◌, ◌++◌, map, ℕ, suc, ◌-◌, min, eqb, leb, Option, Some, None, Result, Ok, Err}
use Rattle.base.specs.Every.{every, up_from}
use Rattle.count.specs.Tally.{count_of}
use Rattle.reply.specs.declared.Refusal.{Refusal}
use Rattle.reply.specs.declared.Refusal.TheVariants.{OtherRelease, FilledVacant}
use Rattle.count.specs.declared.Set.{Set}

-- ---- R24: the number 80 is no count but the release, and only 5 is accepted. R25: 61 to 79 are no groups, so their counts are 0

-- R206: the first of these groups that has a count
unfoldable pub filled_among : List ℕ → List ℕ → Result (Unit {0}) Refusal
filled_among ns [] = Ok tt
filled_among ns (g ∷ gs) = cond (eqb (count_of ns g) 0) (filled_among ns gs) (Err (FilledVacant g))

unfoldable pub release_of : List ℕ → Result (Unit {0}) Refusal
release_of ns = cond (eqb (count_of ns 80) 5) (filled_among ns (up_from 61 19)) (Err OtherRelease)

-- ---- R120: each rule blames a group; of the groups that broken rules blame, the lowest is reported

pub record Rule : Type 0 where
  pub blamed : ℕ
  pub kept : Bool

abbrev pub rule : ℕ → Bool → Rule
rule g k = record { blamed = g; kept = k }

-- the lower of two answers' groups
abbrev pub lower : Option ℕ → Option ℕ → Option ℕ
lower None b = b
lower (Some g) None = Some g
lower (Some g) (Some h) = Some (min g h)

abbrev pub one : Rule → Option ℕ
one r = cond r.kept None (Some r.blamed)

unfoldable pub lowest : List Rule → Option ℕ
lowest [] = None
lowest (r ∷ rs) = lower (one r) (lowest rs)

-- R121 to R124, one to a line: 4 or more, 0 to 2, 19 or more, 1 to 49
unfoldable pub head_rules : List ℕ → List Rule
head_rules ns =
    rule 1 (leb 4 (count_of ns 1)) ∷
    rule 2 (leb (count_of ns 2) 2) ∷
    rule 3 (leb 19 (count_of ns 3)) ∷
    rule 4 (leb 1 (count_of ns 4) && leb (count_of ns 4) 49) ∷ []

-- R125: the eight traces and the two profiles: first group, last group, and whether the set is one of the three O traces that have both of
-- these or nothing (R127)
abbrev pub set : ℕ → ℕ → Bool → Set
set first last ends = record { first = first; last = last; ends = ends }

unfoldable pub sets : List Set
sets =
    set 7 11 true ∷ set 12 16 true ∷ set 17 21 true ∷ set 22 25 false ∷ set 26 29 false ∷
    set 30 33 false ∷ set 43 46 false ∷ set 47 50 false ∷ set 51 53 false ∷ set 58 60 false ∷ []

abbrev pub members : Set → List ℕ
members s = up_from s.first (suc s.last - s.first)

abbrev pub zero? : ℕ → Bool
zero? n = eqb n 0

-- R126: of any two counts of a set, one is zero or they are equal
abbrev pub equal_where_nonzero : List ℕ → Bool
equal_where_nonzero xs = every (λ x. every (λ y. zero? x || (zero? y || eqb x y)) xs) xs

-- R127: all counts of the set are zero, or neither its first nor its last is
abbrev pub ends_nonzero : List ℕ → ℕ → ℕ → Bool
ends_nonzero xs first last = every zero? xs || (not (zero? first) && not (zero? last))

unfoldable pub keeps : List ℕ → Set → Bool
keeps ns s =
    equal_where_nonzero (map (count_of ns) (members s)) &&
    (not s.ends || ends_nonzero (map (count_of ns) (members s)) (count_of ns s.first) (count_of ns s.last))

-- R126, R127: the first group of the set is blamed
abbrev pub set_rule : List ℕ → Set → Rule
set_rule ns s = rule s.first (keeps ns s)

-- R128: 54 and 55 each have no count or that of group 4, and are blamed themselves
abbrev pub zero_or : ℕ → ℕ → Bool
zero_or x n = zero? x || eqb x n

unfoldable pub letter_rules : List ℕ → List Rule
letter_rules ns =
    rule 54 (zero_or (count_of ns 54) (count_of ns 4)) ∷ rule 55 (zero_or (count_of ns 55) (count_of ns 4)) ∷ []

abbrev pub rules : List ℕ → List Rule
rules ns = head_rules ns ++ (map (set_rule ns) sets ++ letter_rules ns)

unfoldable pub ruling_of : List ℕ → Option ℕ
ruling_of ns = lowest (rules ns)

-- ---- a set's counts, one after the other, as the code takes them (proofs/Sets.antt)

-- a count that differs from the one seen, and what has been seen behind a count
abbrev pub differ : ℕ → ℕ → Bool
differ v x = not (zero? x) && (not (zero? v) && not (eqb x v))

abbrev pub settle : ℕ → ℕ → ℕ
settle v x = cond (zero? x) v (cond (zero? v) x v)
