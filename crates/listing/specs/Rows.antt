-- R342: the seven numbers that stand in the line of a record; R343: the four that stand behind `end`.
use Rattle.std.specs.Prelude.{cond, List, [], ◌∷◌, map, ℕ, eqb, Option, Some, None}
use Rattle.rules.specs.declared.Rules.{Rules}
use Rattle.base.specs.Every.{up_from}
use Rattle.base.specs.Sum.{sum}
use Rattle.count.specs.Tally.{count_of, record_lines}
use Rattle.place.specs.declared.Placing.{Placing}
use Rattle.place.specs.declared.Placing.TheVariants.{Placed, BrokenRule, Refused}
use Rattle.place.specs.Numbered.{placing_reply, is_placed}

-- R200 to R207: the reply's number, and the next place and the group beside it
abbrev pub reply_of : Placing → ℕ
reply_of p = (placing_reply p).number

abbrev pub next_of : Placing → ℕ
next_of p = (placing_reply p).next

abbrev pub group_of : Placing → ℕ
group_of p = (placing_reply p).group

-- R253: the next place, where a record is placed: under 0 and 7
abbrev pub next_place : Placing → Option ℕ
next_place (Placed n) = Some n
next_place (BrokenRule g n) = Some n
next_place (Refused r) = None

-- R253: what the walk asks of an answer's reply: its next place, where its number is that of a record that is placed. For whatever placing
-- answers this is the next place (`next_is_told` in proofs/Lines.antt; answer by answer: `next_answers`)
unfoldable pub next_told : Placing → Option ℕ
next_told p = cond (is_placed (reply_of p)) (Some (next_of p)) None

-- R342, number 6: which of the groups 1 to 60 have a count; 1 for each of them
abbrev pub filled : List ℕ → ℕ → ℕ
filled ns g = cond (eqb (count_of ns g) 0) 0 1

unfoldable pub filled_groups : List ℕ → ℕ
filled_groups ns = sum (map (filled ns) (up_from 1 60))

module _ (ρ : Rules) where
  -- R342: a record of this number at a place, where placing gave this answer and these counts
  unfoldable pub record_row : ℕ → ℕ → Placing → List ℕ → List ℕ
  record_row number at p ns =
      number ∷ at ∷ next_of p ∷ reply_of p ∷ group_of p ∷ filled_groups ns ∷ record_lines ρ ns ∷ []

-- R343: so many records were listed, and the walk stopped at a place with this answer
unfoldable pub end_row : ℕ → ℕ → Placing → List ℕ
end_row many at p = many ∷ at ∷ reply_of p ∷ group_of p ∷ []
