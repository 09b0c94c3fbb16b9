-- R4: a line's content stands in front of its line end.
-- R5, R9: the line end is a line feed (10) and the carriage return (13) directly before it, and only that one: an earlier one is part of the
-- content. A line without that carriage return has no content under the strict rule; under the other it has all that stands before its line feed.
-- What doesn't end in a line feed has none.
use Rattle.std.specs.Prelude.{◌≡◌, Bool, false, cond, ◌&&◌, List, [], ◌∷◌, ◌++◌, ℕ, ◌-◌, eqb, length, drop, Option, Some, None}
use Rattle.rules.specs.declared.LineEnds.{LineEnds}
use Rattle.rules.specs.declared.LineEnds.TheVariants.{Strict, Either}
use Rattle.rules.specs.declared.Rules.{Rules}

-- a ends in a carriage return
pub record EndsInReturn (a : List ℕ) : Type 0 where
  pub before : List ℕ
  pub is : a ≡ before ++ (13 ∷ [])

-- the line x is the content a and a line end: a carriage return and a line feed; or, under `Either`, a line feed that has no carriage return
-- before it
pub data HasContent (ρ : Rules) (x a : List ℕ) : Type 0 where
  returned : x ≡ a ++ (13 ∷ 10 ∷ []) → HasContent ρ x a
  alone : ρ.ends ≡ Either → x ≡ a ++ (10 ∷ []) → (EndsInReturn a → ⊥) → HasContent ρ x a

-- ---- the same as an answer (proofs/Contents.antt: `content_is`, `is_content`)

-- a carriage return and a line feed, and nothing else
abbrev pub is_return_feed : List ℕ → Bool
is_return_feed [] = false
is_return_feed (r ∷ []) = false
is_return_feed (r ∷ f ∷ []) = eqb r 13 && eqb f 10
is_return_feed (r ∷ f ∷ x ∷ xs) = false

-- a line feed, and nothing else
abbrev pub is_feed_alone : List ℕ → Bool
is_feed_alone [] = false
is_feed_alone (f ∷ []) = eqb f 10
is_feed_alone (f ∷ x ∷ xs) = false

-- R9: the content of n bytes and a line feed that has no carriage return before it
abbrev pub feed_alone : LineEnds → ℕ → Option ℕ
feed_alone Strict n = None
feed_alone Either n = Some n

-- how many bytes of x are its content: all but the last two, if these are a carriage return and a line feed; else, if the rule allows that, all
-- but a last line feed
unfoldable pub content_of : Rules → List ℕ → Option ℕ
content_of ρ x =
    cond (is_return_feed (drop (length x - 2) x)) (Some (length x - 2))
    (cond (is_feed_alone (drop (length x - 1) x)) (feed_alone ρ.ends (length x - 1)) None)
