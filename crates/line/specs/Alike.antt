-- R9: texts whose lines have, one by one, the same contents under a rule for line ends, whatever bytes end them.
use Rattle.std.specs.Prelude.{Bool, true, false, List, [], ◌∷◌, ◌++◌, ◌↔◌, ℕ, suc, ◌≤◌, length, drop}
use Rattle.rules.specs.declared.Rules.{Rules}
use Rattle.line.specs.Contents.{EndsInReturn, HasContent}
use Rattle.line.specs.Lines.{Whole, Plain}

-- R4: the lines a and b have the same content, or both have none
abbrev pub SameLine : Rules → List ℕ → List ℕ → Type 0
SameLine ρ a b = (c : List ℕ) → HasContent ρ a c ↔ HasContent ρ b c

-- R3: nothing but the same bytes without a line feed; or a line each with the same content, and behind them alike texts
pub data Alike (ρ : Rules) : List ℕ → List ℕ → Type 0 where
  same_rest : (a : List ℕ) → Plain a → Alike ρ a a
  same_line : (a b : List ℕ) {x y : List ℕ} → Whole 1 a → Whole 1 b → SameLine ρ a b → Alike ρ x y → Alike ρ (a ++ x) (b ++ y)

-- what stands from the place p of s on is alike to what stands from the place q of t on
pub record AlikeFrom (ρ : Rules) (s : List ℕ) (p : ℕ) (t : List ℕ) (q : ℕ) : Type 0 where
  pub first_within : p ≤ length s
  pub second_within : q ≤ length t
  pub alike : Alike ρ (drop p s) (drop q t)

-- ---- one text with carriage returns here and there (`alike_ended` in proofs/Alike.antt)

-- a line's end, with a carriage return or without
abbrev pub line_end_by : Bool → List ℕ
line_end_by true = 13 ∷ 10 ∷ []
line_end_by false = 10 ∷ []

-- lines with these contents; `returns i` tells whether line i, from 0, has a carriage return
unfoldable pub ended_by : (ℕ → Bool) → List (List ℕ) → List ℕ
ended_by returns [] = []
ended_by returns (c ∷ cs) = (c ++ line_end_by (returns 0)) ++ ended_by (λ i. returns (suc i)) cs

-- each is a content with either end: no line feed is in it, and no carriage return is its last byte
pub data EitherWay : List (List ℕ) → Type 0 where
  no_content : EitherWay []
  one_content : {c : List ℕ} {cs : List (List ℕ)} → Plain c → (EndsInReturn c → ⊥) → EitherWay cs → EitherWay (c ∷ cs)
