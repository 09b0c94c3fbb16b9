-- R9: the rules for line ends against one another. Under `Either` a carriage return before the line feed, or none, gives the same content, and
-- each line has one. Under `Strict` a line without a carriage return before its line feed has none; what has a content has the same under each
-- rule.
-- Assumes nothing.
use mathlib.Core.Path.{◌≡◌, refl, sym, ◌∙◌, ap}
use mathlib.Core.List.{List, [], ◌∷◌, ◌++◌, append_assoc}
use Prim.Native.Nat.{ℕ, ◌-◌}
use native.Mathlib.Omega.{arith}
use lib.ListN.{length, take, take-append-drop}
use Rattle.rules.specs.declared.LineEnds.TheVariants.{Strict, Either}
use Rattle.rules.specs.declared.Rules.{Rules}
use Rattle.line.specs.Contents.{EndsInReturn, HasContent, returned, alone, content_of}
use Rattle.line.specs.Lines.{Whole}
use Rattle.std.proofs.Common.{Some, None}
use Rattle.line.proofs.Contents.{same_front, content_is, is_content, is_none, content_either, last_one}
use Rattle.line.proofs.Feeds.{feeds_le}
use Rattle.line.proofs.Last.{whole_last}

-- ---- either

module _ (ρ : Rules) (either : ρ.ends ≡ Either) where
  -- a is the content of both lines
  pub either_has : (a : List ℕ) → (EndsInReturn a → ⊥) → HasContent ρ (a ++ (10 ∷ [])) a × HasContent ρ (a ++ (13 ∷ 10 ∷ [])) a
  either_has a n = (alone either refl n, returned refl)

  pub either_content : (a : List ℕ) → (EndsInReturn a → ⊥) → content_of ρ (a ++ (10 ∷ [])) ≡ Some (length a)
  either_content a n = content_is ρ (a ++ (10 ∷ [])) a (either_has a n).0

  -- no line is without a content
  pub either_some : (x : List ℕ) → Whole 1 x → content_of ρ x ≡ None → ⊥
  either_some x u e =
      let n = length x - 1 in
      let l = last_one x (omega (arith, u.many, feeds_le x)) ∙ ap (λ b. b ∷ []) (whole_last x (omega arith) u) in
      let s : x ≡ take n x ++ (10 ∷ []) = sym (take-append-drop n x) ∙ ap (λ y. take n x ++ y) l in
      content_either ρ either (take n x) (ap (content_of ρ) (sym s) ∙ e)

-- ---- strict

-- a line feed alone ends no line under the strict rule
pub strict_none : (σ : Rules) → σ.ends ≡ Strict → (a : List ℕ) → (EndsInReturn a → ⊥) → content_of σ (a ++ (10 ∷ [])) ≡ None
strict_none σ s a n = is_none σ (a ++ (10 ∷ [])) by
  where
    by : (c : List ℕ) → HasContent σ (a ++ (10 ∷ [])) c → ⊥
    by c (returned e) = n record { before = c; is = same_front a (c ++ (13 ∷ [])) (10 ∷ []) (e ∙ sym (append_assoc c (13 ∷ []) (10 ∷ []))) }
    by c (alone k e m) = let z : ◌≡◌ {A = ℕ} 0 1 = cc in omega arith

-- only a carriage return and a line feed end a line under the strict rule, and they end it under each
pub strict_has : (σ ρ : Rules) → σ.ends ≡ Strict → (x a : List ℕ) → HasContent σ x a → HasContent ρ x a
strict_has σ ρ s x a (returned e) = returned e
strict_has σ ρ s x a (alone k e n) = let z : ◌≡◌ {A = ℕ} 0 1 = cc in absurd (omega arith)

pub strict_content : (σ ρ : Rules) → σ.ends ≡ Strict → (x : List ℕ) (n : ℕ) → content_of σ x ≡ Some n → content_of ρ x ≡ Some n
strict_content σ ρ s x n e =
    let h = is_content σ x n e in
    content_is ρ x (take n x) (strict_has σ ρ s x (take n x) h.0) ∙ ap Some h.1
