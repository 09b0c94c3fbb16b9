-- R120: the lowest blamed group: rules in two parts, and what the answer says in plain words.
-- Assumes nothing.
use mathlib.Core.Path.{◌≡◌, refl, sym, ◌∙◌, ap, subst}
use mathlib.Core.Bool.{Bool, true, false, cond, true≢false, ◌&&◌}
use mathlib.Core.List.{List, [], ◌∷◌, ◌++◌, map}
use mathlib.Core.Logic.{◌↔◌, inl, inr, ⊎_elim}
use Prim.Native.Nat.{ℕ, suc, ◌+◌, min, ◌<◌, ◌≤◌}
use native.Mathlib.Numerals.{add-one}
use lib.Dec.{T, leb, leb→le}
use lib.ListN.{length, get_or, drop, drop_of_length-le}
use lib.Seq.{drop-cons}
use native.Mathlib.Omega.{arith}
use Rattle.base.specs.Every.{every}
use Rattle.base.proofs.Choice.{and_left, and_right}
use Rattle.base.proofs.Order.{le_or_lt}
use Rattle.count.specs.Rules.{Rule, lower, one, lowest, head_rules, sets, letter_rules, rules, ruling_of}
use Rattle.std.proofs.Common.{Option, Some, None}
use Rattle.count.specs.Blame.{Blames, Says, KeepsRules, BreaksRules}

pub lower_kept : (a : Option ℕ) → lower a None ≡ a
lower_kept None = refl
lower_kept (Some g) = refl

pub lower_assoc : (a b c : Option ℕ) → lower (lower a b) c ≡ lower a (lower b c)
lower_assoc None b c = refl
lower_assoc (Some g) None c = refl
lower_assoc (Some g) (Some h) None = refl
lower_assoc (Some g) (Some h) (Some k) = ap Some (omega arith)

pub lowest_append : (rs ss : List Rule) → lowest (rs ++ ss) ≡ lower (lowest rs) (lowest ss)
unfolding lowest
lowest_append [] ss = refl
lowest_append (r ∷ rs) ss = ap (lower (one r)) (lowest_append rs ss) ∙ sym (lower_assoc (one r) (lowest rs) (lowest ss))

-- rules met one after the other, from those of a table
module _ {S : Type 0} (f : S → Rule) (d : S) (ss : List S) where
  pub lowest_more : (low : Option ℕ) (k : ℕ) → k < length ss → lower low (lowest (map f (drop k ss))) ≡ lower (lower low (one (f (get_or ss k d)))) (lowest (map f (drop (k + 1) ss)))
  unfolding lowest
  lowest_more low k h =
      rw (add-one k, drop-cons ss k d h) (sym (lower_assoc low (one (f (get_or ss k d))) (lowest (map f (drop (suc k) ss)))))

  pub lowest_done : (low : Option ℕ) (k : ℕ) → length ss ≤ k → lower low (lowest (map f (drop k ss))) ≡ low
  unfolding lowest
  lowest_done low k h = rw (drop_of_length-le ss h) (lower_kept low)

-- ---- in plain words

-- a rule more, kept or broken
says_kept : (r : Rule) (rs : List Rule) (a : Option ℕ) → r.kept ≡ true → Says rs a → Says (r ∷ rs) a
unfolding Blames
says_kept r rs None k s = λ g b. ⊎_elim (λ h. absurd (true≢false (sym k ∙ h.0))) (s g) b
says_kept r rs (Some g) k s = record { broken = inr s.broken; lowest = λ h b. ⊎_elim (λ j. absurd (true≢false (sym k ∙ j.0))) (s.lowest h) b }

says_broken : (r : Rule) (rs : List Rule) (a : Option ℕ) → r.kept ≡ false → Says rs a → Says (r ∷ rs) (lower (Some r.blamed) a)
unfolding Blames
says_broken r rs None k s = record { broken = inl (k, refl); lowest = λ h b. ⊎_elim (λ j. omega (arith, j.1)) (λ l. absurd (s h l)) b }
says_broken r rs (Some g) k s =
    record {
      broken = ⊎_elim (λ (l : r.blamed ≤ g). inl (k, omega arith)) (λ (l : g < r.blamed). inr (rw (least l) s.broken)) (le_or_lt r.blamed g);
      lowest = λ h b. ⊎_elim (λ j. omega (arith, j.1)) (λ l. omega (arith, s.lowest h l)) b;
    }
  where
    least : g < r.blamed → min r.blamed g ≡ g
    least l = omega arith

-- the answer says what is said of it
pub lowest_says : (rs : List Rule) → Says rs (lowest rs)
unfolding lowest Blames
lowest_says [] = λ g b. b
lowest_says (r ∷ rs) = by r.kept refl (lowest_says rs)
  where
    by : (k : Bool) → r.kept ≡ k → Says rs (lowest rs) → Says (r ∷ rs) (lower (cond k None (Some r.blamed)) (lowest rs))
    by true e s = says_kept r rs (lowest rs) e s
    by false e s = says_broken r rs (lowest rs) e s

-- and only one answer does
pub says_one : (rs : List Rule) (a b : Option ℕ) → Says rs a → Says rs b → a ≡ b
says_one rs None None s t = refl
says_one rs None (Some g) s t = absurd (s g t.broken)
says_one rs (Some g) None s t = absurd (t g s.broken)
says_one rs (Some g) (Some h) s t = ap Some (omega (arith, s.lowest h t.broken, t.lowest g s.broken))

-- R207: reply 7 with a group exactly if the group is blamed and no lower one is; no 7 exactly if none is
pub ruling_says : (ns : List ℕ) (a : Option ℕ) → ruling_of ns ≡ a ↔ Says (rules ns) a
unfolding ruling_of
ruling_says ns a = (λ e. subst (Says (rules ns)) e (lowest_says (rules ns)), λ s. says_one (rules ns) (lowest (rules ns)) a (lowest_says (rules ns)) s)

module _ (ns : List ℕ) where
  pub kept_ruling : KeepsRules ns → ruling_of ns ≡ None
  kept_ruling k = (ruling_says ns None).1 k

  pub ruling_kept : ruling_of ns ≡ None → KeepsRules ns
  ruling_kept e = (ruling_says ns None).0 e

  pub broken_ruling : {g : ℕ} → BreaksRules ns g → ruling_of ns ≡ Some g
  broken_ruling {g = g} b = (ruling_says ns (Some g)).1 b

  pub ruling_broken : {g : ℕ} → ruling_of ns ≡ Some g → BreaksRules ns g
  ruling_broken {g = g} e = (ruling_says ns (Some g)).0 e

-- ---- which groups rules can blame

pub blames_within : (rs : List Rule) (low high g : ℕ) → T (every (λ r. leb low r.blamed && leb r.blamed high) rs) → Blames rs g → (low ≤ g) × (g ≤ high)
unfolding Blames
blames_within [] low high g t b = absurd b
blames_within (r ∷ rs) low high g t b =
    let within : Rule → Bool = λ q. leb low q.blamed && leb q.blamed high in
    let here = and_left (within r) (every within rs) t in
    ⊎_elim
    (λ (h : (r.kept ≡ false) × (r.blamed ≡ g)).
    let l = leb→le low r.blamed (and_left (leb low r.blamed) (leb r.blamed high) here) in
    let m = leb→le r.blamed high (and_right (leb low r.blamed) (leb r.blamed high) here) in
    (omega (arith, h.1), omega (arith, h.1)))
    (λ h. blames_within rs low high g (and_right (within r) (every within rs) t) h)
    b

-- the rules on counts blame groups 1 to 60
pub broken_group : (ns : List ℕ) {g : ℕ} → BreaksRules ns g → (1 ≤ g) × (g ≤ 60)
unfolding head_rules letter_rules sets
broken_group ns {g = g} b = blames_within (rules ns) 1 60 g tt b.broken
