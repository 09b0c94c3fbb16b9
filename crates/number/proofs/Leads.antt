-- R75, R76: the columns before E's point, where there is one and where there are three, are exactly those listed.
-- Assumes nothing.
use mathlib.Core.Path.{◌≡◌, refl, ap, ◌∙◌, subst}
use mathlib.Core.Bool.{Bool}
use mathlib.Core.List.{List, ◌++◌}
use mathlib.Core.Logic.{◌↔◌, inl, inr}
use Prim.Native.Nat.{ℕ, ◌+◌}
use native.Mathlib.Omega.{arith}
use lib.IntN.{ℤ}
use lib.ListN.{length, replicate, length-append, length-replicate}
use Rattle.number.specs.Grammar.{Lead, Shape, lead_text, lead_minus, one_column, three_columns, AnyOf, EText, IsE, IsEBy}
use Rattle.number.specs.Grammar.Lead.{nought, minus_nought, bare, minus}

length_lead : (k : ℕ) (l : Lead) → length (replicate k 32 ++ lead_text l) ≡ k + length (lead_text l)
length_lead k l = length-append (replicate k 32) (lead_text l) ∙ ap (λ n. n + length (lead_text l)) (length-replicate k 32)

abbrev text : ℕ → Lead → List ℕ
text k l = replicate k 32 ++ lead_text l

at_one : (k j : ℕ) (l : Lead) → k ≡ j → AnyOf one_column (lead_minus l) (text j l) → AnyOf one_column (lead_minus l) (text k l)
at_one k j l e a = rw e a

at_three : (k j : ℕ) (l : Lead) → k ≡ j → AnyOf three_columns (lead_minus l) (text j l) → AnyOf three_columns (lead_minus l) (text k l)
at_three k j l e a = rw e a

pub lead_one : (k : ℕ) (l : Lead) → length (text k l) ≡ 1 → AnyOf one_column (lead_minus l) (text k l)
lead_one k nought e = at_one k 0 nought (omega (arith, length_lead k nought)) (inl (refl, refl))
lead_one k minus_nought e = absurd (omega (arith, length_lead k minus_nought))
lead_one k bare e = at_one k 0 bare (omega (arith, length_lead k bare)) (inr (inl (refl, refl)))
lead_one k minus e = at_one k 0 minus (omega (arith, length_lead k minus)) (inr (inr (inl (refl, refl))))

pub lead_three : (k : ℕ) (l : Lead) → length (text k l) ≡ 3 → AnyOf three_columns (lead_minus l) (text k l)
lead_three k nought e = at_three k 2 nought (omega (arith, length_lead k nought)) (inl (refl, refl))
lead_three k minus_nought e = at_three k 1 minus_nought (omega (arith, length_lead k minus_nought)) (inr (inl (refl, refl)))
lead_three k bare e = at_three k 2 bare (omega (arith, length_lead k bare)) (inr (inr (inl (refl, refl))))
lead_three k minus e = at_three k 2 minus (omega (arith, length_lead k minus)) (inr (inr (inr (inl (refl, refl)))))

-- blanks and an ending that give a text and its sign
pub record LeadOf (c : ℕ) (g : Bool) (t : List ℕ) : Type 0 where
  pub blanks : ℕ
  pub lead : Lead
  pub columns : length (text blanks lead) ≡ c
  pub sign : g ≡ lead_minus lead
  pub is : t ≡ text blanks lead

pub one_lead : (g : Bool) (t : List ℕ) → AnyOf one_column g t → LeadOf 1 g t
one_lead g t (inl p) = record { blanks = 0; lead = nought; columns = refl; sign = p.0; is = p.1 }
one_lead g t (inr (inl p)) = record { blanks = 0; lead = bare; columns = refl; sign = p.0; is = p.1 }
one_lead g t (inr (inr (inl p))) = record { blanks = 0; lead = minus; columns = refl; sign = p.0; is = p.1 }
one_lead g t (inr (inr (inr p))) = absurd p

pub three_lead : (g : Bool) (t : List ℕ) → AnyOf three_columns g t → LeadOf 3 g t
three_lead g t (inl p) = record { blanks = 2; lead = nought; columns = refl; sign = p.0; is = p.1 }
three_lead g t (inr (inl p)) = record { blanks = 1; lead = minus_nought; columns = refl; sign = p.0; is = p.1 }
three_lead g t (inr (inr (inl p))) = record { blanks = 2; lead = bare; columns = refl; sign = p.0; is = p.1 }
three_lead g t (inr (inr (inr (inl p)))) = record { blanks = 2; lead = minus; columns = refl; sign = p.0; is = p.1 }
three_lead g t (inr (inr (inr (inr p)))) = absurd p

-- ---- an E field, by the texts that may stand before its point

module _ (c d x : ℕ) (shapes : List Shape) (s : List ℕ) (m e : ℤ) where
  shaped : ((k : ℕ) (l : Lead) → length (text k l) ≡ c → AnyOf shapes (lead_minus l) (text k l)) → IsE c d x s m e → IsEBy shapes d x s m e
  shaped any h =
      record { minus = lead_minus h.lead; head = text h.blanks h.lead; shape = any h.blanks h.lead h.columns; rest = h.rest }

  led : ((g : Bool) (t : List ℕ) → AnyOf shapes g t → LeadOf c g t) → IsEBy shapes d x s m e → IsE c d x s m e
  led lead h =
      let l = lead h.minus h.head h.shape in
      record {
        blanks = l.blanks;
        lead = l.lead;
        columns = l.columns;
        rest = subst (λ g. EText d x g (text l.blanks l.lead) s m e) l.sign (subst (λ t. EText d x h.minus t s m e) l.is h.rest);
      }

module _ (d x : ℕ) (s : List ℕ) (m e : ℤ) where
  -- R75
  pub e_one : IsE 1 d x s m e ↔ IsEBy one_column d x s m e
  e_one = (shaped 1 d x one_column s m e lead_one, led 1 d x one_column s m e one_lead)

  -- R76
  pub e_three : IsE 3 d x s m e ↔ IsEBy three_columns d x s m e
  e_three = (shaped 3 d x three_columns s m e lead_three, led 3 d x three_columns s m e three_lead)
