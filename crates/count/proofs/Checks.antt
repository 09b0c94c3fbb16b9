-- The check of counts and the whole check, each answer by what led to it, in the order 4, 5, 6, 7, 14.
-- Assumes nothing.
use mathlib.Core.Path.{◌≡◌, sym, ◌∙◌}
use mathlib.Core.Bool.{true, false}
use mathlib.Core.List.{List}
use Prim.Native.Nat.{ℕ}
use borrow.Author.Tests.{eq-eqb, ne_eqb}
use Rattle.rules.specs.declared.Rules.{Rules}
use Rattle.count.specs.Tally.{cells_before, record_cells}
use Rattle.count.specs.Rules.{release_of, ruling_of}
use Rattle.count.specs.Check.{well_formed, accepted_of, checked_of}
use Rattle.reply.specs.declared.Refusal.{Refusal}
use Rattle.reply.specs.declared.Refusal.TheVariants.{Misformed, BrokenRule, OtherLength}
use Rattle.std.proofs.Common.{Some, None, Ok, Err}
use Rattle.count.proofs.Tallied.{all_cells}

module _ (ns : List ℕ) where
  pub accepted_misformed : well_formed ns ≡ false → accepted_of ns ≡ Err Misformed
  unfolding accepted_of
  accepted_misformed w = rw w

  module _ (w : well_formed ns ≡ true) where
    pub accepted_release : {r : Refusal} → release_of ns ≡ Err r → accepted_of ns ≡ Err r
    unfolding accepted_of
    accepted_release e = rw (w, e)

    module _ (r : release_of ns ≡ Ok tt) where
      pub accepted_broken : {g : ℕ} → ruling_of ns ≡ Some g → accepted_of ns ≡ Err (BrokenRule g)
      unfolding accepted_of
      accepted_broken k = rw (w, r, k)

      pub accepted_right : ruling_of ns ≡ None → accepted_of ns ≡ Ok tt
      unfolding accepted_of
      accepted_right k = rw (w, r, k)

module _ (ρ : Rules) (ns : List ℕ) (cells : ℕ) where
  pub checked_refused : {r : Refusal} → accepted_of ns ≡ Err r → checked_of ρ ns cells ≡ Err r
  unfolding checked_of
  checked_refused a = rw a

  module _ (a : accepted_of ns ≡ Ok tt) where
    pub checked_right : cells ≡ cells_before ρ ns 61 → checked_of ρ ns cells ≡ Ok tt
    unfolding checked_of
    checked_right e = rw (a, eq-eqb cells (record_cells ρ ns) (e ∙ all_cells ρ ns))

    pub checked_length : (cells ≡ cells_before ρ ns 61 → ⊥) → checked_of ρ ns cells ≡ Err OtherLength
    unfolding checked_of
    checked_length n = rw (a, ne_eqb cells (record_cells ρ ns) (λ e. n (e ∙ sym (all_cells ρ ns))))
