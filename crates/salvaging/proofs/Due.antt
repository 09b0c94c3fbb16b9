-- *First due*: the question about a stretch gives each answer exactly if it is due; and each answer fills a row of its table.
-- Assumes nothing.
use Rattle.std.specs.Prelude.{Result, Ok, Err}
use mathlib.Core.Path.{◌≡◌, sym, ◌∙◌, ap, subst}
use mathlib.Core.List.{List, [], ◌∷◌}
use mathlib.Core.Logic.{◌↔◌, inl, inr, ⊎_elim}
use Prim.Native.Nat.{ℕ, ◌<◌, ◌≤◌}
use native.Mathlib.Omega.{arith}
use lib.Dec.{lit<}
use lib.ListN.{length}
use Rattle.rules.specs.declared.Rules.{Rules}
use Rattle.base.proofs.Order.{le_or_lt}
use Rattle.reply.specs.Table.{Numbered, next}
use Rattle.reply.specs.Refusals.{refusal_reply, rows}
use Rattle.reply.proofs.Replies.{fills, refusal_fills, at_row}
use Rattle.reply.specs.declared.Refusal.{Refusal}
use Rattle.reply.specs.declared.Refusal.TheVariants.{End, Beyond}
use Rattle.salvaging.specs.Due.{RefusedFor, beyond, text_end, Due}
use Rattle.salvaging.specs.Numbered.{stretch_reply, stretch_rows}
use Rattle.salvaging.specs.Stretch.{stretch_of}
use Rattle.salvaging.proofs.Stretches.{stretch_ends, stretch_is, stretch_beyond, stretch_at_end, stretch_inside}

module _ (ρ : Rules) (s : List ℕ) (at : ℕ) where
  due_given : (a : Result ℕ Refusal) → Due ρ s at a → stretch_of ρ s at ≡ a
  due_given (Ok end) d = sym (stretch_inside ρ s at (omega (arith, d.later, d.within))) ∙ ap Ok (sym (stretch_is ρ s at end d))
  due_given (Err r) d = refused r d
    where
      refused : (r : Refusal) → RefusedFor s at r → stretch_of ρ s at ≡ Err r
      refused r (beyond l) = sym (stretch_beyond ρ s at l)
      refused r (text_end e) = sym (stretch_at_end ρ s at e)

  given_due : Due ρ s at (stretch_of ρ s at)
  given_due = ⊎_elim within (λ l. subst (Due ρ s at) (stretch_beyond ρ s at l) (beyond l)) (le_or_lt at (length s))
    where
      within : at ≤ length s → Due ρ s at (stretch_of ρ s at)
      within l =
          ⊎_elim
          (λ (m : length s ≤ at). let e : length s ≡ at = omega arith in subst (Due ρ s at) (stretch_at_end ρ s at e) (text_end e))
          (λ (m : at < length s). subst (Due ρ s at) (stretch_inside ρ s at m) (stretch_ends ρ s at m))
          (le_or_lt (length s) at)

  -- each answer is given exactly if it is due
  pub first_due : (a : Result ℕ Refusal) → stretch_of ρ s at ≡ a ↔ Due ρ s at a
  first_due a = (λ e. subst (Due ρ s at) e given_due, due_given a)

  due_numbered : (a : Result ℕ Refusal) → Due ρ s at a → Numbered stretch_rows (stretch_reply a)
  due_numbered (Ok end) d = inl (fills 0 ((next, end) ∷ []) (omega (arith, d.later), tt))
  due_numbered (Err r) d = inr (refused r d)
    where
      refused : (r : Refusal) → RefusedFor s at r → Numbered (rows (End ∷ Beyond ∷ [])) (refusal_reply r)
      refused r (text_end e) = at_row 0 (rows (End ∷ Beyond ∷ [])) (refusal_reply End) (lit< tt) (refusal_fills End tt)
      refused r (beyond l) = at_row 1 (rows (End ∷ Beyond ∷ [])) (refusal_reply Beyond) (lit< tt) (refusal_fills Beyond tt)

  pub stretch_numbered : Numbered stretch_rows (stretch_reply (stretch_of ρ s at))
  stretch_numbered = due_numbered (stretch_of ρ s at) given_due
