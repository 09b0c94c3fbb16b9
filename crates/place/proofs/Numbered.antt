-- Each answer of placing fills a row of its table.
-- Assumes nothing.
use mathlib.Core.Path.{refl}
use mathlib.Core.List.{List, [], ◌∷◌}
use mathlib.Core.Logic.{inl, inr}
use Prim.Native.Nat.{ℕ, ◌≤◌}
use native.Mathlib.Omega.{arith}
use lib.Dec.{lit<}
use lib.ListN.{drop}
use Rattle.rules.specs.declared.Rules.{Rules}
use Rattle.reply.specs.Table.{Numbered, next, group}
use Rattle.reply.specs.Refusals.{refusal_reply, rows, unplaced_refusals}
use Rattle.reply.proofs.Replies.{fills, refusal_fills, at_row}
use Rattle.count.specs.Tally.{record_lines}
use Rattle.count.proofs.Rulings.{broken_group}
use Rattle.count.proofs.Tallied.{record_two}
use Rattle.line.proofs.Reach.{reach_least}
use Rattle.place.specs.declared.Placing.{Placing}
use Rattle.reply.specs.declared.Refusal.{Refusal}
use Rattle.reply.specs.declared.Refusal.TheVariants.{End, Beyond, TooFewLines, Misformed, OtherRelease, FilledVacant}
use Rattle.place.specs.declared.Placing.TheVariants.{Placed, BrokenRule, Refused}
use Rattle.place.specs.Placing.{placing_of}
use Rattle.place.specs.Numbered.{placing_reply, placing_rows}
use Rattle.place.specs.Due.{HasLines, RefusedFor, beyond, text_end, few_for_index, few_for_data, bad_index, bad_release, fills_vacant, Due}
use Rattle.place.proofs.Due.{first_due}

module _ (ρ : Rules) (s : List ℕ) (at : ℕ) where
  -- the next place is behind two lines at least
  next_behind : (ns : List ℕ) (n : ℕ) → HasLines ρ s at ns n → 1 ≤ n
  next_behind ns n h = omega (arith, h.next, h.enough, record_two ρ ns, reach_least (drop at s) (record_lines ρ ns) h.enough)

  pub refused_numbered : (r : Refusal) → RefusedFor ρ s at r → Numbered (rows unplaced_refusals) (refusal_reply r)
  refused_numbered r (text_end d) = at_row 0 (rows unplaced_refusals) (refusal_reply End) (lit< tt) (refusal_fills End tt)
  refused_numbered r (beyond d) = at_row 1 (rows unplaced_refusals) (refusal_reply Beyond) (lit< tt) (refusal_fills Beyond tt)
  refused_numbered r (few_for_index d) = at_row 2 (rows unplaced_refusals) (refusal_reply TooFewLines) (lit< tt) (refusal_fills TooFewLines tt)
  refused_numbered r (few_for_data d) = at_row 2 (rows unplaced_refusals) (refusal_reply TooFewLines) (lit< tt) (refusal_fills TooFewLines tt)
  refused_numbered r (bad_index d) = at_row 3 (rows unplaced_refusals) (refusal_reply Misformed) (lit< tt) (refusal_fills Misformed tt)
  refused_numbered r (bad_release d) = at_row 4 (rows unplaced_refusals) (refusal_reply OtherRelease) (lit< tt) (refusal_fills OtherRelease tt)
  refused_numbered r (fills_vacant g d) =
      at_row 5 (rows unplaced_refusals) (refusal_reply (FilledVacant g)) (lit< tt) (refusal_fills (FilledVacant g) (omega (arith, d.filled.low), tt))

  pub due_numbered : (p : Placing) → Due ρ s at p → Numbered placing_rows (placing_reply p)
  due_numbered (Placed n) d = inl (fills 0 ((next, n) ∷ []) (next_behind d.ns n d.lines, tt))
  due_numbered (BrokenRule g n) d =
      inr (inl (fills 7 ((group, g) ∷ (next, n) ∷ []) ((broken_group d.ns d.broken).0, (next_behind d.ns n d.lines, tt))))
  due_numbered (Refused r) d = inr (inr (refused_numbered r d))

  pub placing_numbered : Numbered placing_rows (placing_reply (placing_of ρ s at))
  placing_numbered = due_numbered (placing_of ρ s at) ((first_due ρ s at (placing_of ρ s at)).0 refl)
