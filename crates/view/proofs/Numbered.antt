-- Each answer of the questions with a record fills a row of the question's table.
-- Assumes nothing.
use Rattle.std.specs.Prelude.{Result, Ok, Err}
use mathlib.Core.Path.{refl}
use mathlib.Core.List.{List, [], ◌∷◌, ◌++◌}
use mathlib.Core.Logic.{inl, inr}
use Prim.Native.Nat.{ℕ}
use native.Mathlib.Omega.{arith}
use lib.Dec.{lit<}
use lib.ListN.{length}
use Rattle.rules.specs.declared.Rules.{Rules}
use Rattle.base.specs.Pieces.{done, bad}
use Rattle.count.specs.Numbered.{counts_refusals}
use Rattle.count.specs.Tally.{count_of}
use Rattle.count.proofs.Numbered.{counts_refusal_numbered}
use Rattle.place.specs.Placing.{Carried}
use Rattle.reading.specs.Numbered.{given_refusals}
use Rattle.reading.specs.Read.{Cells, reading_of}
use Rattle.reading.proofs.Promises.{HasAsked, refusal_behind}
use Rattle.group.specs.Numbered.{characteristic_reply}
use Rattle.group.proofs.Numbered.{four_behind, told_numbered}
use Rattle.reply.specs.Table.{Numbered, cells}
use Rattle.reply.specs.Refusals.{refusal_reply, checked_reply, answer_reply, rows, line_refusals}
use Rattle.reply.proofs.Replies.{fills, refusal_fills, at_row, rows_left}
use Rattle.reply.specs.declared.Refusal.{Refusal}
use Rattle.reply.specs.declared.Refusal.TheVariants.{NoSuchNumber, BrokenRule, BadPart}
use Rattle.view.specs.Due.{RefusedFor, no_group, bad_counts, bad_part, LinesDue, Due}
use Rattle.view.specs.Numbered.{with_refusals, lines_rows, group_rows, told_rows}
use Rattle.view.specs.With.{found_with, read_with, characteristic_with}
use Rattle.view.proofs.Due.{found_first_due, first_due, characteristic_first_due}

has_with : HasAsked with_refusals
has_with = record {
  no_group_row = inl (refusal_fills NoSuchNumber tt);
  broken_row = λ h l. at_row 4 (rows with_refusals) (refusal_reply (BrokenRule h)) (lit< tt) (refusal_fills (BrokenRule h) (l, tt));
}

module _ (ρ : Rules) (s : List ℕ) (r : Carried) where
  module _ (g : ℕ) where
    missing_numbered : (q : Refusal) → RefusedFor ρ s r g q → Numbered (rows with_refusals) (refusal_reply q)
    missing_numbered q (no_group d) = has_with.no_group_row
    missing_numbered q (bad_counts p low high d) = inr (rows_left counts_refusals (BadPart ∷ []) (refusal_reply p) (counts_refusal_numbered r.counts_of p d))
    missing_numbered q (bad_part d) = at_row 5 (rows with_refusals) (refusal_reply BadPart) (lit< tt) (refusal_fills BadPart tt)

    pub lines_numbered : Numbered lines_rows (checked_reply (found_with ρ s r g))
    lines_numbered = by (found_with ρ s r g) ((found_first_due ρ s r g (found_with ρ s r g)).0 refl)
      where
        by : (a : Result (Unit {0}) Refusal) → LinesDue ρ s r g a → Numbered lines_rows (checked_reply a)
        by (Ok _) d = inl (fills 0 [] tt)
        by (Err q) d = inr (missing_numbered q d)

    pub group_numbered : (room : ℕ) → Numbered group_rows (answer_reply (reading_of (read_with ρ s r g room)))
    group_numbered room = by (read_with ρ s r g room) ((first_due ρ s r g room (read_with ρ s r g room)).0 refl)
      where
        by : (c : Cells) → Due ρ s r g room c → Numbered group_rows (answer_reply (reading_of c))
        by (done cs) d = inl (fills 0 ((cells, length cs) ∷ []) (omega arith, tt))
        by (bad q) (inl m) = inr (rows_left with_refusals given_refusals (refusal_reply q) (missing_numbered q m))
        by (bad q) (inr d) = inr (refusal_behind with_refusals has_with ρ r.counts_of g _ room q d.reading)

  four_numbered : (q : Refusal) → Due ρ s r 4 49 (bad q) → Numbered (rows (with_refusals ++ line_refusals)) (refusal_reply q)
  four_numbered q (inl m) = rows_left with_refusals line_refusals (refusal_reply q) (missing_numbered 4 q m)
  four_numbered q (inr d) = four_behind with_refusals has_with ρ r.counts_of _ q d.reading

  pub characteristic_numbered : (k : ℕ) → Numbered told_rows (characteristic_reply (characteristic_with ρ s r k))
  characteristic_numbered k =
      told_numbered with_refusals (Due ρ s r 4) (count_of r.counts_of 4) k has_with four_numbered (characteristic_with ρ s r k)
      ((characteristic_first_due ρ s r k (characteristic_with ρ s r k)).0 refl)
