-- Each answer fills a row of the question's table, with the place that was found and the records that were passed as the row says.
-- Assumes nothing.
use Rattle.std.specs.Prelude.{Ok, Err}
use mathlib.Core.Path.{refl}
use mathlib.Core.List.{List, []}
use mathlib.Core.Logic.{inl, inr}
use Prim.Native.Nat.{ℕ}
use native.Mathlib.Omega.{arith}
use lib.Dec.{lit<}
use Rattle.rules.specs.declared.Rules.{Rules}
use Rattle.date.specs.declared.Date.{Date}
use Rattle.date.proofs.Asked.{asked_position}
use Rattle.place.specs.declared.Placing.TheVariants as P
use Rattle.place.specs.Due as Place
use Rattle.place.specs.Due.{beyond, text_end, few_for_index, few_for_data, bad_index, bad_release, fills_vacant}
use Rattle.place.specs.Walk.{spot}
use Rattle.place.proofs.Due as Placing
use Rattle.place.proofs.Walked.{spot_inside}
use Rattle.reply.specs.declared.Refusal.{Refusal}
use Rattle.reply.specs.declared.Refusal.TheVariants.{End, TooFewLines, Misformed, OtherRelease, FilledVacant, BadDate}
use Rattle.reply.specs.Table.{Numbered}
use Rattle.reply.specs.Refusals.{refusal_reply, rows}
use Rattle.reply.proofs.Replies.{fills, refusal_fills, at_row}
use Rattle.since.specs.Numbered.{First, first_reply, place_told, passed_told, stop_refusals, NumberedApart}
use Rattle.since.specs.Due.{RefusedFor, bad_date, not_found, Due}
use Rattle.since.specs.Since.{first_from}
use Rattle.since.proofs.Due.{first_due}

module _ (ρ : Rules) (s : List ℕ) where
  -- R254: what a walk stops with; a spot never lies beyond the text's end
  stop_numbered : (k : ℕ) (r : Refusal) → Place.RefusedFor ρ s (spot ρ s k) r → Numbered (rows stop_refusals) (refusal_reply r)
  stop_numbered k r (beyond d) = absurd (omega (arith, d, spot_inside ρ s k))
  stop_numbered k r (text_end d) = at_row 0 (rows stop_refusals) (refusal_reply End) (lit< tt) (refusal_fills End tt)
  stop_numbered k r (few_for_index d) = at_row 1 (rows stop_refusals) (refusal_reply TooFewLines) (lit< tt) (refusal_fills TooFewLines tt)
  stop_numbered k r (few_for_data d) = at_row 1 (rows stop_refusals) (refusal_reply TooFewLines) (lit< tt) (refusal_fills TooFewLines tt)
  stop_numbered k r (bad_index d) = at_row 2 (rows stop_refusals) (refusal_reply Misformed) (lit< tt) (refusal_fills Misformed tt)
  stop_numbered k r (bad_release d) = at_row 3 (rows stop_refusals) (refusal_reply OtherRelease) (lit< tt) (refusal_fills OtherRelease tt)
  stop_numbered k r (fills_vacant g d) =
      at_row 4 (rows stop_refusals) (refusal_reply (FilledVacant g)) (lit< tt) (refusal_fills (FilledVacant g) (omega (arith, d.filled.low), tt))

  module _ (from : Date) where
    refused_numbered : (k : ℕ) (r : Refusal) → RefusedFor ρ s from k r → NumberedApart 0 k (refusal_reply r)
    refused_numbered k r (bad_date p a) = inr (inl (refl, refl, inl (refusal_fills (BadDate p) (asked_position from p a, tt))))
    refused_numbered k r (not_found many q a h) = inr (inr (refl, stop_numbered many q ((Placing.first_due ρ s (spot ρ s many) (P.Refused q)).0 h.stops.answer)))

    pub first_numbered : NumberedApart (place_told (first_from ρ s from)) (passed_told (first_from ρ s from)) (first_reply (first_from ρ s from))
    first_numbered = by (first_from ρ s from) ((first_due ρ s from (first_from ρ s from)).0 refl)
      where
        by : (x : First) → Due ρ s from x → NumberedApart (place_told x) (passed_told x) (first_reply x)
        by (Ok f) h = inl (inl (fills 0 [] tt))
        by (Err u) h = refused_numbered u.passed u.why h
