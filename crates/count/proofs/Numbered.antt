-- Each answer of the check of counts, and of the whole check, fills a row of its table.
-- Assumes nothing.
use mathlib.Core.Path.{refl}
use mathlib.Core.List.{List, [], ◌∷◌}
use mathlib.Core.Logic.{inl, inr}
use Prim.Native.Nat.{ℕ}
use native.Mathlib.Omega.{arith}
use lib.Dec.{lit<}
use Rattle.rules.specs.declared.Rules.{Rules}
use Rattle.reply.specs.declared.Refusal.{Refusal}
use Rattle.reply.specs.declared.Refusal.TheVariants.{Misformed, OtherRelease, FilledVacant, BrokenRule, OtherLength}
use Rattle.reply.specs.Table.{Numbered}
use Rattle.reply.specs.Refusals.{refusal_reply, checked_reply, rows}
use Rattle.std.proofs.Common.{Result, Ok, Err}
use Rattle.reply.proofs.Replies.{fills, refusal_fills, at_row, rows_left}
use Rattle.count.specs.Numbered.{counts_refusals, counts_rows, check_refusals, check_rows}
use Rattle.count.specs.Check.{accepted_of, checked_of}
use Rattle.count.specs.Due.{CountsRefusedFor, misformed, other_release, filled_vacant, broken_rule, AcceptedDue}
use Rattle.count.specs.Due.{RefusedFor, refused_counts, other_length, Due}
use Rattle.count.proofs.Due.{accepted_first_due, first_due}
use Rattle.count.proofs.Rulings.{broken_group}

pub counts_refusal_numbered : (ns : List ℕ) (r : Refusal) → CountsRefusedFor ns r → Numbered (rows counts_refusals) (refusal_reply r)
counts_refusal_numbered ns r (misformed d) = at_row 0 (rows counts_refusals) (refusal_reply Misformed) (lit< tt) (refusal_fills Misformed tt)
counts_refusal_numbered ns r (other_release d) = at_row 1 (rows counts_refusals) (refusal_reply OtherRelease) (lit< tt) (refusal_fills OtherRelease tt)
counts_refusal_numbered ns r (filled_vacant g d) =
    at_row 2 (rows counts_refusals) (refusal_reply (FilledVacant g)) (lit< tt) (refusal_fills (FilledVacant g) (omega (arith, d.release.low), tt))
counts_refusal_numbered ns r (broken_rule g d) =
    at_row 3 (rows counts_refusals) (refusal_reply (BrokenRule g)) (lit< tt) (refusal_fills (BrokenRule g) ((broken_group ns d.broken).0, tt))

pub accepted_numbered : (ns : List ℕ) → Numbered counts_rows (checked_reply (accepted_of ns))
accepted_numbered ns = by (accepted_of ns) ((accepted_first_due ns (accepted_of ns)).0 refl)
  where
    by : (a : Result (Unit {0}) Refusal) → AcceptedDue ns a → Numbered counts_rows (checked_reply a)
    by (Ok right) d = inl (fills 0 [] tt)
    by (Err r) d = inr (counts_refusal_numbered ns r d)

pub check_refusal_numbered : (ρ : Rules) (ns : List ℕ) (cells : ℕ) (r : Refusal) → RefusedFor ρ ns cells r → Numbered (rows check_refusals) (refusal_reply r)
check_refusal_numbered ρ ns cells r (refused_counts q d) = rows_left counts_refusals (OtherLength ∷ []) (refusal_reply q) (counts_refusal_numbered ns q d)
check_refusal_numbered ρ ns cells r (other_length d) = at_row 4 (rows check_refusals) (refusal_reply OtherLength) (lit< tt) (refusal_fills OtherLength tt)

pub check_numbered : (ρ : Rules) (ns : List ℕ) (cells : ℕ) → Numbered check_rows (checked_reply (checked_of ρ ns cells))
check_numbered ρ ns cells = by (checked_of ρ ns cells) ((first_due ρ ns cells (checked_of ρ ns cells)).0 refl)
  where
    by : (c : Result (Unit {0}) Refusal) → Due ρ ns cells c → Numbered check_rows (checked_reply c)
    by (Ok right) d = inl (fills 0 [] tt)
    by (Err r) d = inr (check_refusal_numbered ρ ns cells r d)
