-- First due: the check of counts, and that of counts and a table's length, give an answer exactly if that answer is due (specs/Due.antt).
-- Assumes nothing.
use mathlib.Core.Path.{◌≡◌, refl, sym, ◌∙◌, subst}
use mathlib.Core.Bool.{Bool, true, false, cond}
use mathlib.Core.List.{List}
use mathlib.Core.Logic.{◌↔◌}
use Prim.Native.Nat.{ℕ}
use native.Mathlib.Omega.{arith}
use borrow.Author.Tests.{eqb-true, eqb-false, eq-eqb}
use lib.Dec.{T, eqb, leb→le, le→leb}
use lib.ListN.{length, get_or}
use Rattle.rules.specs.declared.Rules.{Rules}
use Rattle.base.specs.Every.{every}
use Rattle.base.proofs.Choice.{true_T, T_true, and_first, and_second, not_T_false}
use Rattle.base.proofs.Every.{every_at, at_every}
use Rattle.form.specs.Count.{most_count, is_count}
use Rattle.count.specs.Tally.{record_cells}
use Rattle.count.specs.Rules.{release_of, ruling_of}
use Rattle.count.specs.Check.{well_formed, by_rules, by_release, accepted_of, and_then, by_length, checked_of}
use Rattle.count.specs.Due.{HasCounts, Released, HasRules, CountsRefusedFor, misformed, other_release, filled_vacant, broken_rule, AcceptedDue}
use Rattle.count.specs.Due.{HasCells, RefusedFor, refused_counts, other_length, Due}
use Rattle.reply.specs.declared.Refusal.{Refusal}
use Rattle.reply.specs.declared.Refusal.TheVariants.{Misformed, OtherRelease, FilledVacant, OtherLength}
use Rattle.std.proofs.Common.{Option, Some, None, Result, Ok, Err}
use Rattle.count.proofs.Checks.{accepted_misformed, accepted_release, accepted_broken, accepted_right, checked_refused, checked_right, checked_length}
use Rattle.count.proofs.Rulings.{kept_ruling, ruling_kept, broken_ruling, ruling_broken}
use Rattle.count.proofs.Releases.{release_given, release_due}
use Rattle.count.proofs.Tallied.{all_cells}

module _ (ns : List ℕ) where
  -- ---- 4

  pub counts_small : HasCounts ns → T (every is_count ns)
  counts_small h = at_every is_count 0 ns (λ i l. le→leb (get_or ns i 0) most_count (h.small i (omega (arith, h.many))))

  counts_formed : HasCounts ns → well_formed ns ≡ true
  unfolding well_formed
  counts_formed h = rw (eq-eqb (length ns) 80 h.many) (T_true (every is_count ns) (counts_small h))

  small_counts : length ns ≡ 80 → T (every is_count ns) → HasCounts ns
  small_counts m t = record { many = m; small = λ i l. leb→le (get_or ns i 0) most_count (every_at is_count 0 ns t i (omega arith)) }

  formed_counts : well_formed ns ≡ true → HasCounts ns
  unfolding well_formed
  formed_counts w =
      small_counts
      (eqb-true (length ns) 80 (and_first (eqb (length ns) 80) (every is_count ns) w))
      (true_T (every is_count ns) (and_second (eqb (length ns) 80) (every is_count ns) w))

  not_formed : (HasCounts ns → ⊥) → well_formed ns ≡ false
  not_formed n = not_T_false (well_formed ns) (λ t. n (formed_counts (T_true (well_formed ns) t)))

  pub released : (r : Result (Unit {0}) Refusal) → Released ns r → release_of ns ≡ r
  released r h = release_given ns r h.release

  -- ---- the check of counts: what is due is given

  accepted_refusal : (r : Refusal) → CountsRefusedFor ns r → accepted_of ns ≡ Err r
  accepted_refusal r (misformed d) = accepted_misformed ns (not_formed d)
  accepted_refusal r (other_release d) = accepted_release ns (counts_formed d.counts) (released (Err OtherRelease) d)
  accepted_refusal r (filled_vacant g d) = accepted_release ns (counts_formed d.counts) (released (Err (FilledVacant g)) d)
  accepted_refusal r (broken_rule g d) = accepted_broken ns (counts_formed d.released.counts) (released (Ok tt) d.released) (broken_ruling ns d.broken)

  accepted_given : (a : Result (Unit {0}) Refusal) → AcceptedDue ns a → accepted_of ns ≡ a
  accepted_given (Err r) d = accepted_refusal r d
  accepted_given (Ok right) d = accepted_right ns (counts_formed d.released.counts) (released (Ok tt) d.released) (kept_ruling ns d.kept)

  -- ---- and what is given is due

  from_ruling : (k : Option ℕ) → Released ns (Ok tt) → ruling_of ns ≡ k → AcceptedDue ns (by_rules k)
  from_ruling None h e = record { released = h; kept = ruling_kept ns e }
  from_ruling (Some g) h e = broken_rule g record { released = h; broken = ruling_broken ns e }

  from_release : (r : Result (Unit {0}) Refusal) → Released ns r → AcceptedDue ns (by_release ns r)
  from_release (Ok five) h = from_ruling (ruling_of ns) h refl
  from_release (Err OtherRelease) h = other_release h
  from_release (Err (FilledVacant g)) h = filled_vacant g h
  from_release (Err _) h = absurd h.release

  from_formed : (t : Bool) → well_formed ns ≡ t → AcceptedDue ns (cond t (by_release ns (release_of ns)) (Err Misformed))
  from_formed true e = from_release (release_of ns) record { counts = formed_counts e; release = release_due ns }
  from_formed false e = misformed (λ h. let z = sym (counts_formed h) ∙ e in let y : ◌≡◌ {A = ℕ} 0 1 = cc in omega arith)

  accepted_due : AcceptedDue ns (accepted_of ns)
  unfolding accepted_of
  accepted_due = from_formed (well_formed ns) refl

  -- the answer that is given is the one that is due, and no other is
  pub accepted_first_due : (a : Result (Unit {0}) Refusal) → accepted_of ns ≡ a ↔ AcceptedDue ns a
  accepted_first_due a = (λ e. subst (AcceptedDue ns) e accepted_due, accepted_given a)

module _ (ρ : Rules) (ns : List ℕ) (cells : ℕ) where
  -- none of the refusals, told by the answers about release and rules
  pub has_cells : HasCounts ns → release_of ns ≡ Ok tt → ruling_of ns ≡ None → cells ≡ record_cells ρ ns → HasCells ρ ns cells
  has_cells h r k n =
      record { rules = record { released = record { counts = h; release = rw r at (release_due ns) }; kept = ruling_kept ns k }; needed = n }

  -- ---- the whole check: what is due is given

  given_refusal : (r : Refusal) → RefusedFor ρ ns cells r → checked_of ρ ns cells ≡ Err r
  given_refusal r (refused_counts q d) = checked_refused ρ ns cells (accepted_refusal ns q d)
  given_refusal r (other_length d) = checked_length ρ ns cells (accepted_given ns (Ok tt) d.rules) (λ e. d.other (e ∙ all_cells ρ ns))

  given : (c : Result (Unit {0}) Refusal) → Due ρ ns cells c → checked_of ρ ns cells ≡ c
  given (Err r) d = given_refusal r d
  given (Ok right) d = checked_right ρ ns cells (accepted_given ns (Ok tt) d.rules) (d.needed ∙ sym (all_cells ρ ns))

  -- ---- and what is given is due

  from_length : (t : Bool) → HasRules ns → eqb cells (record_cells ρ ns) ≡ t → Due ρ ns cells (cond t (Ok tt) (Err OtherLength))
  from_length true h e = record { rules = h; needed = eqb-true cells (record_cells ρ ns) e }
  from_length false h e = other_length record { rules = h; other = eqb-false cells (record_cells ρ ns) e }

  from_accepted : (a : Result (Unit {0}) Refusal) → AcceptedDue ns a → Due ρ ns cells (and_then a (by_length ρ ns cells))
  from_accepted (Ok right) h = from_length (eqb cells (record_cells ρ ns)) h refl
  from_accepted (Err r) d = refused_counts r d

  is_due : Due ρ ns cells (checked_of ρ ns cells)
  unfolding checked_of
  is_due = from_accepted (accepted_of ns) (accepted_due ns)

  pub first_due : (c : Result (Unit {0}) Refusal) → checked_of ρ ns cells ≡ c ↔ Due ρ ns cells c
  first_due c = (λ e. subst (Due ρ ns cells) e is_due, given c)
