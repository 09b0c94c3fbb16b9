-- Reading a whole record, reply by reply: each answer, with the table that it leaves, by what led to it.
-- Assumes nothing.
use Rattle.std.specs.Prelude.{Result, Ok, Err}
use mathlib.Core.Path.{◌≡◌, refl, sym, ◌∙◌, ap, subst}
use mathlib.Core.List.{List}
use Prim.Native.Nat.{ℕ, ◌<◌, ◌≤◌}
use native.Mathlib.Omega.{arith}
use borrow.Author.Tests.{le-leb, lt-leb}
use lib.IntN.{ℤ}
use lib.ListN.{length}
use Rattle.rules.specs.declared.Rules.{Rules}
use Rattle.base.specs.Part.{over}
use Rattle.base.specs.Pieces.{done, bad, cells_got}
use Rattle.count.specs.Tally.{record_cells}
use Rattle.place.specs.Numbered.{as_checked}
use Rattle.place.specs.declared.Placing.{Placing}
use Rattle.place.specs.declared.Placing.TheVariants.{Placed, BrokenRule, Refused}
use Rattle.place.specs.Placing.{Carried, placing_of, carried_at}
use Rattle.reading.specs.Read.{table_by}
use Rattle.reply.specs.declared.Refusal.{Refusal}
use Rattle.reply.specs.declared.Refusal.TheVariants.{NoRoom}
use Rattle.whole.specs.declared.Unread.{Unread}
use Rattle.whole.specs.Turn.{Turn}
use Rattle.whole.specs.Whole.{unread, whole_read, record_read_of, groups_of, all_by, whole_by}
use Rattle.whole.proofs.Passes.{all_size}
use Rattle.whole.proofs.Placed.{whole_by_lem}

-- what an answer and a table at exit owe
abbrev pub Outcome : Turn → List ℤ → Result ℕ Unread → List ℤ → Type 0
Outcome t old a new = (a ≡ record_read_of t) × (new ≡ table_by t old)

outcome_by : (old new : List ℤ) (a : Result ℕ Unread) {t u : Turn} → t ≡ u → Outcome u old a new → Outcome t old a new
outcome_by old new a e = subst (λ v. Outcome v old a new) (sym e)

-- ---- by a placed record

module _ (ρ : Rules) (s : List ℕ) (r : Carried) (old : List ℤ) where
  pub step_short : length old < record_cells ρ r.counts_of → Outcome (whole_by ρ s r (length old)) old (Err (unread (0, NoRoom))) old
  step_short few = rw (lt-leb (record_cells ρ r.counts_of) (length old) few) (refl, refl)

  module _ (enough : record_cells ρ r.counts_of ≤ length old) where
    roomy : whole_by ρ s r (length old) ≡ all_by ρ s r
    roomy = rw (le-leb (record_cells ρ r.counts_of) (length old) enough) refl

    pub step_unread : {u : Unread} → Err u ≡ groups_of (all_by ρ s r) → Outcome (whole_by ρ s r (length old)) old (Err u) old
    step_unread {u} e = outcome_by old old (Err u) roomy (by (all_by ρ s r) e)
      where
        by : (t : Turn) → Err u ≡ groups_of t → Outcome t old (Err u) old
        by (done cs) e = let z : ◌≡◌ {A = ℕ} 0 1 = cc in absurd (omega arith)
        by (bad v) e = let a : u ≡ unread v = cc in (ap Err a, refl)

    pub step_read : {n : ℕ} {new : List ℤ} → n ≡ record_cells ρ r.counts_of → Ok tt ≡ groups_of (all_by ρ s r) → new ≡ over 0 (cells_got (all_by ρ s r)) old
        → Outcome (whole_by ρ s r (length old)) old (Ok n) new
    step_read {n} {new} many clean filled = outcome_by old new (Ok n) roomy (by (all_by ρ s r) refl clean filled)
      where
        by : (t : Turn) → all_by ρ s r ≡ t → Ok tt ≡ groups_of t → new ≡ over 0 (cells_got t) old → Outcome t old (Ok n) new
        by (done cs) u e f = (ap Ok (many ∙ sym (all_size ρ s r cs u)), f)
        by (bad q) u e f = let z : ◌≡◌ {A = ℕ} 0 1 = cc in absurd (omega arith)

-- ---- by place

module _ (ρ : Rules) (s : List ℕ) (at : ℕ) (old : List ℤ) where
  pub step_unplaced : {why : Refusal} → as_checked (placing_of ρ s at) ≡ Err why → Outcome (whole_read ρ s at (length old)) old (Err (unread (0, why))) old
  unfolding whole_read
  step_unplaced e = rw e (refl, refl)

  pub step_placed : as_checked (placing_of ρ s at) ≡ Ok tt → {r : Carried} → r ≡ carried_at ρ s at → {a : Result ℕ Unread} {new : List ℤ} → Outcome (whole_by ρ s r (length old)) old a new
      → Outcome (whole_read ρ s at (length old)) old a new
  step_placed zero {r} e {a} {new} o = by (placing_of ρ s at) refl zero
    where
      by : (p : Placing) → placing_of ρ s at ≡ p → as_checked p ≡ Ok tt → Outcome (whole_read ρ s at (length old)) old a new
      by (Placed next) u z = outcome_by old new a (sym (ap (λ c. whole_by ρ s c (length old)) e ∙ whole_by_lem ρ s at next u (length old))) o
      by (BrokenRule g next) u z = let y : ◌≡◌ {A = ℕ} 0 1 = cc in absurd (omega arith)
      by (Refused why) u z = let y : ◌≡◌ {A = ℕ} 0 1 = cc in absurd (omega arith)
