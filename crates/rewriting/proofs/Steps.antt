-- Rewriting a record, reply by reply: each answer, with the table and the output that it leaves, by what led to it.
-- Assumes nothing.
use Rattle.std.specs.Prelude.{Ok, Err, Result}
use mathlib.Core.Path.{◌≡◌, refl, sym, ◌∙◌, ap}
use mathlib.Core.List.{List}
use Prim.Native.Nat.{ℕ, ◌+◌, ◌<◌, ◌≤◌}
use native.Mathlib.Nat.{zero-add}
use lib.IntN.{ℤ}
use lib.ListN.{length, take, drop}
use lib.Seq.{take_at, drop_at}
use Rattle.rules.specs.declared.Rules.{Rules}
use Rattle.base.specs.Part.{over}
use Rattle.base.specs.Pieces.{done, bad}
use Rattle.count.specs.Check.{checked_of}
use Rattle.count.proofs.Due.{first_due}
use Rattle.place.specs.Numbered.{as_checked, placing_reply}
use Rattle.place.specs.declared.Placing.{Placing}
use Rattle.place.specs.declared.Placing.TheVariants.{Placed, BrokenRule, Refused}
use Rattle.place.specs.Placing.{Carried, placing_of, counts_at, carried_at}
use Rattle.reading.specs.Read.{table_by}
use Rattle.reply.specs.declared.Refusal.{Refusal}
use Rattle.reply.specs.declared.Refusal.TheVariants.{NoRoom}
use Rattle.whole.specs.Due.{AllDone}
use Rattle.whole.specs.Turn.{Turn, cells_at}
use Rattle.whole.specs.Whole.{whole_read, record_read_of, whole_by, unread}
use Rattle.whole.proofs.Due as Whole
use Rattle.whole.proofs.Steps as WholeSteps
use Rattle.writing.specs.Fitting.{fit_of}
use Rattle.writing.specs.Text.{record_text, record_bytes}
use Rattle.writing.proofs.Done.{done_is}
use Rattle.rewriting.specs.Record.{rewritten_as, rewriting_of, buffer_by, table_after, rewritten_with}
use Rattle.rewriting.proofs.Due.{rewriting_unplaced, rewriting_short, rewriting_read}
use Rattle.rewriting.proofs.Whole.{read_cells, whole_written}
use Rattle.rewriting.specs.declared.Rewritten.{Rewritten}
use Rattle.whole.specs.declared.Unread.{Unread}

-- what an answer, a table and an output at exit owe
abbrev pub Outcome : Rules → List ℕ → ℕ → List ℤ → List ℕ → Result Rewritten Unread → List ℤ → List ℕ → Type 0
Outcome ρ s at table out r new text = (r ≡ rewriting_of ρ s at (length table) (length out)) × (new ≡ table_after ρ s at r table) × (text ≡ buffer_by ρ s at r out)

-- what is put from the first place on stands there, and what is behind it stays
pub over_front : {A : Type 0} (xs ys : List A) (n : ℕ) → length ys ≡ n → (take n (over 0 ys xs) ≡ ys) × (drop n (over 0 ys xs) ≡ drop n xs)
over_front xs ys n e = (
  take_at ys (drop (0 + length ys) xs) n e,
  drop_at ys (drop (0 + length ys) xs) n e ∙ ap (λ k. drop k xs) (zero-add (length ys) ∙ e),
)

-- a record that is placed with 0, with its next place and what it carries
pub record Stands (ρ : Rules) (s : List ℕ) (at next : ℕ) (r : Carried) : Type 0 where
  pub placed : placing_of ρ s at ≡ Placed next
  pub carries : r ≡ carried_at ρ s at

-- as the code finds it
pub stands_by : (ρ : Rules) (s : List ℕ) (at : ℕ) {r : Carried} → as_checked (placing_of ρ s at) ≡ Ok tt → r ≡ carried_at ρ s at → Stands ρ s at (placing_reply (placing_of ρ s at)).next r
stands_by ρ s at {r} zero e = by (placing_of ρ s at) refl zero
  where
    by : (p : Placing) → placing_of ρ s at ≡ p → as_checked p ≡ Ok tt → Stands ρ s at (placing_reply (placing_of ρ s at)).next r
    by (Placed n) u z = record { placed = u ∙ ap (λ q. Placed (placing_reply q).next) (sym u); carries = e }
    by (BrokenRule g n) u z = cc
    by (Refused why) u z = cc

module _ (ρ : Rules) (s : List ℕ) (at : ℕ) (table : List ℤ) (out : List ℕ) where
  pub step_unplaced : {why : Refusal} → as_checked (placing_of ρ s at) ≡ Err why → Outcome ρ s at table out (Err (unread (0, why))) table out
  step_unplaced e = (sym (rewriting_unplaced ρ s at (length table) (length out) e), refl, refl)

module _ {ρ : Rules} {s : List ℕ} {at next : ℕ} {r : Carried} (here : Stands ρ s at next r) (table : List ℤ) (out : List ℕ) where
  abbrev ns : List ℕ
  ns = counts_at ρ s at

  counts : r.counts_of ≡ ns
  counts = ap (λ c. c.counts_of) here.carries

  pub step_short : length out < record_bytes ρ r.counts_of → Outcome ρ s at table out (Err (unread (0, NoRoom))) table out
  step_short few = (sym (rewriting_short ρ s at (length table) (length out) here.placed (rw counts at few)), refl, refl)

  -- what was read, where the output is long enough
  module _ (fits : record_bytes ρ r.counts_of ≤ length out) {a : Result ℕ Unread} {new : List ℤ} (o : WholeSteps.Outcome (whole_by ρ s r (length table)) table a new) where
    asked : rewriting_of ρ s at (length table) (length out) ≡ rewritten_as ρ ns next (whole_read ρ s at (length table))
    asked = rewriting_read ρ s at (length table) (length out) here.placed (rw counts at fits)

    read : WholeSteps.Outcome (whole_read ρ s at (length table)) table a new
    read = WholeSteps.step_placed ρ s at table (ap as_checked here.placed) here.carries o

    pub step_unread : {why : Unread} → a ≡ Err why → Outcome ρ s at table out (Err why) new out
    step_unread {why} e = let b = by (whole_read ρ s at (length table)) (sym e ∙ read.0) in (sym (asked ∙ b.0), read.1 ∙ b.1, refl)
      where
        by : (t : Turn) → Err why ≡ record_read_of t → (rewritten_as ρ ns next t ≡ Err why) × (table_by t table ≡ table)
        by (done cs) e = cc
        by (bad u) e = let w : unread u ≡ why = cc in (ap Err w, refl)

    module _ {cells : ℕ} (e : a ≡ Ok cells) where
      -- all groups read with 0, and these are their cells
      record AllRead : Type 0 where
        pub groups : AllDone ρ s at (cells_at ρ s at)
        pub many : length (cells_at ρ s at) ≡ cells
        pub answer : rewriting_of ρ s at (length table) (length out) ≡ Ok (rewritten_with (record_bytes ρ ns) next)
        pub filled : new ≡ over 0 (cells_at ρ s at) table

      all_read : AllRead
      all_read = by (whole_read ρ s at (length table)) refl (sym e ∙ read.0) read.1
        where
          by : (t : Turn) → whole_read ρ s at (length table) ≡ t → Ok cells ≡ record_read_of t → new ≡ table_by t table → AllRead
          by (done cs) u e f =
              let d = (Whole.first_due ρ s at (length table) (done cs)).0 u in
              let same = read_cells ρ s at (length table) cs d in
              let n : cells ≡ length cs = cc in
              record { groups = rw same at d.groups; many = sym (n ∙ ap length same); answer = asked ∙ ap (rewritten_as ρ ns next) u; filled = f ∙ ap (λ ds. over 0 ds table) same }
          by (bad u) v e f = cc

      these : take cells new ≡ cells_at ρ s at
      these = ap (take cells) all_read.filled ∙ (over_front table (cells_at ρ s at) cells all_read.many).0

      -- what writing asks for
      pub record Writes : Type 0 where
        pub checked : checked_of ρ r.counts_of (length (take cells new)) ≡ Ok tt
        pub fit : fit_of ρ r.counts_of (take cells new) ≡ Ok tt
        pub room : record_bytes ρ r.counts_of ≤ length out

      pub step_writes : Writes
      step_writes =
          let w = done_is ρ ns (cells_at ρ s at) (length out) (record_bytes ρ ns) (whole_written ρ s at next here.placed all_read.groups (length out) (rw counts at fits)) in record {
            checked = rw (counts, these) ((first_due ρ ns (length (cells_at ρ s at)) (Ok tt)).1 w.checked);
            fit = rw (counts, these) w.fit;
            room = fits;
          }

      pub step_done : {bytes : ℕ} {text : List ℕ} → bytes ≡ record_bytes ρ r.counts_of → text ≡ over 0 (record_text ρ r.counts_of (take cells new)) out
          → Outcome ρ s at table out (Ok (rewritten_with bytes next)) new text
      step_done b t = (
        sym (all_read.answer ∙ ap (λ n. Ok (rewritten_with n next)) (ap (record_bytes ρ) (sym counts) ∙ sym b)),
        all_read.filled,
        t ∙ ap (λ x. over 0 x out) (ap (record_text ρ r.counts_of) these ∙ ap (λ n. record_text ρ n (cells_at ρ s at)) counts),
      )
