-- A text of canonical records within the program's limits is rewritten as itself; and what the program prints is such a text, so that printing
-- it again, where it is within the limits, prints the same.
-- Assumes nothing.
use Rattle.std.specs.Prelude.{Ok, Result, Err}
use mathlib.Core.Path.{◌≡◌, refl, ◌∙◌, ap, ap₂}
use mathlib.Core.Bool.{Bool, true, false, cond}
use mathlib.Core.List.{List, [], ◌++◌, append_assoc, append-nil}
use Prim.Native.Nat.{ℕ, zero, suc, ◌+◌, ◌-◌, ◌≤◌}
use native.Mathlib.Omega.{arith}
use borrow.Author.Tests.{le-leb}
use lib.Dec.{leb}
use lib.ListN.{length, length-append}
use Rattle.rules.specs.declared.Rules.{Rules}
use Rattle.base.specs.Part.{part}
use Rattle.base.proofs.Part.{part_middle}
use Rattle.count.specs.Tally.{cells_in, group_cells}
use Rattle.place.specs.Placing.{counts_at}
use Rattle.whole.specs.Due.{GroupDone, AllDone}
use Rattle.whole.specs.Turn.{cells_at}
use Rattle.writing.specs.Canonical.{CanonicalRecord}
use Rattle.writing.specs.RoundTrip.{ReadsBack, ReadWhole}
use Rattle.writing.specs.Text.{record_text, record_bytes}
use Rattle.count.proofs.Releases.{release_given}
use Rattle.count.proofs.Rulings.{kept_ruling}
use Rattle.date.proofs.Due as Letters
use Rattle.writing.specs.Writing.{date_letters}
use Rattle.writing.proofs.Done.{done_is}
use Rattle.writing.proofs.ReadsBack.{canonical_back, done_canonical}
use Rattle.writing.proofs.ReadWrites.{again_bytes, written_again}
use Rattle.rewriting.specs.Canonical.{RightRecord, CanonicalRecords, none, more}
use Rattle.rewriting.specs.Record.{text_at, rewriting_of, rewritten_with}
use Rattle.rewriting.specs.Printed.{program_rewriting, text_then, rewritten_from, rewritten, printed}
use Rattle.rewriting.proofs.Cells.{record_cells_lem}
use Rattle.rewriting.proofs.Due.{first_due}
use Rattle.rewriting.proofs.Printing.{rewritten_done, rewritten_stop, end_never}
use Rattle.rewriting.proofs.Promises.{done_writes, done_text, done_within, done_further}
use Rattle.rewriting.proofs.Whole.{groups_done, whole_read_lem}
use Rattle.rewriting.specs.declared.Rewritten.{Rewritten}
use Rattle.whole.specs.declared.Unread.{Unread}

-- ---- a right record, wherever it stands, is rewritten as itself

module _ (ρ : Rules) {x : List ℕ} (r : RightRecord ρ x) (a b : List ℕ) where
  abbrev here : List ℕ
  here = a ++ (x ++ b)

  -- it reads back
  pub right_back : ReadsBack ρ r.ns r.cs (length x) here (length a)
  right_back = canonical_back ρ r.canonical (release_given r.ns (Ok tt) r.release)
      (kept_ruling r.ns r.rules) record { date = r.date; right = (Letters.first_due (date_letters ρ r.ns r.cs) (Ok r.date)).1 r.dated } a b

  each : (g : ℕ) → 1 ≤ g → g ≤ 60 → GroupDone ρ here (length a) g
  each g low high = record {
    cells = group_cells ρ r.ns r.cs g;
    reads = right_back.groups g (cells_in ρ (counts_at ρ here (length a)) g) low high (rw right_back.counts (omega arith));
  }

  all : AllDone ρ here (length a) (cells_at ρ here (length a))
  all = groups_done ρ here (length a) each

  stands : CanonicalRecord ρ (counts_at ρ here (length a)) (part (length a) (length a + length x) here) r.cs
  stands = rw (right_back.counts, part_middle a x b) r.canonical

  read : ReadWhole ρ here (length a) (length a + length x) all.cells
  read = whole_read_lem ρ here (length a) (length a + length x) right_back.placed all

  pub right_text : text_at ρ here (length a) ≡ x
  right_text = ap (record_text ρ (counts_at ρ here (length a))) all.all ∙ written_again ρ read stands ∙ part_middle a x b

  pub right_rewritten : length x ≤ 8192 → program_rewriting ρ here (length a) ≡ Ok (rewritten_with (length x) (length a + length x))
  right_rewritten l =
      let n : record_bytes ρ (counts_at ρ here (length a)) ≡ length x = again_bytes ρ read stands ∙ omega arith in
      (first_due ρ here (length a) 8192 8192 (Ok (rewritten_with (length x) (length a + length x)))).1 record {
        roomy = record { placed = right_back.placed; text_fits = omega (arith, n); cells_fit = omega (arith, n, record_cells_lem ρ (counts_at ρ here (length a))) };
        groups = each;
        written = n;
      }

-- ---- a text of them

rewritten_same : (ρ : Rules) (a : List ℕ) {y : List ℕ} → CanonicalRecords ρ y → (k : ℕ) → length y ≤ k → rewritten_from ρ k (a ++ y) (length a) ≡ y
rewritten_same ρ a none k h = rewritten_stop ρ (a ++ []) k (length a) (end_never ρ (a ++ []) (length a) (omega (arith, ap length (append-nil a))))
rewritten_same ρ a (more x {y} r l ys) k h =
    let e = right_rewritten ρ r a y l in
    let long = done_further ρ (a ++ (x ++ y)) (length a) 8192 8192 (length x) (length a + length x) e in
    let both : length (x ++ y) ≡ length x + length y = length-append x y in
    let j : k ≡ suc (k - 1) = omega arith in
    let rest : rewritten_from ρ (k - 1) (a ++ (x ++ y)) (length a + length x) ≡ y = rw (← append_assoc a x y, ← length-append a x) (rewritten_same ρ (a ++ x) ys (k - 1) (omega arith)) in
    ap (λ i. rewritten_from ρ i (a ++ (x ++ y)) (length a)) j
    ∙ rewritten_done ρ (a ++ (x ++ y)) (k - 1) (length a) (length x) (length a + length x) e
    ∙ ap₂ ◌++◌ (right_text ρ r a y) rest

-- R348: such a text is printed as it stands
pub canonical_printed : (ρ : Rules) (s : List ℕ) → CanonicalRecords ρ s → length s ≤ 65536 → printed ρ s ≡ s
unfolding printed rewritten
canonical_printed ρ s c l = rw (le-leb (length s) 65536 l) (rewritten_same ρ [] c (length s) (omega arith))

-- ---- what is printed is canonical records

text_right : (ρ : Rules) (s : List ℕ) (at cells room bytes next : ℕ) → rewriting_of ρ s at cells room ≡ Ok (rewritten_with bytes next) → RightRecord ρ (text_at ρ s at)
text_right ρ s at cells room bytes next e =
    let w = done_writes ρ s at cells room bytes next e in
    let d = done_is ρ (counts_at ρ s at) (cells_at ρ s at) room bytes w in
    record {
      ns = counts_at ρ s at;
      cs = cells_at ρ s at;
      canonical = done_canonical ρ (counts_at ρ s at) (cells_at ρ s at) room bytes w;
      release = d.checked.rules.released.release;
      rules = d.checked.rules.kept;
      date = d.date;
      dated = (Letters.first_due (date_letters ρ (counts_at ρ s at) (cells_at ρ s at)) (Ok d.date)).0 d.right;
    }

rewritten_canonical : (ρ : Rules) (k : ℕ) (s : List ℕ) (at : ℕ) → CanonicalRecords ρ (rewritten_from ρ k s at)
unfolding rewritten_from
rewritten_canonical ρ zero s at = none
rewritten_canonical ρ (suc k) s at = by (program_rewriting ρ s at) refl (rewritten_canonical ρ k s)
  where
    by : (r : Result Rewritten Unread) → program_rewriting ρ s at ≡ r → ((p : ℕ) → CanonicalRecords ρ (rewritten_from ρ k s p)) → CanonicalRecords ρ (text_then (text_at ρ s at) (rewritten_from ρ k s) r)
    by (Ok w) e rest =
        more (text_at ρ s at) (text_right ρ s at 8192 8192 w.bytes w.next e) (omega (arith, done_text ρ s at 8192 8192 w.bytes w.next e, done_within ρ s at 8192 8192 w.bytes w.next e)) (rest w.next)
    by (Err u) e rest = none

pub printed_canonical : (ρ : Rules) (s : List ℕ) → CanonicalRecords ρ (printed ρ s)
unfolding printed rewritten
printed_canonical ρ s = by (leb (length s) 65536)
  where
    by : (t : Bool) → CanonicalRecords ρ (cond t (rewritten_from ρ (length s) s 0) [])
    by true = rewritten_canonical ρ (length s) s 0
    by false = none

-- so that it is printed again as itself, where it is not longer than the program takes
pub printed_again : (ρ : Rules) (s : List ℕ) → length (printed ρ s) ≤ 65536 → printed ρ (printed ρ s) ≡ printed ρ s
printed_again ρ s l = canonical_printed ρ (printed ρ s) (printed_canonical ρ s) l
