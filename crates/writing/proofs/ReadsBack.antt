-- *Written reads back*: what was written with 0 is found again in any text that has it, at any place. A record is placed there with 0, with
-- the counts that were written and the end of these bytes as the next place; and a group is read with 0 as the cells that were written of
-- it, if the table has room.
-- Assumes nothing.
use Rattle.std.specs.Prelude.{Option, Some, None, Ok}
use mathlib.Core.Path.{◌≡◌, refl, sym, ◌∙◌, ap, subst}
use mathlib.Core.List.{List, ◌++◌}
use Prim.Native.Nat.{ℕ, ◌+◌, ◌-◌, ◌≤◌, min}
use native.Mathlib.Omega.{arith}
use lib.IntN.{ℤ}
use lib.ListN.{length, take, drop, length-take, length-drop}
use lib.Seq.{take_at, length-take-le}
use Rattle.rules.specs.declared.Rules.{Rules}
use Rattle.base.specs.Part.{part}
use Rattle.base.proofs.Part.{part_cut}
use Rattle.base.proofs.Taken.{take_none}
use Rattle.form.specs.Table.{form_of}
use Rattle.count.specs.Tally
use Rattle.count.specs.Tally.{count_of, cells_by, cells_in, group_cells}
use Rattle.count.specs.Rules.{release_of, ruling_of}
use Rattle.form.proofs.Table.{has_form}
use Rattle.count.specs.Due.{Released}
use Rattle.count.proofs.Due.{counts_small, released}
use Rattle.place.specs.Placing
use Rattle.place.specs.Placing.{placing_by, counts_by}
use Rattle.place.specs.Parts.{group_part}
use Rattle.count.proofs.Rulings.{kept_ruling}
use Rattle.group.proofs.Texts.{read_located}
use Rattle.writing.specs.Canonical.{CanonicalGroup, CanonicalRecord}
use Rattle.writing.specs.RoundTrip.{ReadsBack}
use Rattle.writing.specs.Text.{record_text, record_bytes}
use Rattle.writing.specs.Writing.{date_letters, writing_of, output_by}
use Rattle.writing.proofs.Canonical.{group_read_lem}
use Rattle.writing.proofs.Done.{IsDone, done_is}
use Rattle.reading.proofs.GroupRead.{TellsDate, GroupReads, reads_group}
use Rattle.writing.proofs.Lengths.{record_length}
use Rattle.writing.proofs.Standing.{standing_located, standing_group}
use Rattle.writing.proofs.Written.{written_canonical}
use Rattle.form.specs.declared.Form.{Form}

-- ---- a canonical record reads back

module _ (ρ : Rules) {ns x : List ℕ} {cs : List ℤ} (h : CanonicalRecord ρ ns x cs) (five : release_of ns ≡ Ok tt) (kept : ruling_of ns ≡ None) (told : TellsDate (date_letters ρ ns cs)) where
  group_back : (g room : ℕ) (y : List ℕ) → 1 ≤ g → g ≤ 60 → cells_in ρ ns g ≤ room → CanonicalGroup ρ ns g y (group_cells ρ ns cs g) → GroupReads ρ ns g y room (group_cells ρ ns cs g)
  unfolding Tally.cells_in
  group_back g room y low high enough p = by (form_of g) refl enough
    where
      by : (h : Option Form) → form_of g ≡ h → cells_by ρ h (count_of ns g) ≤ room → GroupReads ρ ns g y room (group_cells ρ ns cs g)
      by (Some f) u l = record { form = f; has = u; enough = l; lines = group_read_lem ρ ns g f y (group_cells ρ ns cs g) u p; date = λ e. rw e told }
      by None u l = absurd (has_form g low (omega arith) u)

  pub canonical_back : (a b : List ℕ) → ReadsBack ρ ns cs (length x) (a ++ (x ++ b)) (length a)
  unfolding Placing.placing_of Placing.counts_at
  canonical_back a b =
      let s = a ++ (x ++ b) in
      let at = length a in
      let l = standing_located ρ h a b five in
      record {
        placed = ap placing_by l ∙ rw kept;
        counts = ap counts_by l;
        groups = λ g room low high enough.
            read_located ρ s at g room (at + length x) ns l
            ∙ reads_group ρ ns g (group_part ρ s at ns g) room (group_cells ρ ns cs g) kept (group_back g room (group_part ρ s at ns g) low high enough (standing_group ρ h a b g low high));
      }

-- ---- what was written reads back

module _ (ρ : Rules) (ns : List ℕ) (cs : List ℤ) (room n : ℕ) (e : writing_of ρ ns cs room ≡ Ok n) where
  d : IsDone ρ ns cs room n
  d = done_is ρ ns cs room n e

  has : Released ns (Ok tt)
  has = d.checked.rules.released

  pub done_canonical : CanonicalRecord ρ ns (record_text ρ ns cs) cs
  done_canonical = written_canonical ρ ns cs has.counts.many (counts_small ns has.counts) d.checked.needed d.fit

  pub done_bytes : length (record_text ρ ns cs) ≡ n
  done_bytes = record_length ρ ns cs has.counts.many d.fit ∙ sym d.bytes

  pub reads_back : (a b : List ℕ) → ReadsBack ρ ns cs n (a ++ (record_text ρ ns cs ++ b)) (length a)
  reads_back a b =
      subst (λ m. ReadsBack ρ ns cs m (a ++ (record_text ρ ns cs ++ b)) (length a)) done_bytes
      (canonical_back ρ done_canonical (released ns (Ok tt) has) (kept_ruling ns d.checked.rules.kept) record { date = d.date; right = d.right } a b)

  -- the same of the output: wherever its first n bytes stand
  pub output_bytes : (old : List ℕ) → take n (output_by ρ ns cs (Ok n) old) ≡ record_text ρ ns cs
  output_bytes old =
      ap (λ t. take n (t ++ (record_text ρ ns cs ++ drop (0 + length (record_text ρ ns cs)) old))) (take_none old)
      ∙ take_at (record_text ρ ns cs) (drop (0 + length (record_text ρ ns cs)) old) n done_bytes

  pub output_reads_back : (old s : List ℕ) (at : ℕ) → part at (at + n) s ≡ take n (output_by ρ ns cs (Ok n) old) → ReadsBack ρ ns cs n s at
  unfolding record_bytes
  output_reads_back old s at p =
      let m : at + n - at ≡ n = omega arith in
      let t : part at (at + n) s ≡ record_text ρ ns cs = p ∙ output_bytes old in
      let l : length (part at (at + n) s) ≡ n = ap length t ∙ done_bytes in
      let k : length (part at (at + n) s) ≡ min (at + n - at) (length s - at) = length-take (at + n - at) (drop at s) ∙ ap (min (at + n - at)) (length-drop at s) in
      let e : length (take at s) ≡ at = length-take-le at s (omega (arith, d.bytes)) in
      let w : take at s ++ (record_text ρ ns cs ++ drop n (drop at s)) ≡ s = ap (λ y. take at s ++ (y ++ drop n (drop at s))) (sym t) ∙ sym (part_cut s at n) in
      subst (λ i. ReadsBack ρ ns cs n s i) e (subst (λ y. ReadsBack ρ ns cs n y (length (take at s))) w (reads_back (take at s) (drop n (drop at s))))
