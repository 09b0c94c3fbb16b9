-- R333: the date of the record at a place, as a statement; by what the record carries; and that a record which answers 7 has none.
-- Assumes nothing.
use Rattle.std.specs.Prelude.{Option, Some, None, Result, Ok, Err}
use mathlib.Core.Path.{◌≡◌, refl, sym, ◌∙◌, ap}
use mathlib.Core.Bool.{true}
use mathlib.Core.List.{List, map}
use mathlib.Core.Logic.{◌↔◌}
use Prim.Native.Nat.{ℕ}
use native.Mathlib.Omega.{arith}
use lib.Dec.{lit≤}
use lib.IntN.{ℤ}
use Rattle.rules.specs.declared.Rules.{Rules}
use Rattle.base.specs.Pieces.{done, bad}
use Rattle.base.specs.Sign.{size_of}
use Rattle.count.specs.Tally.{cells_in}
use Rattle.date.specs.declared.Date.{Date}
use Rattle.date.proofs.Due as Letters
use Rattle.date.proofs.Order.{not_before_exactly}
use Rattle.place.specs.declared.Placing.TheVariants.{Placed, BrokenRule}
use Rattle.place.specs.Placing.{placing_of, counts_at, carried_at}
use Rattle.place.specs.Walk.{spot, IsRecord}
use Rattle.place.proofs.Due as Place
use Rattle.place.proofs.Parted.{named_lines}
use Rattle.place.proofs.Zero.{is_placed_lem}
use Rattle.reading.specs.Read.{Cells, letters_dated, record_dated, date_told}
use Rattle.reply.specs.declared.Refusal.TheVariants as R
use Rattle.group.specs.Due.{broken_rule}
use Rattle.group.specs.Text.{read_at}
use Rattle.group.proofs.Due.{first_due, found_first_due}
use Rattle.group.proofs.Texts.{read_located, read_missing}
use Rattle.since.specs.Due.{IsDated, IsFrom}
use Rattle.since.specs.Since.{meets, date_at}
use Rattle.since.specs.Steps.{date_by}

-- ---- cells that tell a date

record TellsDate (c : Cells) (d : Date) : Type 0 where
  cells : List ℤ
  read : c ≡ done cells
  right : letters_dated cells ≡ Ok d

told_tells : (c : Cells) (d : Date) → date_told c ≡ Some d → TellsDate c d
told_tells (bad r) d e = let z : ◌≡◌ {A = ℕ} 0 1 = cc in absurd (omega arith)
told_tells (done cs) d e = record { cells = cs; read = refl; right = by (letters_dated cs) e }
  where
    by : (x : Result Date ℕ) → record_dated x ≡ Some d → x ≡ Ok d
    by (Ok f) e = let q : f ≡ d = cc in ap Ok q
    by (Err p) e = let z : ◌≡◌ {A = ℕ} 0 1 = cc in absurd (omega arith)

-- ---- at a place

module _ (ρ : Rules) (s : List ℕ) (at : ℕ) where
  abbrev group_three : Cells
  group_three = read_at ρ s at 3 (cells_in ρ (counts_at ρ s at) 3)

  pub date_exactly : (d : Date) → (date_at ρ s at ≡ Some d) ↔ IsDated ρ s at d
  unfolding date_at
  date_exactly d = (
    λ e.
        let t = told_tells group_three d e in
        record {
          cells = t.cells;
          reads = (first_due ρ s at 3 (cells_in ρ (counts_at ρ s at) 3) (done t.cells)).0 t.read;
          letters = (Letters.first_due (map size_of t.cells) (Ok d)).0 t.right;
        },
    λ h.
        ap date_told ((first_due ρ s at 3 (cells_in ρ (counts_at ρ s at) 3) (done h.cells)).1 h.reads)
        ∙ ap record_dated ((Letters.first_due (map size_of h.cells) (Ok d)).1 h.letters),
  )

  -- a record that is placed with 0, by what it carries
  pub date_by_lem : {next : ℕ} → placing_of ρ s at ≡ Placed next → date_by ρ s (carried_at ρ s at) ≡ date_at ρ s at
  unfolding date_at
  date_by_lem {next} placed =
      let p = is_placed_lem ρ s at next placed in
      rw (named_lines ρ s at next placed 3 (lit≤ tt) (lit≤ tt)) (ap date_told (sym (read_located ρ s at 3 (cells_in ρ (counts_at ρ s at) 3) next (counts_at ρ s at) p.located_at)))

  -- one that answers 7
  pub date_broken : {g next : ℕ} → placing_of ρ s at ≡ BrokenRule g next → date_at ρ s at ≡ None
  unfolding date_at
  date_broken {g} {next} e =
      let d = (Place.first_due ρ s at (BrokenRule g next)).0 e in
      let found = (found_first_due ρ s at 3 (Err (R.BrokenRule g))).1 (broken_rule g record { next = next; broken = record { low = lit≤ tt; high = lit≤ tt; placing = d } }) in
      ap date_told (read_missing ρ s at 3 (cells_in ρ (counts_at ρ s at) 3) found)

-- ---- at or after a date

module _ (ρ : Rules) (s : List ℕ) (from : Date) (k : ℕ) where
  pub meets_exactly : (meets from (date_at ρ s (spot ρ s k)) ≡ true) ↔ IsFrom ρ s from k
  meets_exactly = (
    by (date_at ρ s (spot ρ s k)) refl,
    λ h. ap (meets from) ((date_exactly ρ s (spot ρ s k) h.date).1 h.has) ∙ (not_before_exactly h.date from).1 h.after,
  )
    where
      by : (x : Option Date) → date_at ρ s (spot ρ s k) ≡ x → meets from x ≡ true → IsFrom ρ s from k
      by (Some d) e m = record { date = d; has = (date_exactly ρ s (spot ρ s k) d).0 e; after = (not_before_exactly d from).0 m }
      by None e m = let z : ◌≡◌ {A = ℕ} 0 1 = cc in absurd (omega arith)

  -- such a record is placed with 0
  pub from_placed : (h : IsFrom ρ s from k) → placing_of ρ s (spot ρ s k) ≡ Placed h.has.reads.next
  from_placed h = let r = h.has.reads in (Place.first_due ρ s (spot ρ s k) (Placed r.next)).1 r.placed.placing

  pub from_record : IsFrom ρ s from k → IsRecord ρ s (spot ρ s k)
  from_record h =
      let p = is_placed_lem ρ s (spot ρ s k) h.has.reads.next (from_placed h) in
      record { next = h.has.reads.next; ns = counts_at ρ s (spot ρ s k); is = p.located_at }
