-- What is promised of reading a whole record: a refusal leaves the whole table; under 0 its first cells are those of the groups, joined, and the
-- others are what they were; and each answer fills a row of its table, with the group's number or 0 beside it.
-- Assumes nothing.
use Rattle.std.specs.Prelude.{Some}
use mathlib.Core.Path.{◌≡◌, refl, sym, ◌∙◌}
use mathlib.Core.List.{List, [], ◌∷◌}
use mathlib.Core.Logic.{inl, inr}
use Prim.Native.Nat.{ℕ}
use native.Mathlib.Omega.{arith}
use lib.Dec.{lit<}
use lib.IntN.{ℤ}
use lib.ListN.{length, take, drop}
use Rattle.rules.specs.declared.Rules.{Rules}
use Rattle.base.specs.Pieces.{done, bad}
use Rattle.count.specs.Tally.{cells_in}
use Rattle.count.specs.Rules.{ruling_of}
use Rattle.count.proofs.Rulings.{broken_ruling, broken_group}
use Rattle.count.proofs.Tallied.{cells_has}
use Rattle.place.specs.declared.Placing.TheVariants.{Placed}
use Rattle.place.specs.Placing.{placing_of, counts_at}
use Rattle.place.specs.Parts.{group_part}
use Rattle.place.proofs.Numbered.{refused_numbered}
use Rattle.place.proofs.Zero.{IsPlaced, is_placed_lem}
use Rattle.reply.specs.declared.Refusal.{Refusal}
use Rattle.reply.specs.declared.Refusal.TheVariants.{BrokenRule, NoRoom}
use Rattle.reply.specs.Refusals.{refusal_reply, rows, unplaced_refusals}
use Rattle.reply.specs.Table.{Numbered, Row, cells}
use Rattle.reply.proofs.Replies.{fills, refusal_fills, at_row, rows_left}
use Rattle.reading.specs.Read.{table_by}
use Rattle.reading.proofs.Due as Reading
use Rattle.reading.specs.Numbered.{group_refusals}
use Rattle.reading.proofs.Promises.{done_read_holds, cells_keep_rest, refusal_cases}
use Rattle.group.proofs.Texts.{read_located}
use Rattle.whole.specs.Due.{FirstRefused, RefusedFor, unplaced, broken_rule, no_room, unread, Due}
use Rattle.whole.specs.Numbered.{record_reply, group_told, before_refusals, NumberedWith, whole_row}
use Rattle.whole.specs.Turn.{Turn}
use Rattle.whole.specs.Whole.{whole_read, record_read_of}
use Rattle.whole.proofs.Due.{first_due}

-- ---- the table

-- R276: a refusal leaves the whole table
pub refused_record_keeps : (t : Turn) (old : List ℤ) → ((record_reply (record_read_of t)).number ≡ 0 → ⊥) → table_by t old ≡ old
refused_record_keeps (done cs) old n = absurd (n refl)
refused_record_keeps (bad u) old n = refl

-- R275: under 0 the cells stand from the table's first on
pub done_record_holds : (cs old : List ℤ) → take (length cs) (table_by {B = ℕ × Refusal} (done cs) old) ≡ cs
done_record_holds cs old = done_read_holds (ℕ × Refusal) cs old

-- and behind as many cells as the reply says the table is what it was
pub record_keeps_rest : (t : Turn) (old : List ℤ) → drop (record_reply (record_read_of t)).written (table_by t old) ≡ drop (record_reply (record_read_of t)).written old
record_keeps_rest (done cs) old = cells_keep_rest (ℕ × Refusal) cs old
record_keeps_rest (bad u) old = refl

-- ---- numbered

-- a group of a placed record, read with room, is refused by its lines or its date alone
module _ (ρ : Rules) (s : List ℕ) (at next : ℕ) (placed : placing_of ρ s at ≡ Placed next) (g : ℕ) (r : Refusal) (f : FirstRefused ρ s at g r) where
  abbrev ns : List ℕ
  ns = counts_at ρ s at

  abbrev its_lines : List ℕ
  its_lines = group_part ρ s at ns g

  here : IsPlaced ρ s at next
  here = is_placed_lem ρ s at next placed

  pub group_numbered : Numbered (rows group_refusals) (refusal_reply r)
  group_numbered =
      refusal_cases ρ ns g its_lines (cells_in ρ ns g) (Numbered (rows group_refusals)) record {
        none = λ d. absurd (d (f.low, f.high));
        broken = λ h d. kept (broken_ruling ns d.broken);
        short = λ d. absurd (omega (arith, d.few, cells_has ρ ns g d.f d.ruled.form));
        own = λ q d. d;
      }
      r
      ((Reading.first_due ρ ns g its_lines (cells_in ρ ns g) (bad r)).0 (sym (read_located ρ s at g (cells_in ρ ns g) next ns here.located_at) ∙ f.told))
    where
      kept : {h : ℕ} {X : Type 0} → ruling_of ns ≡ Some h → X
      kept u = let e = sym here.kept ∙ u in let z : ◌≡◌ {A = ℕ} 0 1 = cc in absurd (omega arith)

module _ (ρ : Rules) (s : List ℕ) (at room : ℕ) where
  -- by a table whose row of 0 is whatever the question has
  pub refused_numbered_with : (zeroth : Row) (g : ℕ) (r : Refusal) → RefusedFor ρ s at room g r → NumberedWith zeroth g (refusal_reply r)
  refused_numbered_with zeroth g r (unplaced q d) = inl (refl, inr (rows_left unplaced_refusals (BrokenRule 0 ∷ NoRoom ∷ []) (refusal_reply q) (refused_numbered ρ s at q d)))
  refused_numbered_with zeroth g r (broken_rule h n d) =
      inl (refl, inr (at_row 6 (rows before_refusals) (refusal_reply (BrokenRule h)) (lit< tt) (refusal_fills (BrokenRule h) ((broken_group d.ns d.broken).0, tt))))
  refused_numbered_with zeroth g r (no_room d) = inl (refl, inr (at_row 7 (rows before_refusals) (refusal_reply NoRoom) (lit< tt) (refusal_fills NoRoom tt)))
  refused_numbered_with zeroth g r (unread h q d) =
      let f = d.first in
      inr ((f.low, f.high), group_numbered ρ s at d.roomy.next d.roomy.placed h q f)

  pub whole_numbered : NumberedWith whole_row (group_told (record_read_of (whole_read ρ s at room))) (record_reply (record_read_of (whole_read ρ s at room)))
  whole_numbered = by (whole_read ρ s at room) ((first_due ρ s at room (whole_read ρ s at room)).0 refl)
    where
      by : (t : Turn) → Due ρ s at room t → NumberedWith whole_row (group_told (record_read_of t)) (record_reply (record_read_of t))
      by (done cs) d = inl (refl, inl (fills 0 ((cells, length cs) ∷ []) (omega arith, tt)))
      by (bad u) d = refused_numbered_with whole_row u.0 u.1 d
