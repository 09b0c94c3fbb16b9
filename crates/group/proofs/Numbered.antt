-- Each answer of the questions about a group fills a row of the question's table.
-- Assumes nothing.
use Rattle.std.specs.Prelude.{Result, Ok, Err}
use mathlib.Core.Path.{refl}
use mathlib.Core.List.{List, [], ◌∷◌, ◌++◌}
use mathlib.Core.Logic.{inl, inr}
use Prim.Native.Nat.{ℕ}
use native.Mathlib.Omega.{arith}
use lib.Dec.{lit<}
use lib.ListN.{length}
use Rattle.rules.specs.declared.Rules.{Rules}
use Rattle.base.specs.Pieces.{done, bad}
use Rattle.reply.specs.Table.{Numbered, row, cells}
use Rattle.reply.specs.Refusals.{refusal_reply, checked_reply, answer_reply, rows, unplaced_refusals, asked_refusals, line_refusals}
use Rattle.reply.proofs.Replies.{fills, refusal_fills, at_row, rows_left, rows_right}
use Rattle.count.proofs.Rulings.{broken_group}
use Rattle.count.specs.Tally.{count_of}
use Rattle.place.specs.Placing.{counts_at}
use Rattle.place.proofs.Numbered.{refused_numbered}
use Rattle.reply.specs.declared.Refusal.{Refusal}
use Rattle.reply.specs.declared.Refusal.TheVariants.{NoSuchNumber, BrokenRule, BadLine, BadField}
use Rattle.reading.specs.Numbered.{given_refusals, reading_rows}
use Rattle.reading.specs.Due as Reading
use Rattle.reading.specs.Read.{Cells, reading_of}
use Rattle.reading.proofs.Promises.{HasAsked, has_asked, refusal_behind}
use Rattle.group.specs.declared.Characteristic.{Characteristic}
use Rattle.group.specs.declared.Characteristic.TheVariants.{Value, NoReading, NotReported, Refused}
use Rattle.group.specs.Characteristics.{characteristic_at}
use Rattle.group.specs.Numbered.{found_rows, characteristic_reply, characteristic_rows}
use Rattle.group.specs.Held.{found_at}
use Rattle.group.specs.Text.{read_at}
use Rattle.group.specs.Due.{RefusedFor, no_group, broken_rule, unplaced, FoundDue, Due, ToldDue}
use Rattle.group.proofs.Due.{first_due, found_first_due, characteristic_first_due, four_has_room}

-- 12 and what placing refuses with, in whatever table has these rows behind its first
module _ (ρ : Rules) (s : List ℕ) (at g : ℕ) where
  pub missing_numbered : (r : Refusal) → RefusedFor ρ s at g r → Numbered (rows asked_refusals) (refusal_reply r)
  missing_numbered r (no_group d) = inl (refusal_fills NoSuchNumber tt)
  missing_numbered r (broken_rule h d) =
      let b = d.broken.placing in
      at_row 7 (rows asked_refusals) (refusal_reply (BrokenRule h)) (lit< tt) (refusal_fills (BrokenRule h) ((broken_group b.ns b.broken).0, tt))
  missing_numbered r (unplaced q d) = inr (rows_left unplaced_refusals (BrokenRule 0 ∷ []) (refusal_reply q) (refused_numbered ρ s at q d.placing))

  found_due_numbered : (r : Result (Unit {0}) Refusal) → FoundDue ρ s at g r → Numbered found_rows (checked_reply r)
  found_due_numbered (Ok _) d = inl (fills 0 [] tt)
  found_due_numbered (Err r) d = inr (missing_numbered r d)

  pub found_numbered : Numbered found_rows (checked_reply (found_at ρ s at g))
  found_numbered = found_due_numbered (found_at ρ s at g) ((found_first_due ρ s at g (found_at ρ s at g)).0 refl)

  pub reading_numbered : (room : ℕ) → Numbered reading_rows (answer_reply (reading_of (read_at ρ s at g room)))
  reading_numbered room = by (read_at ρ s at g room) ((first_due ρ s at g room (read_at ρ s at g room)).0 refl)
    where
      by : (c : Cells) → Due ρ s at g room c → Numbered reading_rows (answer_reply (reading_of c))
      by (done cs) d = inl (fills 0 ((cells, length cs) ∷ []) (omega arith, tt))
      by (bad r) (inl m) = inr (rows_left asked_refusals given_refusals (refusal_reply r) (missing_numbered r m))
      by (bad r) (inr h) = inr (refusal_behind asked_refusals has_asked ρ h.placed.placing.ns g h.x room r h.reading)

-- of group 4 the lines alone are refused: 49 cells have room, and it has no date
pub four_behind : (asked : List Refusal) → HasAsked asked → (ρ : Rules) (ns x : List ℕ) (r : Refusal) → Reading.RefusedFor ρ ns 4 x 49 r → Numbered (rows (asked ++ line_refusals)) (refusal_reply r)
four_behind asked h ρ ns x r (Reading.no_group d) = rows_left asked line_refusals _ h.no_group_row
four_behind asked h ρ ns x r (Reading.broken_rule b d) = rows_left asked line_refusals _ (h.broken_row b (broken_group ns d.broken).0)
four_behind asked h ρ ns x r (Reading.no_room d) = absurd (four_has_room ρ ns x d)
four_behind asked h ρ ns x r (Reading.bad_line l d) = rows_right asked line_refusals _ (inl (refusal_fills (BadLine l) (omega (arith, d.line.number), tt)))
four_behind asked h ρ ns x r (Reading.bad_field l e d) =
    rows_right asked line_refusals _ (inr (inl (refusal_fills (BadField l e) (omega (arith, d.field.number), (omega (arith, d.field.element), tt)))))
four_behind asked h ρ ns x r (Reading.bad_date p d) = absurd (omega (arith, d.three))

-- what is told of a characteristic, by the rows of what group 4 is refused with
pub told_numbered : (asked : List Refusal) (four : ℕ → Cells → Type 0) (count k : ℕ) → HasAsked asked → ((r : Refusal) → four 49 (bad r) → Numbered (rows (asked ++ line_refusals)) (refusal_reply r))
    → (c : Characteristic) → ToldDue four count k c → Numbered (row 0 [] ∷ rows (asked ++ line_refusals)) (characteristic_reply c)
told_numbered asked four count k h f (Value z) d = inl (fills 0 [] tt)
told_numbered asked four count k h f NoReading d = inl (fills 0 [] tt)
told_numbered asked four count k h f NotReported d = inl (fills 0 [] tt)
told_numbered asked four count k h f (Refused r) (inl n) = rw n.twelve (inr (rows_left asked line_refusals _ h.no_group_row))
told_numbered asked four count k h f (Refused r) (inr d) = inr (f r (d.reads_as 49 (omega arith)))

module _ (ρ : Rules) (s : List ℕ) (at k : ℕ) where
  four_numbered : (r : Refusal) → Due ρ s at 4 49 (bad r) → Numbered (rows (asked_refusals ++ line_refusals)) (refusal_reply r)
  four_numbered r (inl m) = rows_left asked_refusals line_refusals (refusal_reply r) (missing_numbered ρ s at 4 r m)
  four_numbered r (inr h) = four_behind asked_refusals has_asked ρ h.placed.placing.ns h.x r h.reading

  pub characteristic_numbered : Numbered characteristic_rows (characteristic_reply (characteristic_at ρ s at k))
  characteristic_numbered =
      told_numbered asked_refusals (Due ρ s at 4) (count_of (counts_at ρ s at) 4) k has_asked four_numbered (characteristic_at ρ s at k)
      ((characteristic_first_due ρ s at k (characteristic_at ρ s at k)).0 refl)
