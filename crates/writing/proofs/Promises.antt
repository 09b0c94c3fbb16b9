-- What is promised of writing a record: each answer fills a row of its table; a refusal keeps the output, and 0 keeps what stands behind the
-- text.
-- Assumes nothing.
use Rattle.std.specs.Prelude.{Result, Ok, Err}
use mathlib.Core.Path.{◌≡◌, refl, sym, ◌∙◌, ap}
use mathlib.Core.List.{List, [], ◌∷◌}
use mathlib.Core.Logic.{inl, inr}
use Prim.Native.Nat.{ℕ, ◌≤◌}
use native.Mathlib.Nat.{zero-add}
use native.Mathlib.Omega.{arith}
use lib.Dec.{lit<}
use lib.IntN.{ℤ}
use lib.ListN.{length, take, drop}
use lib.Seq.{drop_at, take_at}
use Rattle.rules.specs.declared.Rules.{Rules}
use Rattle.reply.specs.Table.{Numbered, bytes}
use Rattle.reply.specs.Refusals.{refusal_reply, answer_reply, rows}
use Rattle.reply.proofs.Replies.{fills, refusal_fills, at_row, rows_left}
use Rattle.form.proofs.Table.{form_range}
use Rattle.count.specs.Numbered.{check_refusals}
use Rattle.count.proofs.Numbered.{check_refusal_numbered}
use Rattle.date.proofs.Due.{blamed_position}
use Rattle.reply.specs.declared.Refusal.{Refusal}
use Rattle.reply.specs.declared.Refusal.TheVariants.{NoField, BadDate, NoRoom}
use Rattle.writing.specs.Text.{record_text, record_bytes}
use Rattle.writing.specs.Writing.{date_letters, writing_of, output_by}
use Rattle.writing.specs.Numbered.{writing_refusals, writing_rows}
use Rattle.writing.specs.Due.{RefusedFor, wrong_counts, no_field, bad_date, no_room, Due}
use Rattle.writing.proofs.Due.{first_due}
use Rattle.writing.proofs.Done.{done_is}
use Rattle.writing.proofs.Lengths.{record_length}

-- ---- numbered

pub record_some : (ρ : Rules) (ns : List ℕ) → 244 ≤ record_bytes ρ ns
unfolding record_bytes
record_some ρ ns = omega arith

module _ (ρ : Rules) (ns : List ℕ) (cs : List ℤ) (room : ℕ) where
  refusal_numbered : (r : Refusal) → RefusedFor ρ ns cs room r → Numbered (rows writing_refusals) (refusal_reply r)
  refusal_numbered r (wrong_counts q d) = rows_left check_refusals (NoField 0 0 ∷ BadDate 0 ∷ NoRoom ∷ []) (refusal_reply q) (check_refusal_numbered ρ ns (length cs) q d)
  refusal_numbered r (no_field g e d) =
      at_row 5 (rows writing_refusals) (refusal_reply (NoField g e)) (lit< tt) (refusal_fills (NoField g e) ((form_range g d.form d.element.form).0, (d.element.low, tt)))
  refusal_numbered r (bad_date p d) =
      at_row 6 (rows writing_refusals) (refusal_reply (BadDate p)) (lit< tt) (refusal_fills (BadDate p) (blamed_position (date_letters ρ ns cs) p d.wrong, tt))
  refusal_numbered r (no_room d) = at_row 7 (rows writing_refusals) (refusal_reply NoRoom) (lit< tt) (refusal_fills NoRoom tt)

  due_numbered : (w : Result ℕ Refusal) → Due ρ ns cs room w → Numbered writing_rows (answer_reply w)
  due_numbered (Ok n) d = inl (fills 0 ((bytes, n) ∷ []) (omega (arith, d.bytes, record_some ρ ns), tt))
  due_numbered (Err r) d = inr (refusal_numbered r d)

  pub writing_numbered : Numbered writing_rows (answer_reply (writing_of ρ ns cs room))
  writing_numbered = due_numbered (writing_of ρ ns cs room) ((first_due ρ ns cs room (writing_of ρ ns cs room)).0 refl)

-- ---- the output

-- refused write keeps (R307): the whole output is what it was
pub refused_write_keeps : (ρ : Rules) (ns : List ℕ) (cs : List ℤ) (w : Result ℕ Refusal) (old : List ℕ) → ((answer_reply w).number ≡ 0 → ⊥) → output_by ρ ns cs w old ≡ old
refused_write_keeps ρ ns cs (Ok n) old h = absurd (h refl)
refused_write_keeps ρ ns cs (Err r) old h = refl

-- done write keeps the rest (R306): the output begins with the text, n bytes long, and is as it was behind it
module _ (ρ : Rules) (ns : List ℕ) (cs : List ℤ) (old : List ℕ) (n : ℕ) (d : writing_of ρ ns cs (length old) ≡ Ok n) where
  long : length (record_text ρ ns cs) ≡ n
  long =
      let i = done_is ρ ns cs (length old) n d in
      record_length ρ ns cs i.checked.rules.released.counts.many i.fit ∙ sym i.bytes

  pub done_write_begins : take n (output_by ρ ns cs (Ok n) old) ≡ record_text ρ ns cs
  done_write_begins = rw (zero-add (length (record_text ρ ns cs))) (take_at (record_text ρ ns cs) (drop (length (record_text ρ ns cs)) old) n long)

  pub done_write_keeps_rest : drop n (output_by ρ ns cs (Ok n) old) ≡ drop n old
  done_write_keeps_rest = rw (zero-add (length (record_text ρ ns cs))) (drop_at (record_text ρ ns cs) (drop (length (record_text ρ ns cs)) old) n long ∙ ap (λ k. drop k old) long)
