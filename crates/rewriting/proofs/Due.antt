-- *First due*: rewriting gives each answer exactly if it is due.
-- Assumes nothing.
use Rattle.std.specs.Prelude.{Err, Result, Ok}
use mathlib.Core.Path.{◌≡◌, refl, sym, ◌∙◌, ap, subst}
use mathlib.Core.List.{List}
use mathlib.Core.Logic.{◌↔◌, inl, inr, ⊎_elim}
use Prim.Native.Nat.{ℕ, ◌<◌, ◌≤◌}
use borrow.Author.Tests.{le-leb, lt-leb}
use Rattle.rules.specs.declared.Rules.{Rules}
use Rattle.base.specs.Pieces.{done, bad}
use Rattle.base.proofs.Order.{le_or_lt}
use Rattle.count.specs.Tally.{record_cells}
use Rattle.place.specs.declared.Placing.{Placing}
use Rattle.place.specs.declared.Placing.TheVariants as P
use Rattle.place.specs.Numbered.{as_checked}
use Rattle.place.proofs.Due as Placing
use Rattle.place.specs.Placing.{placing_of, counts_at}
use Rattle.reply.specs.declared.Refusal.{Refusal}
use Rattle.reply.specs.declared.Refusal.TheVariants.{NoRoom}
use Rattle.whole.specs.Due as WholeIs
use Rattle.whole.specs.Due.{RoomForAll}
use Rattle.whole.specs.Turn.{Turn, cells_at}
use Rattle.whole.specs.Whole.{whole_read, unread}
use Rattle.whole.proofs.Due as Whole
use Rattle.writing.specs.Text.{record_bytes}
use Rattle.rewriting.specs.Due.{RoomForBoth, RefusedFor, unplaced, broken_rule, no_room, unread as unread_due, Due}
use Rattle.rewriting.specs.Record.{rewritten_as, rewriting_of, rewritten_with}
use Rattle.rewriting.proofs.Whole.{groups_done}
use Rattle.rewriting.specs.declared.Rewritten.{Rewritten}
use Rattle.whole.specs.declared.Unread.{Unread}

module _ (ρ : Rules) (s : List ℕ) (at cells room : ℕ) where
  abbrev ns : List ℕ
  ns = counts_at ρ s at

  pub rewriting_unplaced : {why : Refusal} → as_checked (placing_of ρ s at) ≡ Err why → rewriting_of ρ s at cells room ≡ Err (unread (0, why))
  unfolding rewriting_of
  rewriting_unplaced e = rw e refl

  module _ {next : ℕ} (placed : placing_of ρ s at ≡ P.Placed next) where
    pub rewriting_short : room < record_bytes ρ (counts_at ρ s at) → rewriting_of ρ s at cells room ≡ Err (unread (0, NoRoom))
    unfolding rewriting_of
    rewriting_short few = rw (placed, lt-leb (record_bytes ρ ns) room few) refl

    -- where the output is long enough, reading decides
    pub rewriting_read : record_bytes ρ (counts_at ρ s at) ≤ room → rewriting_of ρ s at cells room ≡ rewritten_as ρ (counts_at ρ s at) next (whole_read ρ s at cells)
    unfolding rewriting_of
    rewriting_read fits = rw (placed, le-leb (record_bytes ρ ns) room fits) refl

  table_roomy : {next : ℕ} → RoomForBoth ρ s at cells room next → RoomForAll ρ s at cells
  table_roomy {next} h = record { next = next; placed = h.placed; enough = h.cells_fit }

  -- what is due is given
  due_given : (r : Result Rewritten Unread) → Due ρ s at cells room r → rewriting_of ρ s at cells room ≡ r
  due_given (Ok w) d =
      let all = (Whole.turn_all_done ρ s at (cells_at ρ s at)).1 (groups_done ρ s at d.groups) in
      rewriting_read d.roomy.placed d.roomy.text_fits
      ∙ ap (rewritten_as ρ ns w.next) (Whole.whole_roomy ρ s at cells (table_roomy d.roomy) ∙ all)
      ∙ ap (λ n. Ok (rewritten_with n w.next)) d.written
  due_given (Err u) d = refused u.group u.why d
    where
      short : (next : ℕ) → placing_of ρ s at ≡ P.Placed next → cells < record_cells ρ ns → rewriting_of ρ s at cells room ≡ Err (unread (0, NoRoom))
      short next placed few =
          ⊎_elim
          (λ (fits : record_bytes ρ ns ≤ room).
          rewriting_read placed fits ∙ ap (rewritten_as ρ ns next) (Whole.whole_short ρ s at cells record { next = next; placed = placed; few = few }))
          (rewriting_short placed)
          (le_or_lt (record_bytes ρ ns) room)

      refused : (g : ℕ) (r : Refusal) → RefusedFor ρ s at cells room g r → rewriting_of ρ s at cells room ≡ Err (unread (g, r))
      refused g r (unplaced q d) = rewriting_unplaced (ap as_checked ((Placing.first_due ρ s at (P.Refused q)).1 d))
      refused g r (broken_rule h n d) = rewriting_unplaced (ap as_checked ((Placing.first_due ρ s at (P.BrokenRule h n)).1 d))
      refused g r (no_room d) = ⊎_elim (rewriting_short d.placed) (short d.next d.placed) d.short
      refused g r (unread_due h q d) =
          rewriting_read d.roomy.placed d.roomy.text_fits
          ∙ ap (rewritten_as ρ ns d.next) (Whole.whole_roomy ρ s at cells (table_roomy d.roomy) ∙ (Whole.turn_first_refused ρ s at h q).1 d.first)

  -- what is given is due
  abbrev D : Result Rewritten Unread → Type 0
  D = Due ρ s at cells room

  module _ (next : ℕ) (placed : placing_of ρ s at ≡ P.Placed next) (fits : record_bytes ρ ns ≤ room) where
    refusal_due : (g : ℕ) (r : Refusal) → WholeIs.RefusedFor ρ s at cells g r → RefusedFor ρ s at cells room g r
    refusal_due g r (WholeIs.unplaced q d) = unplaced q d
    refusal_due g r (WholeIs.broken_rule h m d) = broken_rule h m d
    refusal_due g r (WholeIs.no_room d) = no_room record { next = d.next; placed = d.placed; short = inr d.few }
    refusal_due g r (WholeIs.unread h q d) = unread_due h q record { next = next; roomy = record { placed = placed; text_fits = fits; cells_fit = d.roomy.enough }; first = d.first }

    turn_due : (t : Turn) → WholeIs.Due ρ s at cells t → D (rewritten_as ρ ns next t)
    turn_due (done cs) d = record {
      roomy = record { placed = placed; text_fits = fits; cells_fit = d.roomy.enough };
      groups = λ g low high. record { cells = d.groups.cells g; reads = d.groups.each g low high };
      written = refl;
    }
    turn_due (bad u) d = refusal_due u.0 u.1 d

    read_due : D (rewriting_of ρ s at cells room)
    read_due = subst D (sym (rewriting_read placed fits)) (turn_due (whole_read ρ s at cells) ((Whole.first_due ρ s at cells (whole_read ρ s at cells)).0 refl))

  given_due : D (rewriting_of ρ s at cells room)
  given_due = by (placing_of ρ s at) refl
    where
      short : (n : ℕ) → placing_of ρ s at ≡ P.Placed n → room < record_bytes ρ ns → D (rewriting_of ρ s at cells room)
      short n placed few = subst D (sym (rewriting_short placed few)) (no_room record { next = n; placed = placed; short = inl few })

      by : (p : Placing) → placing_of ρ s at ≡ p → D (rewriting_of ρ s at cells room)
      by (P.Placed n) u = ⊎_elim (read_due n u) (short n u) (le_or_lt (record_bytes ρ ns) room)
      by (P.BrokenRule g n) u = subst D (sym (rewriting_unplaced (ap as_checked u))) (broken_rule g n ((Placing.first_due ρ s at (P.BrokenRule g n)).0 u))
      by (P.Refused r) u = subst D (sym (rewriting_unplaced (ap as_checked u))) (unplaced r ((Placing.first_due ρ s at (P.Refused r)).0 u))

  -- each answer is given exactly if it is due
  pub first_due : (r : Result Rewritten Unread) → rewriting_of ρ s at cells room ≡ r ↔ Due ρ s at cells room r
  first_due r = (λ e. subst (Due ρ s at cells room) e given_due, due_given r)
