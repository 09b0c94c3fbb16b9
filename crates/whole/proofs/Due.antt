-- *First due*: reading a whole record gives each answer exactly if it is due.
-- Assumes nothing.
use Rattle.std.specs.Prelude.{Err}
use mathlib.Core.Path.{◌≡◌, refl, sym, ◌∙◌, ap, subst}
use mathlib.Core.Bool.{Bool, true, false}
use mathlib.Core.List.{List}
use mathlib.Core.Logic.{◌↔◌}
use Prim.Native.Nat.{ℕ}
use native.Mathlib.Omega.{arith}
use borrow.Author.Tests.{le-leb, lt-leb, leb-true, leb-false}
use lib.Dec.{leb}
use lib.IntN.{ℤ}
use Rattle.rules.specs.declared.Rules.{Rules}
use Rattle.base.specs.Pieces.{done, bad}
use Rattle.count.specs.Tally.{record_cells}
use Rattle.place.specs.declared.Placing.{Placing}
use Rattle.place.specs.declared.Placing.TheVariants as P
use Rattle.place.specs.Numbered.{as_checked}
use Rattle.place.proofs.Due as Placing
use Rattle.place.specs.Placing.{placing_of, counts_at}
use Rattle.reply.specs.declared.Refusal.{Refusal}
use Rattle.reply.specs.declared.Refusal.TheVariants.{NoRoom}
use Rattle.whole.specs.Due.{FirstRefused, AllDone, NoRoomForAll, RoomForAll, RefusedFor, unplaced, broken_rule, no_room, unread, Due}
use Rattle.whole.specs.Turn.{Turn, group_read, all_in_turn}
use Rattle.whole.specs.Whole.{whole_read}
use Rattle.whole.proofs.Turns.{all_read, read_all, turn_first, first_turn}

-- ---- the groups

module _ (ρ : Rules) (s : List ℕ) (at : ℕ) where
  -- all read with 0, and these are their cells
  pub turn_all_done : (cs : List ℤ) → all_in_turn ρ s at ≡ done cs ↔ AllDone ρ s at cs
  turn_all_done cs = (
    λ e. let a = all_read (group_read ρ s at) 1 60 cs e in record { cells = _; each = λ g low high. a.each g low (omega arith); all = a.joined },
    λ d. read_all (group_read ρ s at) d.cells 1 60 (λ g low high. d.each g low (omega arith)) ∙ ap done (sym d.all),
  )

  -- the first that is refused
  pub turn_first_refused : (g : ℕ) (r : Refusal) → all_in_turn ρ s at ≡ bad (g, r) ↔ FirstRefused ρ s at g r
  turn_first_refused g r = (
    λ e.
        let f = turn_first (group_read ρ s at) (g, r) e in
        record { low = f.low; high = f.high; earlier = λ h low few. let d = f.earlier h low few in record { cells = d.cells; reads = d.is }; told = f.told },
    λ f.
        first_turn (group_read ρ s at) g r record {
          low = f.low;
          high = f.high;
          earlier = λ h low few. let d = f.earlier h low few in record { cells = d.cells; is = d.reads };
          told = f.told;
        },
  )

-- ---- the record

module _ (ρ : Rules) (s : List ℕ) (at room : ℕ) where
  pub whole_unplaced : {why : Refusal} → as_checked (placing_of ρ s at) ≡ Err why → whole_read ρ s at room ≡ bad (0, why)
  unfolding whole_read
  whole_unplaced e = rw e refl

  pub whole_short : NoRoomForAll ρ s at room → whole_read ρ s at room ≡ bad (0, NoRoom)
  unfolding whole_read
  whole_short h = rw (h.placed, lt-leb (record_cells ρ (counts_at ρ s at)) room h.few) refl

  pub whole_roomy : RoomForAll ρ s at room → whole_read ρ s at room ≡ all_in_turn ρ s at
  unfolding whole_read
  whole_roomy h = rw (h.placed, le-leb (record_cells ρ (counts_at ρ s at)) room h.enough) refl

  -- what is due is given
  due_given : (t : Turn) → Due ρ s at room t → whole_read ρ s at room ≡ t
  due_given (done cs) d = whole_roomy d.roomy ∙ (turn_all_done ρ s at cs).1 d.groups
  due_given (bad u) d = refused u.0 u.1 d
    where
      refused : (g : ℕ) (r : Refusal) → RefusedFor ρ s at room g r → whole_read ρ s at room ≡ bad (g, r)
      refused g r (unplaced q d) = whole_unplaced (ap as_checked ((Placing.first_due ρ s at (P.Refused q)).1 d))
      refused g r (broken_rule h n d) = whole_unplaced (ap as_checked ((Placing.first_due ρ s at (P.BrokenRule h n)).1 d))
      refused g r (no_room d) = whole_short d
      refused g r (unread h q d) = whole_roomy d.roomy ∙ (turn_first_refused ρ s at h q).1 d.first

  -- what is given is due
  given_due : Due ρ s at room (whole_read ρ s at room)
  given_due = by (placing_of ρ s at) refl
    where
      D : Turn → Type 0
      D = Due ρ s at room

      turn : RoomForAll ρ s at room → (t : Turn) → all_in_turn ρ s at ≡ t → D t
      turn h (done cs) e = record { roomy = h; groups = (turn_all_done ρ s at cs).0 e }
      turn h (bad u) e = unread u.0 u.1 record { roomy = h; first = (turn_first_refused ρ s at u.0 u.1).0 e }

      room_by : (n : ℕ) → placing_of ρ s at ≡ P.Placed n → (b : Bool) → leb (record_cells ρ (counts_at ρ s at)) room ≡ b → D (whole_read ρ s at room)
      room_by n u true b =
          let h : RoomForAll ρ s at room = record { next = n; placed = u; enough = leb-true (record_cells ρ (counts_at ρ s at)) room b } in
          subst D (sym (whole_roomy h)) (turn h (all_in_turn ρ s at) refl)
      room_by n u false b =
          let h : NoRoomForAll ρ s at room = record { next = n; placed = u; few = leb-false (record_cells ρ (counts_at ρ s at)) room b } in
          subst D (sym (whole_short h)) (no_room h)

      by : (p : Placing) → placing_of ρ s at ≡ p → D (whole_read ρ s at room)
      by (P.Placed n) u = room_by n u (leb (record_cells ρ (counts_at ρ s at)) room) refl
      by (P.BrokenRule g n) u = subst D (sym (whole_unplaced (ap as_checked u))) (broken_rule g n ((Placing.first_due ρ s at (P.BrokenRule g n)).0 u))
      by (P.Refused r) u = subst D (sym (whole_unplaced (ap as_checked u))) (unplaced r ((Placing.first_due ρ s at (P.Refused r)).0 u))

  -- each answer is given exactly if it is due
  pub first_due : (t : Turn) → whole_read ρ s at room ≡ t ↔ Due ρ s at room t
  first_due t = (λ e. subst (Due ρ s at room) e given_due, due_given t)
