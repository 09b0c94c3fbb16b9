-- D3, R258: reading a whole record of a text that was damaged, or that still grows (specs/Kept.antt): all that it rests on stays.
-- Assumes nothing.
use Rattle.std.specs.Prelude.{Err}
use mathlib.Core.Path.{◌≡◌, sym, ◌∙◌, ap, subst}
use mathlib.Core.List.{List, ◌++◌}
use Prim.Native.Nat.{ℕ, ◌<◌, ◌≤◌}
use native.Mathlib.Omega.{arith}
use lib.IntN.{ℤ}
use Rattle.rules.specs.declared.Rules.{Rules}
use Rattle.base.specs.Pieces.{done, bad, cells_got}
use Rattle.count.specs.Tally.{cells_in, record_cells, group_cells}
use Rattle.place.specs.declared.Placing.TheVariants as P
use Rattle.place.proofs.Due as Placing
use Rattle.place.specs.Numbered.{as_checked}
use Rattle.place.specs.Placing.{placing_of, counts_at}
use Rattle.place.specs.Walk.{spot}
use Rattle.reply.specs.declared.Refusal.{Refusal}
use Rattle.group.specs.Damage.{Outside, Damaged, Confined}
use Rattle.group.specs.Text.{read_at}
use Rattle.group.proofs.Damage.{others_read, damage_stays}
use Rattle.group.proofs.Growth.{answers_stay}
use Rattle.whole.specs.Due.{RoomForAll, RefusedFor, unplaced, broken_rule, no_room, unread}
use Rattle.whole.specs.Kept.{DamageKeepsWhole, GrowthKeepsWhole}
use Rattle.whole.specs.Turn.{group_read}
use Rattle.whole.specs.Whole.{whole_read}
use Rattle.whole.proofs.Due.{first_due, whole_unplaced, whole_short, whole_roomy, turn_first_refused}
use Rattle.whole.proofs.InTurn.{as_in_turn}
use Rattle.whole.proofs.Rests.{same_whole, whole_by_turn}
use Rattle.whole.proofs.Turns.{turn_same}

-- ---- grown

pub growth_kept : (ρ : Rules) (s b : List ℕ) → GrowthKeepsWhole ρ s b
growth_kept ρ s b at settled room =
    let h = (answers_stay ρ s b at settled).answers in
    same_whole ρ (s ++ b) at s at record { counts = ap (λ c. c.counts_of) h.carried; groups = h.groups } (ap as_checked h.placing) room

-- ---- damaged

module _ (ρ : Rules) (t u : List ℕ) (among : ℕ → ℕ → Type 0) (damaged : Damaged ρ t u among) where
  stays : Confined ρ t u among
  stays = damage_stays ρ t u among damaged

  module _ (j : ℕ) where
    -- where it stood, and where it stands
    abbrev was : ℕ
    was = spot ρ t j

    abbrev now : ℕ
    now = spot ρ u j

    counts : counts_at ρ u now ≡ counts_at ρ t was
    counts = ap (λ c. c.counts_of) (stays.carries j)

    group : (h : ℕ) → Outside among j h → group_read ρ u now h ≡ group_read ρ t was h
    group h out = ap (λ ns. read_at ρ u now h (cells_in ρ ns h)) counts ∙ others_read ρ t u among damaged j h (cells_in ρ (counts_at ρ t was) h) out

    unplaced_stays : {why : Refusal} → as_checked (placing_of ρ t was) ≡ Err why → as_checked (placing_of ρ u now) ≡ Err why
    unplaced_stays e = ap as_checked (stays.answers j) ∙ e

    refused : (h room : ℕ) (r : Refusal) → ((i : ℕ) → 1 ≤ i → i ≤ h → Outside among j i) → RefusedFor ρ t was room h r → whole_read ρ u now room ≡ bad (h, r)
    refused h room r out (unplaced q d) = whole_unplaced ρ u now room (unplaced_stays (ap as_checked ((Placing.first_due ρ t was (P.Refused q)).1 d)))
    refused h room r out (broken_rule g n d) = whole_unplaced ρ u now room (unplaced_stays (ap as_checked ((Placing.first_due ρ t was (P.BrokenRule g n)).1 d)))
    refused h room r out (no_room d) =
        whole_short ρ u now room record { next = d.next; placed = stays.answers j ∙ d.placed; few = subst (λ ns. room < record_cells ρ ns) (sym counts) d.few }
    refused h room r out (unread g q d) =
        let roomy = d.roomy in
        let f = d.first in
        whole_roomy ρ u now room record { next = roomy.next; placed = stays.answers j ∙ roomy.placed; enough = subst (λ ns. record_cells ρ ns ≤ room) (sym counts) roomy.enough }
        ∙ (turn_first_refused ρ u now h r).1 record {
          low = f.low;
          high = f.high;
          earlier = λ i low few. let e = f.earlier i low few in record { cells = e.cells; reads = group i (out i low (omega arith)) ∙ e.reads };
          told = group h (out h f.low (omega arith)) ∙ f.told;
        }

    -- where its cells stand
    stood : (s : List ℕ) (at room : ℕ) (cs : List ℤ) → whole_read ρ s at room ≡ done cs → (h : ℕ) → 1 ≤ h → h ≤ 60
        → group_read ρ s at h ≡ done (group_cells ρ (counts_at ρ s at) cs h)
    stood s at room cs e h low high = (as_in_turn ρ s at).stands room cs e (cells_in ρ (counts_at ρ s at)) (λ g l m. omega arith) h low high

    cells : (room : ℕ) (cs ds : List ℤ) → whole_read ρ t was room ≡ done cs → whole_read ρ u now room ≡ done ds → (h : ℕ) → 1 ≤ h → h ≤ 60 → Outside among j h
        → group_cells ρ (counts_at ρ t was) ds h ≡ group_cells ρ (counts_at ρ t was) cs h
    cells room cs ds a b h low high out =
        ap (λ ns. group_cells ρ ns ds h) (sym counts)
        ∙ ap cells_got (sym (stood u now room ds b h low high) ∙ group h out ∙ stood t was room cs a h low high)

    blamed : (room : ℕ) (cs : List ℤ) (h : ℕ) (r : Refusal) → whole_read ρ t was room ≡ done cs → whole_read ρ u now room ≡ bad (h, r) → Outside among j h → ⊥
    blamed room cs h r before after out =
        let d = (first_due ρ t was room (done cs)).0 before in
        let there : RoomForAll ρ u now room =
        record { next = d.roomy.next; placed = stays.answers j ∙ d.roomy.placed; enough = subst (λ ns. record_cells ρ ns ≤ room) (sym counts) d.roomy.enough } in
        let f = (turn_first_refused ρ u now h r).0 (sym (whole_roomy ρ u now room there) ∙ after) in
        let e : done (d.groups.cells h) ≡ bad r = sym (d.groups.each h f.low f.high) ∙ sym (group h out) ∙ f.told in
        let z : ◌≡◌ {A = ℕ} 0 1 = cc in
        absurd (omega arith)

  pub damage_kept : DamageKeepsWhole ρ t u among
  damage_kept = record {
    untouched = λ j out room.
        whole_by_turn ρ u (spot ρ u j) t (spot ρ t j) (ap as_checked (stays.answers j)) (counts j)
        (turn_same (group_read ρ u (spot ρ u j)) (group_read ρ t (spot ρ t j)) 1 60 (λ g low high. group j g (out g low (omega arith)))) room;
    refused = λ j h out room r e. refused j h room r out ((first_due ρ t (spot ρ t j) room (bad (h, r))).0 e);
    cells = λ j. cells j;
    blamed = λ j. blamed j;
  }
