-- What a call and a replay answer, from what the code finds.
-- Assumes nothing.
use Rattle.std.specs.Prelude.{Result, Ok, Err}
use mathlib.Core.Path.{◌≡◌, refl, sym, ap, ◌∙◌}
use mathlib.Core.Bool.{Bool, true, false, cond}
use mathlib.Core.List.{List, ◌++◌}
use Prim.Native.Nat.{ℕ, ◌+◌, ◌-◌, ◌≤◌, min}
use native.Mathlib.Omega.{arith}
use lib.Dec.{eqb}
use lib.IntN.{ℤ}
use lib.ListN.{length, take, drop, length-take}
use lib.Seq.{take-length, take-take, length-take-le}
use Rattle.std.proofs.lemmas.List.{take-append-le}
use borrow.Author.Tests.{eqb-true, eq-eqb, ne_eqb}
use Rattle.rules.specs.declared.Rules.{Rules}
use Rattle.base.specs.Part.{part, over}
use Rattle.base.proofs.Taken.{part_zero, take_both}
use Rattle.count.specs.Check.{checked_of, and_then}
use Rattle.reply.specs.declared.Refusal.{Refusal}
use Rattle.reply.specs.declared.Refusal.TheVariants.{BadEntry}
use Rattle.journal.specs.declared.State.{State}
use Rattle.journal.specs.Layout.{starts_of}
use Rattle.journal.specs.Model.{Call, decided}
use Rattle.journal.specs.Walks.{down, WalksTo}
use Rattle.journal.specs.Calls.{whole, walk_in, standing_of, answer_of, cells_after, journal_by, used_by, Stood}
use Rattle.journal.specs.Entries.{restore, entries_at}
use Rattle.journal.specs.Plays.{play_of, play_in, replay_of, replayed_cells, Plays}
use Rattle.journal.proofs.Walking.{down_length}
use Rattle.journal.proofs.Playing.{replay_back}

-- a walk over all of the bytes used
pub whole_right : (place used : ℕ) → whole place used ≡ Ok tt → place ≡ used
whole_right place used e = by (eqb place used) refl e
  where
    by : (b : Bool) → eqb place used ≡ b → cond b (Ok (tt {0})) (Err (BadEntry place)) ≡ Ok tt → place ≡ used
    by true q h = eqb-true place used q
    by false q h = cc

pub then_right : (a b : Result (Unit {0}) Refusal) → and_then a b ≡ Ok tt → (a ≡ Ok tt) × (b ≡ Ok tt)
then_right (Ok done) b e = (refl, e)
then_right (Err r) b e = cc

module _ (ρ : Rules) (ns j : List ℕ) (used cells : ℕ) where
  pub answer_refused : {r : Refusal} (c : Call) → standing_of ρ ns j used cells ≡ Err r → answer_of ρ ns j used cells c ≡ Err r
  unfolding answer_of
  answer_refused c e = rw e

  pub answer_right : (c : Call) → standing_of ρ ns j used cells ≡ Ok tt → answer_of ρ ns j used cells c ≡ decided (starts_of ρ ns) c (length (walk_in ρ ns j used).marks) (length j - used)
  unfolding answer_of
  answer_right c e = rw e

  -- ---- what a call is refused with before it is looked at itself

  pub check_fails : {r : Refusal} → checked_of ρ ns cells ≡ Err r → standing_of ρ ns j used cells ≡ Err r
  unfolding standing_of
  check_fails e = rw e

  -- ---- the walk in code

  module _ {r : State} (w : WalksTo (starts_of ρ ns) (take used j) r) where
    place_found : (walk_in ρ ns j used).place ≡ r.place
    place_found = ap (λ x. x.place) (sym w.found)

    -- the marks of its savepoints
    pub marks_found : (walk_in ρ ns j used).marks ≡ down r.depth r.marks
    marks_found = ap (λ x. x.marks) (sym w.found)

    -- how many savepoints it left open
    pub depth_found : length (walk_in ρ ns j used).marks ≡ r.depth
    depth_found = ap length marks_found ∙ down_length r.depth r.marks

    -- how many fields it came past
    pub count_found : (walk_in ρ ns j used).count ≡ r.count
    count_found = ap (λ x. x.count) (sym w.found)

    -- what a call is refused with, by the check of the counts and the place where the walk stopped
    pub standing_found : (a : Result (Unit {0}) Refusal) → a ≡ checked_of ρ ns cells → and_then a (whole r.place used) ≡ standing_of ρ ns j used cells
    unfolding standing_of
    standing_found a e = rw (e, place_found) refl

    -- where neither refuses, the bytes used lie within the buffer
    pub used_inside : (a : Result (Unit {0}) Refusal) → and_then a (whole r.place used) ≡ Ok tt → used ≤ length j
    used_inside a e =
        let q : r.place ≡ used = whole_right r.place used (then_right a (whole r.place used) e).1 in
        omega (arith, w.within, length-take used j)

    pub walk_fails : checked_of ρ ns cells ≡ Ok tt → (r.place ≡ used → ⊥) → standing_of ρ ns j used cells ≡ Err (BadEntry r.place)
    unfolding standing_of
    walk_fails e n = rw (e, place_found, ne_eqb r.place used n)

  pub walk_stands : {r : State} {starts bytes : List ℕ} → starts ≡ starts_of ρ ns → bytes ≡ take used j → WalksTo starts bytes r → checked_of ρ ns cells ≡ Ok tt → r.place ≡ used
      → Stood ρ ns j used cells record { starts = starts; state = r }
  unfolding standing_of
  walk_stands {r} {starts} s b v e u =
      let w : WalksTo (starts_of ρ ns) (take used j) r = rw (s, b) at v in
      record {
        stands = rw (e, place_found w, eq-eqb r.place used u);
        starts = s;
        count = count_found w;
        marks = marks_found w;
        few = w.small;
        below = w.below;
        inside = omega (arith, u, w.within, length-take used j);
      }

-- a part that ends with the buffer is all of it that can be used
pub part_used : (used end : ℕ) (j : List ℕ) → end ≡ min used (length j) → part 0 end j ≡ take used j
part_used used end j e = part_zero end j ∙ ap (λ n. take n j) e ∙ sym (take_both used (length j) j) ∙ ap (take used) (take-length j)

-- a field that is added leaves the bytes before it
pub take_over : (used : ℕ) (j t : List ℕ) → used ≤ length j → take used (over used t j) ≡ take used j
take_over used j t h =
    take-append-le used (take used j) (t ++ drop (used + length t) j) (omega (arith, length-take-le used j h)) ∙ take-take used used j (omega arith)

-- ---- replay

module _ (ρ : Rules) (ns j : List ℕ) (used : ℕ) (t : List ℤ) where
  pub replay_refused : {r : Refusal} → checked_of ρ ns (length t) ≡ Err r → Err r ≡ replay_of ρ ns j used t
  unfolding replay_of
  replay_refused e = rw e

  pub replay_right : checked_of ρ ns (length t) ≡ Ok tt → whole (play_in ρ ns j used t).place used ≡ replay_of ρ ns j used t
  unfolding replay_of
  replay_right e = rw e

module _ {ps s : List ℕ} {t : List ℤ} {r : State} {t' : List ℤ} (w : Plays ps s t r t') where
  pub played_place : (play_of ps s t).place ≡ r.place
  played_place = ap (λ x. x.place) (sym w.found)

  pub played_open : r.depth ≡ length (play_of ps s t).marks
  played_open = sym (down_length r.depth r.marks) ∙ ap (λ x. length x.marks) w.found

  pub played_cells : t' ≡ (play_of ps s t).cells
  played_cells = ap (λ x. x.cells) w.found

  pub played_back : restore ps (entries_at s 0 r.count) t' ≡ t
  played_back = ap (λ x. restore ps (entries_at s 0 x.count) x.cells) w.found ∙ replay_back ps s t

-- R518: a refused call keeps every cell, every byte of the journal, and the bytes used
pub refused_keeps : (ρ : Rules) (ns j : List ℕ) (used : ℕ) (t : List ℤ) (c : Call) {r : Refusal} → answer_of ρ ns j used (length t) c ≡ Err r
    → (cells_after ρ ns j used c t (answer_of ρ ns j used (length t) c) ≡ t) × (journal_by ρ ns j used c t (answer_of ρ ns j used (length t) c) ≡ j) ×
    (used_by used c (answer_of ρ ns j used (length t) c) ≡ used)
refused_keeps ρ ns j used t c e = rw e (refl, refl, refl)

pub refused_replay_keeps : (ρ : Rules) (ns j : List ℕ) (used : ℕ) (t : List ℤ) {r : Refusal} → replay_of ρ ns j used t ≡ Err r → replayed_cells ρ ns j used t (replay_of ρ ns j used t) ≡ t
refused_replay_keeps ρ ns j used t e = rw e refl
