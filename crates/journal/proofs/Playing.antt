-- A replay over bytes, field by field; and that a replay that is refused gives the table back.
-- Assumes nothing.
use mathlib.Core.Path.{◌≡◌, refl, sym, ap, ◌∙◌, subst}
use mathlib.Core.Bool.{Bool, true, false}
use mathlib.Core.List.{List, [], ◌∷◌, ◌++◌}
use mathlib.Core.Logic.{◌⊎◌, inl, inr}
use Prim.Native.Nat.{ℕ, zero, suc, ◌+◌, ◌-◌, ◌<◌, ◌≤◌}
use native.Mathlib.Omega.{arith}
use lib.Dec.{ltb, leb}
use lib.IntN.{ℤ, pos, negsuc}
use lib.ListN.{length, set, drop}
use borrow.Author.Tests.{lt-ltb, le-ltb, leb-true, leb-false, eqb-true, eq-eqb}
use mir.Syntax.{w64}
use mir.Val.{SFits, of_z, to_z}
use mir.Facts.{to_z-of_z}
use Rattle.base.proofs.Choice.{cond_elim}
use Rattle.base.proofs.Order.{le_or_lt}
use Rattle.base.proofs.Taken.{drop_none}
use Rattle.entry.specs.declared.Entry.{Entry}
use Rattle.entry.specs.declared.Entry.TheVariants.{Set, Open, Release, Undo, Misformed}
use Rattle.entry.specs.Field.{field_at}
use Rattle.journal.specs.Layout.{spot_of, get_at, put_at}
use Rattle.journal.specs.Entries.{mark_step, mark_of, give_back, restore, next_at, entries_at, place_at, back_to}
use Rattle.journal.specs.declared.State.{State}
use Rattle.journal.specs.Walks.{ok_entry, new_depth, down}
use Rattle.journal.specs.Plays.{same_cell, matches, played_by, Played, played, play_from, play_of, Plays}
use Rattle.journal.proofs.Spots.{length_put, put_put, put_get}
use Rattle.journal.proofs.Restore.{length_restore, restore_one, restore_within}
use Rattle.journal.proofs.Places.{entries_one, entries_from, place_none, place_next, back_none}
use Rattle.journal.proofs.Walking.{no_way, down_length, mark_down, Going, start, going_start, behind, going_more, before_end, fields_fewer, depth_fewer}

-- ---- equal cells

pub same_same : (a : ℤ) → same_cell a a ≡ true
same_same (pos n) = eq-eqb n n refl
same_same (negsuc n) = eq-eqb n n refl

pub same_cell_lem : (a b : ℤ) → same_cell a b ≡ true → a ≡ b
same_cell_lem (pos m) (pos n) e = ap pos (eqb-true m n e)
same_cell_lem (pos m) (negsuc n) e = no_way (sym e)
same_cell_lem (negsuc m) (pos n) e = no_way (sym e)
same_cell_lem (negsuc m) (negsuc n) e = ap negsuc (eqb-true m n e)

-- cells of the same bits are the same
pub bits_same : (a b : ℤ) → SFits w64 a → SFits w64 b → of_z w64 a ≡ of_z w64 b → same_cell a b ≡ true
bits_same a b f g e =
    let q : a ≡ b = sym (to_z-of_z {w = w64} f) ∙ ap (to_z w64) e ∙ to_z-of_z {w = w64} g in
    subst (λ x. same_cell a x ≡ true) q (same_same a)

-- cells of other bits are not
pub bits_other : (a b : ℤ) → (of_z w64 a ≡ of_z w64 b → ⊥) → same_cell a b ≡ false
bits_other a b h = by (same_cell a b) refl
  where
    by : (t : Bool) → same_cell a b ≡ t → same_cell a b ≡ false
    by true e = absurd (h (ap (of_z w64) (same_cell_lem a b e)))
    by false e = e

-- ---- the loop

module _ (ps s : List ℕ) (p n d : ℕ) (a : List ℕ) (t : List ℤ) where
  -- behind a field that is accepted, and whose old value is the cell's, it goes on
  pub play_more : n < length s → p < length s → ok_entry ps (field_at s p) d ≡ true → matches ps (field_at s p) t ≡ true → d < length a
      → play_from (length s - (n + 1)) ps s (next_at s p) (n + 1) (down (new_depth (field_at s p) d) (set a d n)) (played_by ps (field_at s p) s n (down d a) t) ≡ play_from
      (length s - n) ps s p n (down d a) t
  unfolding play_from
  play_more h l o m k =
      let z : length s - n ≡ suc (length s - (n + 1)) = omega arith in
      rw (z, lt-ltb p (length s) l, down_length d a, o, m, mark_down ps d (field_at s p) n a o k)

  -- before one that is not accepted it stops
  pub play_stop : n < length s → p < length s → ok_entry ps (field_at s p) d ≡ false → played p n (down d a) t ≡ play_from (length s - n) ps s p n (down d a) t
  unfolding play_from
  play_stop h l o =
      let z : length s - n ≡ suc (length s - (n + 1)) = omega arith in
      rw (z, lt-ltb p (length s) l, down_length d a, o)

  -- and before one that finds another value
  pub play_other : n < length s → p < length s → ok_entry ps (field_at s p) d ≡ true → matches ps (field_at s p) t ≡ false → played p n (down d a) t ≡ play_from (length s - n) ps s p n (down d a) t
  unfolding play_from
  play_other h l o m =
      let z : length s - n ≡ suc (length s - (n + 1)) = omega arith in
      rw (z, lt-ltb p (length s) l, down_length d a, o, m)

pub play_end : (f : ℕ) (ps s : List ℕ) (p n : ℕ) (ms : List ℕ) (t : List ℤ) → length s ≤ p → play_from f ps s p n ms t ≡ played p n ms t
unfolding play_from
play_end zero ps s p n ms t h = refl
play_end (suc f) ps s p n ms t h = rw (le-ltb p (length s) h)

-- from the first place on it is the whole replay
pub play_start : (ps s : List ℕ) (t : List ℤ) → play_from (length s - 0) ps s 0 0 [] t ≡ play_of ps s t
unfolding play_of
play_start ps s t = let z : length s - 0 ≡ length s = omega arith in rw z

-- the replay goes on from a state and these cells
pub record PlaysOn (ps s : List ℕ) (t₀ : List ℤ) (r : State) (t : List ℤ) : Type 0 where
  pub going : Going s r
  pub rest : play_from (length s - r.count) ps s r.place r.count (down r.depth r.marks) t ≡ play_of ps s t₀

pub plays_start : (ps s : List ℕ) (t : List ℤ) → PlaysOn ps s t start t
plays_start ps s t = record { going = going_start s; rest = play_start ps s t }

module _ {ps s : List ℕ} {t₀ : List ℤ} {r : State} {t : List ℤ} (w : PlaysOn ps s t₀ r t) where
  pub plays_more : ok_entry ps (field_at s r.place) r.depth ≡ true → matches ps (field_at s r.place) t ≡ true
      → PlaysOn ps s t₀ (behind s r) (played_by ps (field_at s r.place) s r.count (down r.depth r.marks) t)
  plays_more o m =
      let h = before_end ps s w.going o in
      record {
        going = going_more ps s w.going o;
        rest = play_more ps s r.place r.count r.depth r.marks t (fields_fewer ps s w.going h) h o m (depth_fewer ps s w.going) ∙ w.rest;
      }

  pub plays_stop : ok_entry ps (field_at s r.place) r.depth ≡ false → Plays ps s t₀ r t
  plays_stop o = record { found = by (le_or_lt (length s) r.place) ∙ w.rest; within = w.going.within }
    where
      by : (length s ≤ r.place) ⊎ (r.place < length s) → played r.place r.count (down r.depth r.marks) t ≡ play_from (length s - r.count) ps s r.place r.count (down r.depth r.marks) t
      by (inl h) = sym (play_end (length s - r.count) ps s r.place r.count (down r.depth r.marks) t h)
      by (inr h) = play_stop ps s r.place r.count r.depth r.marks t (fields_fewer ps s w.going h) h o

  pub plays_other : ok_entry ps (field_at s r.place) r.depth ≡ true → matches ps (field_at s r.place) t ≡ false → Plays ps s t₀ r t
  plays_other o m =
      let h = before_end ps s w.going o in
      record {
        found = play_other ps s r.place r.count r.depth r.marks t (fields_fewer ps s w.going h) h o m ∙ w.rest;
        within = w.going.within;
      }

module _ (ps s : List ℕ) where
  -- no field alters how many cells there are
  pub length_played : (e : Entry) (n : ℕ) (ms : List ℕ) (t : List ℤ) → length (played_by ps e s n ms t) ≡ length t
  length_played (Set g c o v) n ms t = length_put (spot_of ps g c) v t
  length_played (Open k) n ms t = refl
  length_played (Release k) n ms t = refl
  length_played (Undo k) n ms t = length_restore ps (entries_at s (place_at s 0 (mark_of ms k)) (n - mark_of ms k)) t
  length_played Misformed n ms t = refl

  -- ---- a replay that is refused goes back

  back_to_lem : (m n : ℕ) (t : List ℤ) → restore ps (entries_at s 0 n) (back_to ps s m n t) ≡ restore ps (entries_at s 0 n) t
  back_to_lem m n t = by (leb m n) refl
    where
      by : (b : Bool) → leb m n ≡ b → restore ps (entries_at s 0 n) (back_to ps s m n t) ≡ restore ps (entries_at s 0 n) t
      by true e =
          let d : drop 0 (entries_at s 0 n) ≡ entries_at s 0 n = drop_none (entries_at s 0 n) in
          ap (λ l. restore ps (entries_at s 0 n) (restore ps l t)) (entries_from s m n (leb-true m n e))
          ∙ rw d at (restore_within ps (entries_at s 0 n) 0 m t (omega arith))
      by false e =
          let h : n < m = leb-false m n e in
          let z : n - m ≡ 0 = omega arith in
          rw z (ap (restore ps (entries_at s 0 n)) (sym (back_none s ps (place_at s 0 m) t)))

  step_back : (e : Entry) (n : ℕ) (ms : List ℕ) (t : List ℤ) → matches ps e t ≡ true → restore ps (entries_at s 0 n) (give_back ps e (played_by ps e s n ms t)) ≡ restore ps (entries_at s 0 n) t
  step_back (Set g c o v) n ms t h =
      let p = spot_of ps g c in
      let q : get_at p t ≡ o = same_cell_lem (get_at p t) o h in
      ap (restore ps (entries_at s 0 n)) (put_put p v o t ∙ ap (λ z. put_at p z t) (sym q) ∙ put_get p t)
  step_back (Open k) n ms t h = refl
  step_back (Release k) n ms t h = refl
  step_back (Undo k) n ms t h = back_to_lem (mark_of ms k) n t
  step_back Misformed n ms t h = refl

  abbrev Returns : List ℤ → Played → Type 0
  Returns t₀ r = restore ps (entries_at s 0 r.count) r.cells ≡ t₀

  play_back : (f p n : ℕ) (ms : List ℕ) (t t₀ : List ℤ) → p ≡ place_at s 0 n → restore ps (entries_at s 0 n) t ≡ t₀ → Returns t₀ (play_from f ps s p n ms t)
  unfolding play_from
  play_back zero p n ms t t₀ q h = h
  play_back (suc f) p n ms t t₀ q h =
      let e = field_at s p in
      cond_elim (Returns t₀) (ltb p (length s)) (λ _. cond_elim (Returns t₀) (ok_entry ps e (length ms)) (λ _. cond_elim (Returns t₀) (matches ps e t) (λ m.
      play_back f (next_at s p) (n + 1) (mark_step e n ms) (played_by ps e s n ms t) t₀ (ap (next_at s) q ∙ sym (place_next s 0 n))
      (ap (λ l. restore ps l (played_by ps e s n ms t)) (entries_one s n ∙ ap (λ x. entries_at s 0 n ++ (field_at s x ∷ [])) (sym q))
      ∙ restore_one ps (entries_at s 0 n) e (played_by ps e s n ms t) ∙ step_back e n ms t m ∙ h)) (λ _. h)) (λ _. h)) (λ _. h)

  pub replay_back : (t : List ℤ) → restore ps (entries_at s 0 (play_of ps s t).count) (play_of ps s t).cells ≡ t
  unfolding play_of
  replay_back t = play_back (length s) 0 0 [] t t (place_none s 0) (sym (back_none s ps 0 t))
