-- A walk over a journal's bytes, field by field, with the marks in an array.
-- Assumes nothing.
use mathlib.Core.Path.{◌≡◌, refl, sym, ap, ◌∙◌, subst}
use mathlib.Core.Bool.{Bool, true, false, cond}
use mathlib.Core.List.{List, []}
use mathlib.Core.Logic.{◌⊎◌, inl, inr}
use Rattle.std.specs.Prelude.{Option, Some, None}
use Prim.Native.Nat.{ℕ, zero, suc, ◌+◌, ◌-◌, ◌*◌, ◌<◌, ◌≤◌}
use native.Mathlib.Omega.{arith}
use native.Mathlib.Numerals.{add-one}
use lib.Dec.{ltb, leb, eqb}
use lib.ListN.{length, get_or, set, drop, replicate, length-set}
use lib.Seq.{get_or-set_same, get_or-set_other}
use borrow.Author.Tests.{lt-ltb, le-ltb, ltb-true, leb-true, eqb-true, eqb-false}
use Rattle.base.proofs.Choice.{and_first, and_second}
use Rattle.base.proofs.Order.{le_or_lt}
use Rattle.entry.specs.declared.Entry.{Entry}
use Rattle.entry.specs.declared.Entry.TheVariants.{Set, Open, Release, Undo, Misformed}
use Rattle.entry.specs.Field.{entry_size, field_at}
use Rattle.entry.proofs.Reading.{next_within}
use Rattle.journal.specs.Model.{outer}
use Rattle.journal.specs.Entries.{mark_step, mark_of, next_at}
use Rattle.journal.specs.declared.State.{State}
use Rattle.journal.specs.Walks.{ok_entry, new_depth, depth_after, walked, walk_from, walk_of, down, MarksBelow, WalksTo, next_field, passed}

pub no_way : {A : Type 0} → true ≡ false → A
no_way e = let z : ◌≡◌ {A = ℕ} 0 1 = cc in absurd (omega arith)

-- ---- what an accepted entry's numbers are

module _ (ps : List ℕ) (d : ℕ) where
  pub ok_open : (k : ℕ) → ok_entry ps (Open k) d ≡ true → (d < 16) × (k ≡ d + 1)
  ok_open k h =
      (ltb-true d 16 (and_first (ltb d 16) (eqb k (d + 1)) h), eqb-true k (d + 1) (and_second (ltb d 16) (eqb k (d + 1)) h))

  pub ok_release : (k : ℕ) → ok_entry ps (Release k) d ≡ true → (0 < k) × (k ≡ d)
  ok_release k h = (ltb-true 0 k (and_first (ltb 0 k) (eqb k d) h), eqb-true k d (and_second (ltb 0 k) (eqb k d) h))

  pub ok_undo : (k : ℕ) → ok_entry ps (Undo k) d ≡ true → (0 < k) × (k ≤ d)
  ok_undo k h = (ltb-true 0 k (and_first (ltb 0 k) (leb k d) h), leb-true k d (and_second (ltb 0 k) (leb k d) h))

  pub ok_size : (e : Entry) → ok_entry ps e d ≡ true → 4 ≤ entry_size e
  ok_size (Set g c o v) h = omega arith
  ok_size (Open k) h = omega arith
  ok_size (Release k) h = omega arith
  ok_size (Undo k) h = omega arith
  ok_size Misformed h = no_way (sym h)

-- ---- marks in an array

pub down_length : (d : ℕ) (a : List ℕ) → length (down d a) ≡ d
down_length zero a = refl
down_length (suc d) a = ap suc (down_length d a)

down_set : (d i v : ℕ) (a : List ℕ) → d ≤ i → down d (set a i v) ≡ down d a
down_set zero i v a h = refl
down_set (suc d) i v a h =
    let e : get_or (set a i v) d 0 ≡ get_or a d 0 = get_or-set_other a i d v 0 (λ q. omega arith) in
    let r : down d (set a i v) ≡ down d a = down_set d i v a (omega arith) in
    rw (e, r)

down_drop : (n k : ℕ) (a : List ℕ) → drop n (down (n + k) a) ≡ down k a
down_drop zero k a = let z : 0 + k ≡ k = omega arith in rw z
down_drop (suc n) k a = let z : suc n + k ≡ suc (n + k) = omega arith in rw z (down_drop n k a)

down_outer : (d k : ℕ) (a : List ℕ) → k ≤ d → outer k (down d a) ≡ down k a
down_outer d k a h =
    let z : d - k + k ≡ d = omega arith in
    rw (down_length d a) (subst (λ m. drop (d - k) (down m a) ≡ down k a) z (down_drop (d - k) k a))

down_at : (n i : ℕ) (a : List ℕ) → get_or (down (n + suc i) a) n 0 ≡ get_or a i 0
down_at zero i a = let z : 0 + suc i ≡ suc i = omega arith in rw z
down_at (suc n) i a = let z : suc n + suc i ≡ suc (n + suc i) = omega arith in rw z (down_at n i a)

-- the mark of savepoint k stands at k - 1 in the array
pub down_mark : (d k : ℕ) (a : List ℕ) → 0 < k → k ≤ d → mark_of (down d a) k ≡ get_or a (k - 1) 0
down_mark d k a h l =
    let z : d - k + suc (k - 1) ≡ d = omega arith in
    rw (down_length d a) (subst (λ m. get_or (down m a) (d - k) 0 ≡ get_or a (k - 1) 0) z (down_at (d - k) (k - 1) a))

module _ (ps : List ℕ) (d : ℕ) where
  pub mark_down : (e : Entry) (n : ℕ) (a : List ℕ) → ok_entry ps e d ≡ true → d < length a → mark_step e n (down d a) ≡ down (new_depth e d) (set a d n)
  mark_down (Set g c o v) n a h l = sym (down_set d d n a (omega arith))
  mark_down (Open k) n a h l = rw (add-one d, get_or-set_same a d n 0 l, down_set d d n a (omega arith))
  mark_down (Release k) n a h l =
      let q = ok_release ps d k h in
      let p : 0 < d = omega arith in
      let z : 1 + (d - 1) ≡ d = omega arith in
      subst (λ m. drop 1 (down m a) ≡ down (d - 1) a) z (down_drop 1 (d - 1) a) ∙ sym (down_set (d - 1) d n a (omega arith))
  mark_down (Undo k) n a h l =
      let r : k ≤ d = (ok_undo ps d k h).1 in
      down_outer d k a r ∙ sym (down_set k d n a r)
  mark_down Misformed n a h l = no_way (sym h)

  -- ---- depths

  pub new_small : (e : Entry) → ok_entry ps e d ≡ true → d ≤ 16 → new_depth e d ≤ 16
  new_small (Set g c o v) h l = l
  new_small (Open k) h l = omega (arith, (ok_open ps d k h).0)
  new_small (Release k) h l = omega arith
  new_small (Undo k) h l = omega (arith, (ok_undo ps d k h).1)
  new_small Misformed h l = no_way (sym h)

  new_next : (e : Entry) → ok_entry ps e d ≡ true → new_depth e d ≤ d + 1
  new_next (Set g c o v) h = omega arith
  new_next (Open k) h = omega arith
  new_next (Release k) h = omega arith
  new_next (Undo k) h = omega (arith, (ok_undo ps d k h).1)
  new_next Misformed h = no_way (sym h)

cond_some : {A : Type 0} (b : Bool) (x y : A) → Some y ≡ cond b (Some x) None → (b ≡ true) × (y ≡ x)
cond_some true x y e = (refl, cc)
cond_some false x y e = cc

cond_none : {A : Type 0} (b : Bool) (x : A) → None ≡ cond b (Some x) None → b ≡ false
cond_none true x e = cc
cond_none false x e = refl

module _ (ps : List ℕ) (e : Entry) (d : ℕ) where
  -- an entry with no depth behind it is not accepted
  pub depth_no : depth_after ps e d ≡ None → ok_entry ps e d ≡ false
  depth_no h = cond_none (ok_entry ps e d) (new_depth e d) (sym h)

  -- one with a depth behind it is, and the depth is the one that it leaves
  pub depth_yes : {n : ℕ} → depth_after ps e d ≡ Some n → (ok_entry ps e d ≡ true) × (n ≡ new_depth e d)
  depth_yes {n} h = cond_some (ok_entry ps e d) (new_depth e d) n (sym h)

-- ---- no mark is past the fields so far

lt_of_ne : (j d : ℕ) → j ≤ d → (d ≡ j → ⊥) → j < d
lt_of_ne j d h f = omega arith

module _ (n d : ℕ) (a : List ℕ) where
  below_set : (b : Bool) (j : ℕ) → eqb d j ≡ b → d < length a → j ≤ d → (j < d → get_or a j 0 ≤ n) → get_or (set a d n) j 0 ≤ n + 1
  below_set true j e l h f = let z : d ≡ j = eqb-true d j e in rw (← z, get_or-set_same a d n 0 l) (omega arith)
  below_set false j e l h f =
      let k : j < d = lt_of_ne j d h (eqb-false d j e) in
      rw (get_or-set_other a d j n 0 (λ q. eqb-false d j e (sym q))) (omega (arith, f k))

module _ (ps s : List ℕ) (p n d : ℕ) (a : List ℕ) where
  pub below_more : (e : Entry) → ok_entry ps e d ≡ true → d < length a → ((j : ℕ) → j < d → get_or a j 0 ≤ n) → (j : ℕ) → j < new_depth e d → get_or (set a d n) j 0 ≤ n + 1
  below_more e o l f j h = below_set n d a (eqb d j) j refl l (omega (arith, new_next ps d e o)) (f j)

  -- ---- the walk

  -- behind a field that is accepted it goes on
  pub walk_more : n < length s → p < length s → ok_entry ps (field_at s p) d ≡ true → d < length a
      → walk_from (length s - (n + 1)) ps s (next_at s p) (n + 1) (down (new_depth (field_at s p) d) (set a d n)) ≡ walk_from (length s - n) ps s p n (down d a)
  unfolding walk_from
  walk_more h l o k =
      let z : length s - n ≡ suc (length s - (n + 1)) = omega arith in
      rw (z, lt-ltb p (length s) l, down_length d a, o, mark_down ps d (field_at s p) n a o k)

  -- before one that is not it stops
  pub walk_stop : n < length s → p < length s → ok_entry ps (field_at s p) d ≡ false → walked p n (down d a) ≡ walk_from (length s - n) ps s p n (down d a)
  unfolding walk_from
  walk_stop h l o =
      let z : length s - n ≡ suc (length s - (n + 1)) = omega arith in
      rw (z, lt-ltb p (length s) l, down_length d a, o)

pub walk_end : (f : ℕ) (ps s : List ℕ) (p n : ℕ) (ms : List ℕ) → length s ≤ p → walk_from f ps s p n ms ≡ walked p n ms
unfolding walk_from
walk_end zero ps s p n ms h = refl
walk_end (suc f) ps s p n ms h = rw (le-ltb p (length s) h)

-- from the first place on it is the whole walk
pub walk_start : (ps s : List ℕ) → walk_from (length s - 0) ps s 0 0 [] ≡ walk_of ps s
unfolding walk_of
walk_start ps s = let z : length s - 0 ≡ length s = omega arith in rw z

-- ---- states of a walk

-- no state is beyond the bytes, and none has more fields or savepoints than its place and its marks have room for
pub record Going (s : List ℕ) (r : State) : Type 0 where
  pub early : 4 * r.count ≤ r.place
  pub within : r.place ≤ length s
  pub few : r.depth ≤ 16
  pub room : length r.marks ≡ 17
  pub below : MarksBelow r.depth r.marks r.count

abbrev pub start : State
start = record { place = 0; count = 0; depth = 0; marks = replicate 17 0 }

pub going_start : (s : List ℕ) → Going s start
going_start s = record { early = omega arith; within = omega arith; few = omega arith; room = refl; below = λ j h. absurd (omega arith) }

-- the state behind the field at a state's place
abbrev pub behind : List ℕ → State → State
behind s r = passed r (entry_size (field_at s r.place)) (new_depth (field_at s r.place) r.depth)

module _ (ps s : List ℕ) {r : State} (g : Going s r) where
  pub going_more : ok_entry ps (field_at s r.place) r.depth ≡ true → Going s (behind s r)
  going_more o =
      let e = field_at s r.place in
      record {
        early = omega (arith, g.early, ok_size ps r.depth e o);
        within = next_within s r.place g.within;
        few = new_small ps r.depth e o g.few;
        room = length-set r.marks r.depth r.count ∙ g.room;
        below = below_more ps s r.place r.count r.depth r.marks e o (omega (arith, g.few, g.room)) g.below;
      }

  -- a field that is accepted is not behind the last byte
  pub before_end : ok_entry ps (field_at s r.place) r.depth ≡ true → r.place < length s
  before_end o = omega (arith, next_within s r.place g.within, ok_size ps r.depth (field_at s r.place) o)

  pub nearer_end : ok_entry ps (field_at s r.place) r.depth ≡ true → length s - (behind s r).place < length s - r.place
  nearer_end o = omega (arith, before_end o, ok_size ps r.depth (field_at s r.place) o)

  -- there are fewer fields than bytes, and fewer savepoints than marks
  pub fields_fewer : r.place < length s → r.count < length s
  fields_fewer h = omega (arith, g.early)

  pub depth_fewer : r.depth < length r.marks
  depth_fewer = omega (arith, g.few, g.room)

  pub fields_left : r.place < length s → length s - r.count ≡ suc (length s - (r.count + 1))
  fields_left h = omega (arith, g.early)

  -- from a state the walk goes on behind a field that is accepted
  pub going_walk_more : ok_entry ps (field_at s r.place) r.depth ≡ true
      → walk_from (length s - (r.count + 1)) ps s (next_at s r.place) (r.count + 1) (down (behind s r).depth (behind s r).marks) ≡ walk_from (length s - r.count) ps s r.place r.count (down r.depth r.marks)
  going_walk_more o = let h = before_end o in walk_more ps s r.place r.count r.depth r.marks (fields_fewer h) h o depth_fewer

  -- and stops before one that is not, or at the end
  pub going_walk_stop : ok_entry ps (field_at s r.place) r.depth ≡ false → walked r.place r.count (down r.depth r.marks) ≡ walk_from (length s - r.count) ps s r.place r.count (down r.depth r.marks)
  going_walk_stop o = by (le_or_lt (length s) r.place)
    where
      by : (length s ≤ r.place) ⊎ (r.place < length s) → walked r.place r.count (down r.depth r.marks) ≡ walk_from (length s - r.count) ps s r.place r.count (down r.depth r.marks)
      by (inl h) = sym (walk_end (length s - r.count) ps s r.place r.count (down r.depth r.marks) h)
      by (inr h) = walk_stop ps s r.place r.count r.depth r.marks (fields_fewer h) h o

-- the walk goes on from a state
pub record Walking (ps s : List ℕ) (r : State) : Type 0 where
  pub going : Going s r
  pub rest : walk_from (length s - r.count) ps s r.place r.count (down r.depth r.marks) ≡ walk_of ps s

pub walking_start : (ps s : List ℕ) → Walking ps s start
walking_start ps s = record { going = going_start s; rest = walk_start ps s }

module _ {ps s : List ℕ} {r : State} (w : Walking ps s r) where
  pub walking_more : ok_entry ps (field_at s r.place) r.depth ≡ true → Walking ps s (behind s r)
  walking_more o = record { going = going_more ps s w.going o; rest = going_walk_more ps s w.going o ∙ w.rest }

  pub walking_stop : ok_entry ps (field_at s r.place) r.depth ≡ false → WalksTo ps s r
  walking_stop o = record { found = going_walk_stop ps s w.going o ∙ w.rest; small = w.going.few; within = w.going.within; below = w.going.below }

-- ---- what the code finds at a state's place

pub record NextFound (ps s : List ℕ) (r : State) (entry : Entry) (depth : ℕ) : Type 0 where
  pub accepted : ok_entry ps (field_at s r.place) r.depth ≡ true
  pub field : entry ≡ field_at s r.place
  pub left : depth ≡ new_depth (field_at s r.place) r.depth

pub next_found : (ps s : List ℕ) (r : State) {entry : Entry} {depth : ℕ} → ◌≡◌ {A = Option (Entry × ℕ)} (Some (entry, depth)) (next_field ps s r) → NextFound ps s r entry depth
next_found ps s r {entry} {depth} e =
    let x = field_at s r.place in
    let t = cond_some (ok_entry ps x r.depth) (x, new_depth x r.depth) (entry, depth) e in
    record { accepted = t.0; field = ap (λ p. p.0) t.1; left = ap (λ p. p.1) t.1 }

-- the state behind it, by its bytes
pub stepped : {ps s : List ℕ} {r r' : State} {entry : Entry} {depth size : ℕ} → NextFound ps s r entry depth → size ≡ entry_size entry → r' ≡ passed r size depth → r' ≡ behind s r
stepped n z q = q ∙ rw (z, n.field, n.left)
