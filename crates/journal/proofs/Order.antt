-- Fields in order, said plainly (specs/Order.antt), are those that a walk, and a replay, goes through; and where it stops is where a journal is at
-- fault.
-- Assumes nothing.
use Rattle.std.specs.Prelude.{Some, None}
use mathlib.Core.Path.{◌≡◌, refl, sym, ◌∙◌, ap, subst}
use mathlib.Core.Bool.{Bool, true, false, cond, ◌&&◌, true≢false}
use mathlib.Core.List.{List, [], ◌∷◌, ◌++◌, map}
use mathlib.Core.Logic.{◌⊎◌, inl, inr}
use Prim.Native.Nat.{ℕ, zero, suc, ◌+◌, ◌-◌, ◌<◌, ◌≤◌}
use native.Mathlib.Nat.{zero-add}
use native.Mathlib.Omega.{arith}
use borrow.Author.Tests.{eq-eqb, eqb-true, le-leb, leb-true, lt-ltb, ltb-true, ltb-false}
use lib.Dec.{eqb, leb, ltb}
use lib.IntN.{ℤ, pos}
use lib.ListN.{length, get_or, drop, length-map, drop_of_length-le, get_or-eq_default}
use lib.Seq.{ext_get_or}
use Rattle.rules.specs.declared.Rules.{Rules}
use Rattle.base.specs.Every.{up_from}
use Rattle.base.proofs.UpFrom.{length_up, get_d_map_up}
use Rattle.base.proofs.Choice.{and_first, and_second, cond_elim}
use Rattle.base.proofs.Order.{le_or_lt}
use Rattle.count.specs.Tally.{cells_in}
use Rattle.count.proofs.Tallied.{cells_first, cells_next}
use Rattle.entry.specs.declared.Entry.{Entry}
use Rattle.entry.specs.declared.Entry.TheVariants.{Set, Open, Release, Undo, Misformed}
use Rattle.entry.specs.Field.{entry_in, field_at}
use Rattle.journal.specs.Layout.{starts_of, spot_in, spot_of, exists, put_at}
use Rattle.journal.specs.Model.{Call, Sets, Opens, Releases, Undoes, accepts}
use Rattle.journal.specs.Entries.{mark_step, mark_of, restore, next_at, entries_at, place_at}
use Rattle.journal.specs.Walks.{ok_entry, Walked, walked, walk_from, walk_of}
use Rattle.journal.specs.Plays.{matches, played_by, Played, played, play_from, play_of}
use Rattle.journal.specs.Order.{IsCell, cell_place, Accepted, RightEntry, OldIs, first_old, undone, cells_behind}
use Rattle.journal.specs.Order.{Goes, here, on, RightAt, walked_to, InOrder, PlaysAt, played_to, InReplay}
use Rattle.journal.proofs.Spots.{starts_length, starts_at_lem}
use Rattle.journal.proofs.Walking.{no_way, ok_open, ok_size}
use Rattle.journal.proofs.Playing.{same_same, same_cell_lem}
use Rattle.journal.proofs.Places.{entries_from, entries_one, place_next}
use Rattle.journal.proofs.Restore.{first_back, length_restore, restore_cell}
use Rattle.journal.proofs.Replays.{no_field, AllBelow, step_below, none_below}

-- ---- a cell

span : (start end c : ℕ) → exists (spot_in start end c) ≡ (leb 1 c && leb c (end - start))
span start end c = by (leb 1 c && leb c (end - start))
  where
    by : (t : Bool) → exists (cond t (Some (start + (c - 1))) None) ≡ t
    by true = refl
    by false = refl

module _ (ρ : Rules) (ns : List ℕ) (g c : ℕ) where
  ends : 1 ≤ g → g ≤ 60 → get_or (starts_of ρ ns) (g + 1) 0 - get_or (starts_of ρ ns) g 0 ≡ cells_in ρ ns g
  ends low high =
      omega (arith, starts_at_lem ρ ns g (omega arith), starts_at_lem ρ ns (g + 1) (omega arith), cells_next ρ ns g low (omega arith))

  cell_exists : IsCell ρ ns g c → exists (spot_of (starts_of ρ ns) g c) ≡ true
  unfolding spot_of
  cell_exists i =
      span (get_or (starts_of ρ ns) g 0) (get_or (starts_of ρ ns) (g + 1) 0) c
      ∙ rw (le-leb 1 c i.first, le-leb c (get_or (starts_of ρ ns) (g + 1) 0 - get_or (starts_of ρ ns) g 0) (omega (arith, ends i.low i.high, i.last)))

  exists_cell : exists (spot_of (starts_of ρ ns) g c) ≡ true → IsCell ρ ns g c
  unfolding spot_of
  exists_cell e =
      let t = sym (span (get_or (starts_of ρ ns) g 0) (get_or (starts_of ρ ns) (g + 1) 0) c) ∙ e in
      let first = leb-true 1 c (and_first (leb 1 c) (leb c (get_or (starts_of ρ ns) (g + 1) 0 - get_or (starts_of ρ ns) g 0)) t) in
      let last = leb-true c (get_or (starts_of ρ ns) (g + 1) 0 - get_or (starts_of ρ ns) g 0) (and_second (leb 1 c) (leb c (get_or (starts_of ρ ns) (g + 1) 0 - get_or (starts_of ρ ns) g 0)) t) in
      by first last (le_or_lt 1 g) (le_or_lt g 60)
    where
      by : 1 ≤ c → c ≤ get_or (starts_of ρ ns) (g + 1) 0 - get_or (starts_of ρ ns) g 0 → (1 ≤ g) ⊎ (g < 1) → (g ≤ 60) ⊎ (60 < g) → IsCell ρ ns g c
      by first last (inl low) (inl high) = record { low = low; high = high; first = first; last = omega (arith, ends low high) }
      by first last (inl low) (inr high) =
          let none : get_or (starts_of ρ ns) (g + 1) 0 ≡ 0 = get_or-eq_default (starts_of ρ ns) 0 {n = g + 1} (omega (arith, starts_length ρ ns)) in
          absurd (omega arith)
      by first last (inr low) high =
          let zero-g : g ≡ 0 = omega arith in
          let none : get_or (starts_of ρ ns) (g + 1) 0 ≡ 0 = ap (λ k. get_or (starts_of ρ ns) (k + 1) 0) zero-g ∙ starts_at_lem ρ ns 1 (omega arith) ∙ cells_first ρ ns in
          absurd (omega arith)

  -- where it stands
  pub spot_at : IsCell ρ ns g c → spot_of (starts_of ρ ns) g c ≡ Some (cell_place ρ ns g c)
  unfolding spot_of
  spot_at i =
      rw (le-leb 1 c i.first, le-leb c (get_or (starts_of ρ ns) (g + 1) 0 - get_or (starts_of ρ ns) g 0) (omega (arith, ends i.low i.high, i.last)))
      (ap (λ n. Some (n + (c - 1))) (starts_at_lem ρ ns g (omega (arith, i.high))))

-- ---- a call that is accepted

module _ (ρ : Rules) (ns : List ℕ) (d : ℕ) where
  pub accepted_yes : (c : Call) → Accepted ρ ns d c → accepts (starts_of ρ ns) c d ≡ true
  accepted_yes (Sets g i v) h = cell_exists ρ ns g i h
  accepted_yes Opens h = lt-ltb d 16 h
  accepted_yes (Releases k) h = rw (lt-ltb 0 k h.0, eq-eqb k d h.1)
  accepted_yes (Undoes k) h = rw (lt-ltb 0 k h.0, le-leb k d h.1)

  pub yes_accepted : (c : Call) → accepts (starts_of ρ ns) c d ≡ true → Accepted ρ ns d c
  yes_accepted (Sets g i v) e = exists_cell ρ ns g i e
  yes_accepted Opens e = ltb-true d 16 e
  yes_accepted (Releases k) e = (ltb-true 0 k (and_first (ltb 0 k) (eqb k d) e), eqb-true k d (and_second (ltb 0 k) (eqb k d) e))
  yes_accepted (Undoes k) e = (ltb-true 0 k (and_first (ltb 0 k) (leb k d) e), leb-true k d (and_second (ltb 0 k) (leb k d) e))

  pub no_accepted : (c : Call) → (Accepted ρ ns d c → ⊥) → accepts (starts_of ρ ns) c d ≡ false
  no_accepted c n = by (accepts (starts_of ρ ns) c d) refl
    where
      by : (t : Bool) → accepts (starts_of ρ ns) c d ≡ t → t ≡ false
      by true e = absurd (n (yes_accepted c e))
      by false e = refl

  -- ---- an entry

  entry_right : (e : Entry) → RightEntry ρ ns d e → ok_entry (starts_of ρ ns) e d ≡ true
  entry_right (Set g c o v) h = accepted_yes (Sets g c v) h
  entry_right (Open k) h = rw (lt-ltb d 16 h.0, eq-eqb k (d + 1) h.1)
  entry_right (Release k) h = accepted_yes (Releases k) h
  entry_right (Undo k) h = accepted_yes (Undoes k) h
  entry_right Misformed h = absurd h

  right_entry : (e : Entry) → ok_entry (starts_of ρ ns) e d ≡ true → RightEntry ρ ns d e
  right_entry (Set g c o v) h = yes_accepted (Sets g c v) h
  right_entry (Open k) h = ok_open (starts_of ρ ns) d k h
  right_entry (Release k) h = yes_accepted (Releases k) h
  right_entry (Undo k) h = yes_accepted (Undoes k) h
  right_entry Misformed h = no_way (sym h)

  old_matches : (e : Entry) (t : List ℤ) → RightEntry ρ ns d e → OldIs ρ ns e t → matches (starts_of ρ ns) e t ≡ true
  old_matches (Set g c o v) t r q = rw (spot_at ρ ns g c r, q) (same_same o)
  old_matches (Open k) t r q = refl
  old_matches (Release k) t r q = refl
  old_matches (Undo k) t r q = refl
  old_matches Misformed t r q = refl

  matches_old : (e : Entry) (t : List ℤ) → RightEntry ρ ns d e → matches (starts_of ρ ns) e t ≡ true → OldIs ρ ns e t
  matches_old (Set g c o v) t r m = same_cell_lem (get_or t (cell_place ρ ns g c) (pos 0)) o (rw (spot_at ρ ns g c r) at m)
  matches_old (Open k) t r m = tt
  matches_old (Release k) t r m = tt
  matches_old (Undo k) t r m = tt
  matches_old Misformed t r m = tt

-- ---- the cells behind an entry

module _ (ρ : Rules) (ns : List ℕ) where
  -- a set is of a cell that there is
  abbrev SetsCell : Entry → Type 0
  SetsCell (Set g c o v) = IsCell ρ ns g c
  SetsCell (Open k) = Unit {0}
  SetsCell (Release k) = Unit {0}
  SetsCell (Undo k) = Unit {0}
  SetsCell Misformed = Unit {0}

  abbrev SetCells : List Entry → Type 0
  SetCells [] = Unit {0}
  SetCells (e ∷ es) = SetsCell e × SetCells es

  right_sets : (d : ℕ) (e : Entry) → RightEntry ρ ns d e → SetsCell e
  right_sets d (Set g c o v) h = h
  right_sets d (Open k) h = tt
  right_sets d (Release k) h = tt
  right_sets d (Undo k) h = tt
  right_sets d Misformed h = tt

  sets_more : (es : List Entry) (e : Entry) → SetCells es → SetsCell e → SetCells (es ++ (e ∷ []))
  sets_more [] e h k = (k, tt)
  sets_more (x ∷ es) e h k = (h.0, sets_more es e h.1 k)

  sets_drop : (m : ℕ) (es : List Entry) → SetCells es → SetCells (drop m es)
  sets_drop zero es h = h
  sets_drop (suc m) [] h = tt
  sets_drop (suc m) (e ∷ es) h = sets_drop m es h.1

  first_old_lem : (es : List Entry) (i : ℕ) (z : ℤ) → SetCells es → first_back (starts_of ρ ns) es i z ≡ first_old ρ ns es i z
  unfolding first_back first_old
  first_old_lem [] i z h = refl
  first_old_lem (Set g c o v ∷ es) i z h = rw (spot_at ρ ns g c h.0) (ap (cond (eqb (cell_place ρ ns g c) i) o) (first_old_lem es i z h.1))
  first_old_lem (Open k ∷ es) i z h = first_old_lem es i z h.1
  first_old_lem (Release k ∷ es) i z h = first_old_lem es i z h.1
  first_old_lem (Undo k ∷ es) i z h = first_old_lem es i z h.1
  first_old_lem (Misformed ∷ es) i z h = first_old_lem es i z h.1

  -- R515: giving old values back, the last first, leaves in each cell that of the first set of it
  pub restore_undone : (es : List Entry) (t : List ℤ) → SetCells es → restore (starts_of ρ ns) es t ≡ undone ρ ns es t
  unfolding undone
  restore_undone es t h =
      let f : ℕ → ℤ = λ i. first_old ρ ns es i (get_or t i (pos 0)) in
      let a : length (restore (starts_of ρ ns) es t) ≡ length t = length_restore (starts_of ρ ns) es t in
      let b : length (map f (up_from 0 (length t))) ≡ length t = length-map (up_from 0 (length t)) f ∙ length_up 0 (length t) in
      ext_get_or (pos 0) (restore (starts_of ρ ns) es t) (map f (up_from 0 (length t))) (a ∙ sym b)
      (λ i l. restore_cell (starts_of ρ ns) es t i (omega arith) ∙ first_old_lem es i (get_or t i (pos 0)) h
      ∙ sym (get_d_map_up f 0 (length t) i (pos 0) (omega arith) ∙ ap f (zero-add i)))

-- the fields before a place: how many, that their sets are of cells, and that no mark is past them
pub record Before (ρ : Rules) (ns s : List ℕ) (p n : ℕ) (ms : List ℕ) : Type 0 where
  pub ends : place_at s 0 n ≡ p
  pub sets : SetCells ρ ns (entries_at s 0 n)
  pub below : AllBelow ms n

module _ (ρ : Rules) (ns s : List ℕ) where
  pub before_none : Before ρ ns s 0 0 []
  unfolding place_at entries_at
  before_none = record { ends = refl; sets = tt; below = none_below }

  pub before_more : (p n : ℕ) (ms : List ℕ) → Before ρ ns s p n ms → RightEntry ρ ns (length ms) (field_at s p) → Before ρ ns s (next_at s p) (n + 1) (mark_step (field_at s p) n ms)
  before_more p n ms b r =
      record {
        ends = place_next s 0 n ∙ ap (next_at s) b.ends;
        sets = subst (SetCells ρ ns) (sym (entries_one s n ∙ ap (λ q. entries_at s 0 n ++ (field_at s q ∷ [])) b.ends))
            (sets_more ρ ns (entries_at s 0 n) (field_at s p) b.sets (right_sets ρ ns (length ms) (field_at s p) r));
        below = step_below (field_at s p) n ms b.below;
      }

  -- what a replay computes is what is said
  pub played_behind : {p n : ℕ} {ms : List ℕ} (e : Entry) (t : List ℤ) → Before ρ ns s p n ms → RightEntry ρ ns (length ms) e → played_by (starts_of ρ ns) e s n ms t ≡ cells_behind ρ ns s n ms e t
  played_behind (Set g c o v) t b r = ap (λ q. put_at q v t) (spot_at ρ ns g c r)
  played_behind (Open k) t b r = refl
  played_behind (Release k) t b r = refl
  played_behind {n = n} {ms = ms} (Undo k) t b r =
      let m = mark_of ms k in
      ap (λ l. restore (starts_of ρ ns) l t) (entries_from s m n (b.below (length ms - k)))
      ∙ restore_undone ρ ns (drop m (entries_at s 0 n)) t (sets_drop ρ ns m (entries_at s 0 n) b.sets)
  played_behind Misformed t b r = refl

-- ---- steps, up to where none is right

pub record Stops (S : Type 0) (right : S → Type 0) (next : S → S) (x y : S) : Type 0 where
  pub goes : Goes S right next x y
  pub stuck : right y → ⊥

module _ {S : Type 0} {right : S → Type 0} {next : S → S} where
  stops_here : (x : S) → (right x → ⊥) → Stops S right next x x
  stops_here x n = record { goes = here; stuck = n }

  stops_on : {y : S} (x : S) → right x → Stops S right next (next x) y → Stops S right next x y
  stops_on x r h = record { goes = on r h.goes; stuck = h.stuck }

  -- there is one such place
  pub goes_one : {x y z : S} → Goes S right next x y → (right y → ⊥) → Goes S right next x z → (right z → ⊥) → y ≡ z
  goes_one here n here m = refl
  goes_one here n (on r g) m = absurd (n r)
  goes_one (on r g) n here m = absurd (m r)
  goes_one (on r g) n (on q h) m = goes_one g n h m

module _ (ρ : Rules) (ns s : List ℕ) where
  abbrev ps : List ℕ
  ps = starts_of ρ ns

  pub past : (p d : ℕ) → length s ≤ p → RightEntry ρ ns d (field_at s p) → ⊥
  past p d h r = subst (RightEntry ρ ns d) (ap entry_in (drop_of_length-le s {i = p} h) ∙ no_field) r

  abbrev WalkStops : Walked → Walked → Type 0
  WalkStops = Stops Walked (RightAt ρ ns s) (walked_to ρ ns s)

  walk_stops : (f p n : ℕ) (ms : List ℕ) → length s ≤ p + f → WalkStops (walked p n ms) (walk_from f ps s p n ms)
  unfolding walk_from
  walk_stops zero p n ms h = stops_here (walked p n ms) (past p (length ms) (omega arith))
  walk_stops (suc f) p n ms h =
      let e = field_at s p in
      let w = walked p n ms in
      cond_elim (WalkStops w) (ltb p (length s))
      (λ lo. cond_elim (WalkStops w) (ok_entry ps e (length ms))
      (λ ok. stops_on w (right_entry ρ ns (length ms) e ok) (walk_stops f (next_at s p) (n + 1) (mark_step e n ms) (omega (arith, ok_size ps (length ms) e ok))))
      (λ ok. stops_here w (λ r. true≢false (sym (entry_right ρ ns (length ms) e r) ∙ ok))))
      (λ lo. stops_here w (past p (length ms) (ltb-false p (length s) lo)))

  pub walk_ends : WalkStops (walked 0 0 []) (walk_of ps s)
  unfolding walk_of
  walk_ends = walk_stops (length s) 0 0 [] (omega arith)

  pub walk_only : (w : Walked) → InOrder ρ ns s w → (RightAt ρ ns s w → ⊥) → w ≡ walk_of ps s
  walk_only w g n = goes_one g n walk_ends.goes walk_ends.stuck

  -- fields in order stand before where they lead
  goes_before : {x y : Walked} → Goes Walked (RightAt ρ ns s) (walked_to ρ ns s) x y → Before ρ ns s x.place x.count x.marks → Before ρ ns s y.place y.count y.marks
  goes_before here b = b
  goes_before {x} (on r g) b = goes_before g (before_more ρ ns s x.place x.count x.marks b r)

  pub order_before : (w : Walked) → InOrder ρ ns s w → Before ρ ns s w.place w.count w.marks
  order_before w g = goes_before g (before_none ρ ns s)

  abbrev PlayStops : Played → Played → Type 0
  PlayStops = Stops Played (PlaysAt ρ ns s) (played_to ρ ns s)

  play_stops : (f p n : ℕ) (ms : List ℕ) (t : List ℤ) → length s ≤ p + f → Before ρ ns s p n ms → PlayStops (played p n ms t) (play_from f ps s p n ms t)
  unfolding play_from
  play_stops zero p n ms t h b = stops_here (played p n ms t) (λ r. past p (length ms) (omega arith) r.0)
  play_stops (suc f) p n ms t h b =
      let e = field_at s p in
      let x = played p n ms t in
      cond_elim (PlayStops x) (ltb p (length s))
      (λ lo. cond_elim (PlayStops x) (ok_entry ps e (length ms))
      (λ ok.
      let right = right_entry ρ ns (length ms) e ok in
      cond_elim (PlayStops x) (matches ps e t)
      (λ m. stops_on x (right, matches_old ρ ns (length ms) e t right m)
      (subst (λ u. PlayStops (played (next_at s p) (n + 1) (mark_step e n ms) u) (play_from f ps s (next_at s p) (n + 1) (mark_step e n ms) (played_by ps e s n ms t)))
      (played_behind ρ ns s e t b right)
      (play_stops f (next_at s p) (n + 1) (mark_step e n ms) (played_by ps e s n ms t) (omega (arith, ok_size ps (length ms) e ok)) (before_more ρ ns s p n ms b right))))
      (λ m. stops_here x (λ r. true≢false (sym (old_matches ρ ns (length ms) e t r.0 r.1) ∙ m))))
      (λ ok. stops_here x (λ r. true≢false (sym (entry_right ρ ns (length ms) e r.0) ∙ ok))))
      (λ lo. stops_here x (λ r. past p (length ms) (ltb-false p (length s) lo) r.0))

  pub play_ends : (t : List ℤ) → PlayStops (played 0 0 [] t) (play_of ps s t)
  unfolding play_of
  play_ends t = play_stops (length s) 0 0 [] t (omega arith) (before_none ρ ns s)

  pub play_only : (t : List ℤ) (x : Played) → InReplay ρ ns s t x → (PlaysAt ρ ns s x → ⊥) → x ≡ play_of ps s t
  play_only t x g n = goes_one g n (play_ends t).goes (play_ends t).stuck
