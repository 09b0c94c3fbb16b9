-- R512 to R515, R530 to R532, R540, R541 said plainly: fields in order, one behind the other, each a step that is right where it is taken; and where a journal
-- is at fault. What Walks and Plays compute is exactly this.
use Rattle.std.specs.Prelude.{◌≡◌, cond, List, [], ◌∷◌, map, ℕ, ◌+◌, ◌-◌, ◌<◌, ◌≤◌, eqb, ℤ, pos, length, get_or, set, drop}
use Rattle.rules.specs.declared.Rules.{Rules}
use Rattle.base.specs.Every.{up_from}
use Rattle.count.specs.Tally.{cells_before, cells_in}
use Rattle.entry.specs.declared.Entry.{Entry}
use Rattle.entry.specs.declared.Entry.TheVariants.{Set, Open, Release, Undo, Misformed}
use Rattle.entry.specs.Field.{field_at}
use Rattle.journal.specs.Model.{Call, Sets, Opens, Releases, Undoes}
use Rattle.journal.specs.Entries.{mark_step, mark_of, next_at, entries_at}
use Rattle.journal.specs.Walks.{Walked, walked}
use Rattle.journal.specs.Plays.{Played, played}

module _ (ρ : Rules) where
  -- R502: cell c, counted from 1, of a group 1 to 60, and where it stands in the table (R501)
  pub record IsCell (ns : List ℕ) (g c : ℕ) : Type 0 where
    pub low : 1 ≤ g
    pub high : g ≤ 60
    pub first : 1 ≤ c
    pub last : c ≤ cells_in ρ ns g

  abbrev pub cell_place : List ℕ → ℕ → ℕ → ℕ
  cell_place ns g c = cells_before ρ ns g + (c - 1)

  -- R512, R513, R514, R515: a call is accepted with so many savepoints open
  abbrev pub Accepted : List ℕ → ℕ → Call → Type 0
  Accepted ns d (Sets g c v) = IsCell ns g c
  Accepted ns d Opens = d < 16
  Accepted ns d (Releases k) = (1 ≤ k) × (k ≡ d)
  Accepted ns d (Undoes k) = (1 ≤ k) × (k ≤ d)

  -- R531: the call of an entry is accepted, and an open is numbered next; what is misformed, or behind the last byte, is right nowhere (R523)
  abbrev pub RightEntry : List ℕ → ℕ → Entry → Type 0
  RightEntry ns d (Set g c old new) = Accepted ns d (Sets g c new)
  RightEntry ns d (Open k) = Accepted ns d Opens × (k ≡ d + 1)
  RightEntry ns d (Release k) = Accepted ns d (Releases k)
  RightEntry ns d (Undo k) = Accepted ns d (Undoes k)
  RightEntry ns d Misformed = ⊥

  -- R541: a set's old value is the cell's
  abbrev pub OldIs : List ℕ → Entry → List ℤ → Type 0
  OldIs ns (Set g c old new) t = get_or t (cell_place ns g c) (pos 0) ≡ old
  OldIs ns (Open k) t = Unit {0}
  OldIs ns (Release k) t = Unit {0}
  OldIs ns (Undo k) t = Unit {0}
  OldIs ns Misformed t = Unit {0}

  -- ---- the cells behind an entry

  -- R515: the old value of the first set of the table's cell i among these entries, and z where there is none
  unfoldable pub first_old : List ℕ → List Entry → ℕ → ℤ → ℤ
  first_old ns [] i z = z
  first_old ns (Set g c old new ∷ es) i z = cond (eqb (cell_place ns g c) i) old (first_old ns es i z)
  first_old ns (Open k ∷ es) i z = first_old ns es i z
  first_old ns (Release k ∷ es) i z = first_old ns es i z
  first_old ns (Undo k ∷ es) i z = first_old ns es i z
  first_old ns (Misformed ∷ es) i z = first_old ns es i z

  -- every cell has that value, or what it had
  unfoldable pub undone : List ℕ → List Entry → List ℤ → List ℤ
  undone ns es t = map (λ i. first_old ns es i (get_or t i (pos 0))) (up_from 0 (length t))

  -- R512 to R515: with n fields of s before it and the marks ms; a set alters its own cell, an undo those that were set behind its savepoint's mark
  abbrev pub cells_behind : (ns s : List ℕ) (n : ℕ) (ms : List ℕ) → Entry → List ℤ → List ℤ
  cells_behind ns s n ms (Set g c old new) t = set t (cell_place ns g c) new
  cells_behind ns s n ms (Open k) t = t
  cells_behind ns s n ms (Release k) t = t
  cells_behind ns s n ms (Undo k) t = undone ns (drop (mark_of ms k) (entries_at s 0 n)) t
  cells_behind ns s n ms Misformed t = t

-- steps from one state to another, each of them right
pub data Goes (S : Type 0) (right : S → Type 0) (next : S → S) : S → S → Type 0 where
  here : {x : S} → Goes S right next x x
  on : {x y : S} → right x → Goes S right next (next x) y → Goes S right next x y

-- ---- fields in order: a place, how many fields stand before it, and the savepoints open there, each by the number of fields before its own

module _ (ρ : Rules) (ns s : List ℕ) where
  abbrev pub RightAt : Walked → Type 0
  RightAt w = RightEntry ρ ns (length w.marks) (field_at s w.place)

  abbrev pub walked_to : Walked → Walked
  walked_to w = walked (next_at s w.place) (w.count + 1) (mark_step (field_at s w.place) w.count w.marks)

  -- the fields of s are in order from the first on up to there
  abbrev pub InOrder : Walked → Type 0
  InOrder w = Goes Walked RightAt walked_to (walked 0 0 []) w

  -- ---- in a replay: the cells too, and each set finds its old value in its cell

  abbrev pub PlaysAt : Played → Type 0
  PlaysAt r = RightEntry ρ ns (length r.marks) (field_at s r.place) × OldIs ρ ns (field_at s r.place) r.cells

  abbrev pub played_to : Played → Played
  played_to r =
      played (next_at s r.place) (r.count + 1) (mark_step (field_at s r.place) r.count r.marks)
      (cells_behind ρ ns s r.count r.marks (field_at s r.place) r.cells)

  abbrev pub InReplay : List ℤ → Played → Type 0
  InReplay t r = Goes Played PlaysAt played_to (played 0 0 [] t) r
