-- R233, R550: when each reply of a call and of a replay is due: its own condition holds, and none earlier in the order 4, 5, 6, 7, 14, 17, 12, 15,
-- 16, 11. And what is due to be left: the bytes used, the cells, the journal, a replay's open savepoints.
use Rattle.std.specs.Prelude.{◌≡◌, List, ℕ, ◌+◌, ◌<◌, ◌≤◌, ℤ, pos, length, take, get_or, Result, Ok, Err}
use Rattle.rules.specs.declared.Rules.{Rules}
use Rattle.reply.specs.declared.Refusal.{Refusal}
use Rattle.reply.specs.declared.Refusal.TheVariants.{NoRoom, BadEntry}
use Rattle.count.specs.Due as Counts
use Rattle.entry.specs.declared.Entry.{Entry}
use Rattle.entry.specs.declared.Entry.TheVariants.{Set, Open, Release, Undo}
use Rattle.journal.specs.Model.{Call, Sets, Opens, Releases, Undoes, refusal_of, bytes_for, number_for}
use Rattle.journal.specs.Walks.{Walked}
use Rattle.journal.specs.Plays.{Played}
use Rattle.journal.specs.Order.{cell_place, Accepted, cells_behind, RightAt, InOrder, PlaysAt, InReplay}
use Rattle.journal.specs.Runs.{Kept, Adds}

-- ---- where fields end to be in order; `right` says that a right field stands in a state

module _ (S : Type 0) (place : S → ℕ) (goes right : S → Type 0) (used : ℕ) where
  -- up to the end of the bytes used
  pub record AllUsed (x : S) : Type 0 where
    pub fields : goes x
    pub ends : place x ≡ used

  -- R530, R532: up to p, where the bytes used don't end and no right field stands
  pub record Faulty (p : ℕ) : Type 0 where
    pub before : S
    pub fields : goes before
    pub stops : place before ≡ p
    pub other : p ≡ used → ⊥
    pub fault : right before → ⊥

-- ---- the answer of a call

module _ (ρ : Rules) (ns j : List ℕ) (used : ℕ) where
  abbrev pub AllInOrder : Walked → Type 0
  AllInOrder = AllUsed Walked (λ w. w.place) (InOrder ρ ns (take used j)) (RightAt ρ ns (take used j)) used

  abbrev pub AtFault : ℕ → Type 0
  AtFault = Faulty Walked (λ w. w.place) (InOrder ρ ns (take used j)) (RightAt ρ ns (take used j)) used

module _ (ρ : Rules) (ns j : List ℕ) (used cells : ℕ) where
  -- none of 4, 5, 6, 7, 14 and 17, with w behind the last field
  pub record Standing (w : Walked) : Type 0 where
    pub table : Counts.HasCells ρ ns cells
    pub fields : AllInOrder ρ ns j used w

  pub data RefusedFor (c : Call) : Refusal → Type 0 where
    wrong_counts : (r : Refusal) → Counts.RefusedFor ρ ns cells r → RefusedFor c r
    bad_entry : (p : ℕ) → Counts.HasCells ρ ns cells → AtFault ρ ns j used p → RefusedFor c (BadEntry p)
    unaccepted : (w : Walked) → Standing w → (Accepted ρ ns (length w.marks) c → ⊥) → RefusedFor c (refusal_of c)
    no_room : (w : Walked) → Standing w → Accepted ρ ns (length w.marks) c → length j < used + bytes_for c → RefusedFor c NoRoom

  pub record CallDue (c : Call) (k : ℕ) : Type 0 where
    pub last : Walked
    pub standing : Standing last
    pub accepted : Accepted ρ ns (length last.marks) c
    pub room : used + bytes_for c ≤ length j
    pub number : k ≡ number_for c (length last.marks)

  abbrev pub Due : Call → Result ℕ Refusal → Type 0
  Due c (Ok k) = CallDue c k
  Due c (Err r) = RefusedFor c r

-- ---- what a call leaves

module _ (ρ : Rules) where
  -- R520, R521, R522: what its field tells, with d savepoints open before it
  abbrev pub field_for : List ℕ → ℕ → List ℤ → Call → Entry
  field_for ns d t (Sets g c v) = Set g c (get_or t (cell_place ρ ns g c) (pos 0)) v
  field_for ns d t Opens = Open (d + 1)
  field_for ns d t (Releases k) = Release k
  field_for ns d t (Undoes k) = Undo k

  -- R512 to R515, R520: its field behind the bytes used, and the cells behind such a field
  pub record CallLeaves (ns : List ℕ) (c : Call) (k k' : Kept) : Type 0 where
    pub last : Walked
    pub fields : AllInOrder ρ ns k.journal k.used last
    pub adds : Adds k (field_for ns (length last.marks) k.cells c) k'
    pub cells : k'.cells ≡ cells_behind ρ ns (take k.used k.journal) last.count last.marks (field_for ns (length last.marks) k.cells c) k.cells

  -- R518: a refused call leaves all as it was
  abbrev pub LeftDue : List ℕ → Call → Kept → Result ℕ Refusal → Kept → Type 0
  LeftDue ns c k (Ok n) k' = CallLeaves ns c k k'
  LeftDue ns c k (Err r) k' = k' ≡ k

-- ---- R540 to R542: a replay, which compares old values too

module _ (ρ : Rules) (ns j : List ℕ) (used : ℕ) (t : List ℤ) where
  abbrev pub AllReplayed : Played → Type 0
  AllReplayed = AllUsed Played (λ x. x.place) (InReplay ρ ns (take used j) t) (PlaysAt ρ ns (take used j)) used

  abbrev pub ReplayFault : ℕ → Type 0
  ReplayFault = Faulty Played (λ x. x.place) (InReplay ρ ns (take used j) t) (PlaysAt ρ ns (take used j)) used

  pub data ReplayRefusedFor : Refusal → Type 0 where
    replay_counts : (r : Refusal) → Counts.RefusedFor ρ ns (length t) r → ReplayRefusedFor r
    replay_entry : (p : ℕ) → Counts.HasCells ρ ns (length t) → ReplayFault p → ReplayRefusedFor (BadEntry p)

  pub record ReplayDone : Type 0 where
    pub table : Counts.HasCells ρ ns (length t)
    pub last : Played
    pub fields : AllReplayed last

  abbrev pub ReplayDue : Result (Unit {0}) Refusal → Type 0
  ReplayDue (Ok done) = ReplayDone
  ReplayDue (Err r) = ReplayRefusedFor r

  -- the cells, and how many savepoints are open, behind the last field
  pub record ReplayLeaves (t' : List ℤ) (d : ℕ) : Type 0 where
    pub last : Played
    pub fields : AllReplayed last
    pub cells : t' ≡ last.cells
    pub opened : d ≡ length last.marks

  abbrev pub ReplayLeftDue : Result (Unit {0}) Refusal → List ℤ → ℕ → Type 0
  ReplayLeftDue (Ok done) t' d = ReplayLeaves t' d
  ReplayLeftDue (Err r) t' d = (t' ≡ t) × (d ≡ 0)
