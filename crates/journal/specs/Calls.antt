-- R510 to R518, R530 to R532, R550: what a call replies and leaves, from the counts, the cells, the journal's bytes and how many are used.
use Rattle.std.specs.Prelude.{◌≡◌, cond, List, ℕ, ◌+◌, ◌-◌, ◌≤◌, eqb, ℤ, length, take, Result, Ok, Err}
use Rattle.rules.specs.declared.Rules.{Rules}
use Rattle.base.specs.Part.{over}
use Rattle.count.specs.Check.{checked_of, and_then}
use Rattle.reply.specs.declared.Refusal.TheVariants.{BadEntry}
use Rattle.entry.specs.declared.Entry.{Entry}
use Rattle.entry.specs.declared.Entry.TheVariants.{Set, Open, Release, Undo}
use Rattle.entry.specs.Field.{entry_text}
use Rattle.journal.specs.declared.Looked.{Looked}
use Rattle.journal.specs.Layout.{starts_of, spot_of, get_at, put_at}
use Rattle.journal.specs.Model.{Call, Sets, Opens, Releases, Undoes, decided, when_right, by_answer, bytes_for}
use Rattle.journal.specs.Entries.{mark_of, back_to}
use Rattle.journal.specs.Walks.{Walked, walk_of, down, MarksBelow}
use Rattle.reply.specs.declared.Refusal.{Refusal}

-- R530: 17 with the place where a walk stopped, unless that is the end of the bytes used; R532: a walk never comes to an end beyond the buffer
abbrev pub whole : ℕ → ℕ → Result (Unit {0}) Refusal
whole place used = cond (eqb place used) (Ok tt) (Err (BadEntry place))

-- what a field tells of a call that is accepted with d open
abbrev pub entry_for : List ℕ → Call → ℕ → List ℤ → Entry
entry_for starts (Sets g c v) d t = Set g c (get_at (spot_of starts g c) t) v
entry_for starts Opens d t = Open (d + 1)
entry_for starts (Releases k) d t = Release k
entry_for starts (Undoes k) d t = Undo k

-- the cells behind it, where the bytes s were used before
abbrev pub cells_for : List ℕ → Call → List ℕ → Walked → List ℤ → List ℤ
cells_for starts (Sets g c v) s w t = put_at (spot_of starts g c) v t
cells_for starts Opens s w t = t
cells_for starts (Releases k) s w t = t
cells_for starts (Undoes k) s w t = back_to starts s (mark_of w.marks k) w.count t

module _ (ρ : Rules) (ns j : List ℕ) (used : ℕ) where
  -- the walk over the bytes used, or over all of the buffer
  abbrev pub walk_in : Walked
  walk_in = walk_of (starts_of ρ ns) (take used j)

  -- R550: 4, 5, 6, 7, 14, and then 17
  unfoldable pub standing_of : ℕ → Result (Unit {0}) Refusal
  standing_of cells = and_then (checked_of ρ ns cells) (whole walk_in.place used)

  -- and then 12, 15, 16, 11
  unfoldable pub answer_of : ℕ → Call → Result ℕ Refusal
  answer_of cells c = when_right (standing_of cells) (decided (starts_of ρ ns) c (length walk_in.marks) (length j - used))

  -- R518: cells, journal and bytes used are left as they were by a refused call
  abbrev pub cells_after : Call → List ℤ → Result ℕ Refusal → List ℤ
  cells_after c t a = by_answer a (cells_for (starts_of ρ ns) c (take used j) walk_in t) t

  -- R520: the field behind the bytes used; what stands further on is kept
  abbrev pub journal_by : Call → List ℤ → Result ℕ Refusal → List ℕ
  journal_by c t a = by_answer a (over used (entry_text (entry_for (starts_of ρ ns) c (length walk_in.marks) t)) j) j

abbrev pub used_by : ℕ → Call → Result ℕ Refusal → ℕ
used_by used c a = by_answer a (used + bytes_for c) used

-- ---- the same with the marks in an array

module _ (ρ : Rules) where
  -- a call that is not refused before it is looked at itself
  pub record Stood (ns j : List ℕ) (used cells : ℕ) (r : Looked) : Type 0 where
    pub stands : standing_of ρ ns j used cells ≡ Ok tt
    pub starts : r.starts ≡ starts_of ρ ns
    pub count : (walk_in ρ ns j used).count ≡ r.state.count
    pub marks : (walk_in ρ ns j used).marks ≡ down r.state.depth r.state.marks
    pub few : r.state.depth ≤ 16
    pub below : MarksBelow r.state.depth r.state.marks r.state.count
    pub inside : used ≤ length j

  abbrev pub Finds : (ns j : List ℕ) (used cells : ℕ) → Result Looked Refusal → Type 0
  Finds ns j used cells (Ok r) = Stood ns j used cells r
  Finds ns j used cells (Err why) = standing_of ρ ns j used cells ≡ Err why
