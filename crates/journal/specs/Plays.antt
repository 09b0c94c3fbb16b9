-- R540 to R543: replay over a table, field by field, with no stack of tables: an undo goes back over the bytes.
use Rattle.std.specs.Prelude.{◌≡◌, Bool, true, false, cond, List, [], ℕ, zero, suc, ◌+◌, ◌≤◌, ltb, eqb, ℤ, pos, negsuc, length, take, Result, Ok, Err}
use Rattle.rules.specs.declared.Rules.{Rules}
use Rattle.count.specs.Check.{checked_of, and_then}
use Rattle.entry.specs.declared.Entry.{Entry}
use Rattle.entry.specs.declared.Entry.TheVariants.{Set, Open, Release, Undo, Misformed}
use Rattle.entry.specs.Field.{field_at}
use Rattle.journal.specs.declared.State.{State}
use Rattle.journal.specs.Layout.{starts_of, spot_of, get_at, put_at}
use Rattle.journal.specs.Entries.{mark_step, mark_of, next_at, back_to}
use Rattle.journal.specs.Walks.{ok_entry, down}
use Rattle.journal.specs.Calls.{whole}
use Rattle.reply.specs.declared.Refusal.{Refusal}

abbrev pub same_cell : ℤ → ℤ → Bool
same_cell (pos m) (pos n) = eqb m n
same_cell (pos m) (negsuc n) = false
same_cell (negsuc m) (pos n) = false
same_cell (negsuc m) (negsuc n) = eqb m n

-- R541: a set's old value is the cell's
abbrev pub matches : List ℕ → Entry → List ℤ → Bool
matches starts (Set g c old new) t = same_cell (get_at (spot_of starts g c) t) old
matches starts (Open k) t = true
matches starts (Release k) t = true
matches starts (Undo k) t = true
matches starts Misformed t = true

-- the cells behind an entry, with n entries and the marks ms before it
abbrev pub played_by : List ℕ → Entry → List ℕ → ℕ → List ℕ → List ℤ → List ℤ
played_by starts (Set g c old new) s n ms t = put_at (spot_of starts g c) new t
played_by starts (Open k) s n ms t = t
played_by starts (Release k) s n ms t = t
played_by starts (Undo k) s n ms t = back_to starts s (mark_of ms k) n t
played_by starts Misformed s n ms t = t

pub record Played : Type 0 where
  pub place : ℕ
  pub count : ℕ
  pub marks : List ℕ
  pub cells : List ℤ

abbrev pub played : ℕ → ℕ → List ℕ → List ℤ → Played
played p n ms t = record { place = p; count = n; marks = ms; cells = t }

unfoldable pub play_from : ℕ → List ℕ → List ℕ → ℕ → ℕ → List ℕ → List ℤ → Played
play_from zero starts s p n ms t = played p n ms t
play_from (suc f) starts s p n ms t =
    cond (ltb p (length s))
    (cond (ok_entry starts (field_at s p) (length ms))
    (cond (matches starts (field_at s p) t) (play_from f starts s (next_at s p) (n + 1) (mark_step (field_at s p) n ms) (played_by starts (field_at s p) s n ms t)) (played p n ms t))
    (played p n ms t))
    (played p n ms t)

unfoldable pub play_of : List ℕ → List ℕ → List ℤ → Played
play_of starts s t = play_from (length s) starts s 0 0 [] t

-- ---- the question

abbrev pub by_checked : {A : Type 0} → Result (Unit {0}) Refusal → A → A → A
by_checked (Ok done) new old = new
by_checked (Err r) new old = old

module _ (ρ : Rules) (ns j : List ℕ) (used : ℕ) where
  abbrev pub play_in : List ℤ → Played
  play_in t = play_of (starts_of ρ ns) (take used j) t

  -- R540: 4, 5, 6, 7, 14, and then 17
  unfoldable pub replay_of : List ℤ → Result (Unit {0}) Refusal
  replay_of t = and_then (checked_of ρ ns (length t)) (whole (play_in t).place used)

  -- R542: the cells and the open savepoints behind a replay; a refused one leaves the cells as they were
  abbrev pub replayed_cells : List ℤ → Result (Unit {0}) Refusal → List ℤ
  replayed_cells t r = by_checked r (play_in t).cells t

  abbrev pub replayed_open : List ℤ → Result (Unit {0}) Refusal → ℕ
  replayed_open t r = by_checked r (length (play_in t).marks) 0

-- ---- the same with the marks in an array

pub record Plays (starts s : List ℕ) (t : List ℤ) (r : State) (t' : List ℤ) : Type 0 where
  pub found : played r.place r.count (down r.depth r.marks) t' ≡ play_of starts s t
  pub within : r.place ≤ length s
