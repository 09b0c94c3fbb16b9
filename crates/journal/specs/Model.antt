-- R510 to R518, what the calls mean: a plain stack of whole tables, the cells now and those at each opening. No journal occurs here but as the
-- room that is left in it.
use Rattle.std.specs.Prelude.{Bool, cond, ◌&&◌, List, [], ◌∷◌, ℕ, ◌+◌, ◌-◌, leb, ltb, eqb, ℤ, length, get_or, drop, Result, Ok, Err}
use Rattle.rules.specs.declared.Rules.{Rules}
use Rattle.count.specs.Check.{checked_of}
use Rattle.reply.specs.declared.Refusal.{Refusal}
use Rattle.reply.specs.declared.Refusal.TheVariants.{NoRoom, NoSuchNumber, NotOpen, AllOpen}
use Rattle.entry.specs.Field.{set_bytes, savepoint_bytes}
use Rattle.journal.specs.Layout.{starts_of, spot_of, exists, put_at}

-- R510: set a cell of a group, open a savepoint, release one, undo to one; the numbers are the caller's
pub data Call : Type 0 where
  Sets : (g c : ℕ) → ℤ → Call
  Opens : Call
  Releases : ℕ → Call
  Undoes : ℕ → Call

-- ---- which calls are accepted, with d savepoints open

-- R512 there is such a cell; R513 fewer than 16 are open; R514 it is the innermost; R515 it is open
abbrev pub accepts : List ℕ → Call → ℕ → Bool
accepts starts (Sets g c v) d = exists (spot_of starts g c)
accepts starts Opens d = ltb d 16
accepts starts (Releases k) d = ltb 0 k && eqb k d
accepts starts (Undoes k) d = ltb 0 k && leb k d

-- R550: 12, 16 or 15 where it is not
abbrev pub refusal_of : Call → Refusal
refusal_of (Sets g c v) = NoSuchNumber
refusal_of Opens = AllOpen
refusal_of (Releases k) = NotOpen
refusal_of (Undoes k) = NotOpen

-- R520: the bytes of its field
abbrev pub bytes_for : Call → ℕ
bytes_for (Sets g c v) = set_bytes
bytes_for Opens = savepoint_bytes
bytes_for (Releases k) = savepoint_bytes
bytes_for (Undoes k) = savepoint_bytes

-- R511, R516: an open tells its savepoint's number, one more than were open; the others tell 0
abbrev pub number_for : Call → ℕ → ℕ
number_for (Sets g c v) d = 0
number_for Opens d = d + 1
number_for (Releases k) d = 0
number_for (Undoes k) d = 0

-- R550: last of all, 11 where the field finds no room
abbrev pub room_for : (size room number : ℕ) → Result ℕ Refusal
room_for size room number = cond (ltb room size) (Err NoRoom) (Ok number)

abbrev pub decided : List ℕ → Call → (d room : ℕ) → Result ℕ Refusal
decided starts c d room = cond (accepts starts c d) (room_for (bytes_for c) room (number_for c d)) (Err (refusal_of c))

-- first of all, what counts and table are refused with
abbrev pub when_right : Result (Unit {0}) Refusal → Result ℕ Refusal → Result ℕ Refusal
when_right (Ok done) a = a
when_right (Err r) a = Err r

-- what is left by a call that is done, and else what was (R518)
abbrev pub by_answer : {A : Type 0} → Result ℕ Refusal → A → A → A
by_answer (Ok n) new old = new
by_answer (Err r) new old = old

-- ---- the stack of whole tables: the cells now, those at each opening, innermost first; and the bytes left in the journal

pub record Stack : Type 0 where
  pub cells : List ℤ
  pub saved : List (List ℤ)
  pub room : ℕ

abbrev pub stacked : List ℤ → List (List ℤ) → ℕ → Stack
stacked t ts room = record { cells = t; saved = ts; room = room }

-- those that remain when k are open
abbrev pub outer : {A : Type 0} → ℕ → List A → List A
outer k ts = drop (length ts - k) ts

abbrev pub on_tables : List ℕ → Call → Stack → (room : ℕ) → Stack
on_tables starts (Sets g c v) s room = stacked (put_at (spot_of starts g c) v s.cells) s.saved room
on_tables starts Opens s room = stacked s.cells (s.cells ∷ s.saved) room
on_tables starts (Releases k) s room = stacked s.cells (drop 1 s.saved) room
on_tables starts (Undoes k) s room = stacked (get_or s.saved (length s.saved - k) []) (outer k s.saved) room

abbrev pub on_stack : List ℕ → Call → Stack → Stack
on_stack starts c s = on_tables starts c s (s.room - bytes_for c)

module _ (ρ : Rules) (ns : List ℕ) where
  abbrev pub model_answer : Call → Stack → Result ℕ Refusal
  model_answer c s = when_right (checked_of ρ ns (length s.cells)) (decided (starts_of ρ ns) c (length s.saved) s.room)

  abbrev pub model_step : Call → Stack → Stack
  model_step c s = by_answer (model_answer c s) (on_stack (starts_of ρ ns) c s) s

  -- any calls, one after the other: what is answered, and what is left
  abbrev pub model_answers : List Call → Stack → List (Result ℕ Refusal)
  model_answers [] s = []
  model_answers (c ∷ cs) s = model_answer c s ∷ model_answers cs (model_step c s)

  abbrev pub model_run : List Call → Stack → Stack
  model_run [] s = s
  model_run (c ∷ cs) s = model_run cs (model_step c s)
