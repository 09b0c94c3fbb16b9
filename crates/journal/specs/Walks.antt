-- R530 to R532: a journal's fields one after the other: how far they are in order, how many they are, and the savepoints open there.
use Rattle.std.specs.Prelude.{◌≡◌, Bool, false, cond, ◌&&◌, List, [], ◌∷◌, ℕ, zero, suc, ◌+◌, ◌-◌, ◌≤◌, ◌<◌, ltb, eqb, length, get_or, set, Option, Some, None}
use Rattle.entry.specs.declared.Entry.{Entry}
use Rattle.entry.specs.declared.Entry.TheVariants.{Set, Open, Release, Undo, Misformed}
use Rattle.entry.specs.Field.{field_at}
use Rattle.journal.specs.declared.State.{State}
use Rattle.journal.specs.Model.{Sets, Opens, Releases, Undoes, accepts}
use Rattle.journal.specs.Entries.{mark_step, next_at}

-- R531: the call of an entry would be accepted with d savepoints open, and an open is numbered next
abbrev pub ok_entry : List ℕ → Entry → ℕ → Bool
ok_entry starts (Set g c old new) d = accepts starts (Sets g c new) d
ok_entry starts (Open k) d = accepts starts Opens d && eqb k (d + 1)
ok_entry starts (Release k) d = accepts starts (Releases k) d
ok_entry starts (Undo k) d = accepts starts (Undoes k) d
ok_entry starts Misformed d = false

-- the savepoints open behind it
abbrev pub new_depth : Entry → ℕ → ℕ
new_depth (Set g c old new) d = d
new_depth (Open k) d = d + 1
new_depth (Release k) d = d - 1
new_depth (Undo k) d = k
new_depth Misformed d = d

-- or none, where it is not accepted
abbrev pub depth_after : List ℕ → Entry → ℕ → Option ℕ
depth_after starts e d = cond (ok_entry starts e d) (Some (new_depth e d)) None

pub record Walked : Type 0 where
  pub place : ℕ
  pub count : ℕ
  pub marks : List ℕ

abbrev pub walked : ℕ → ℕ → List ℕ → Walked
walked p n ms = record { place = p; count = n; marks = ms }

-- from the place p on, with n fields and the marks ms behind; at most f fields more
unfoldable pub walk_from : ℕ → List ℕ → List ℕ → ℕ → ℕ → List ℕ → Walked
walk_from zero starts s p n ms = walked p n ms
walk_from (suc f) starts s p n ms =
    cond (ltb p (length s))
    (cond (ok_entry starts (field_at s p) (length ms)) (walk_from f starts s (next_at s p) (n + 1) (mark_step (field_at s p) n ms)) (walked p n ms))
    (walked p n ms)

-- no field takes less than a byte
unfoldable pub walk_of : List ℕ → List ℕ → Walked
walk_of starts s = walk_from (length s) starts s 0 0 []

-- ---- the same with the marks in an array

-- the first d of the numbers, the last first
abbrev pub down : ℕ → List ℕ → List ℕ
down zero a = []
down (suc d) a = get_or a d 0 ∷ down d a

-- the field at a state's place, and the savepoints open behind it; none where it is not accepted
abbrev pub next_field : (starts s : List ℕ) → State → Option (Entry × ℕ)
next_field starts s r = cond (ok_entry starts (field_at s r.place) r.depth) (Some (field_at s r.place, new_depth (field_at s r.place) r.depth)) None

-- behind one field more, of so many bytes, and so many savepoints open there
abbrev pub passed : State → (size depth : ℕ) → State
passed r size depth = record { place = r.place + size; count = r.count + 1; depth = depth; marks = set r.marks r.depth r.count }

-- no mark is past n fields
abbrev pub MarksBelow : ℕ → List ℕ → ℕ → Type 0
MarksBelow d marks n = (j : ℕ) → j < d → get_or marks j 0 ≤ n

pub record WalksTo (starts s : List ℕ) (r : State) : Type 0 where
  pub found : walked r.place r.count (down r.depth r.marks) ≡ walk_of starts s
  pub small : r.depth ≤ 16
  pub within : r.place ≤ length s
  pub below : MarksBelow r.depth r.marks r.count
