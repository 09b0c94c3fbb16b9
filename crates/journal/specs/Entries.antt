-- R520 to R524: the entries of a journal, oldest first: the savepoints open behind them, what they give back, and the entries that bytes tell.
use Rattle.std.specs.Prelude.{List, [], ◌∷◌, ◌++◌, ℕ, zero, suc, ◌+◌, ◌-◌, ℤ, length, get_or, drop}
use Rattle.entry.specs.declared.Entry.{Entry}
use Rattle.entry.specs.declared.Entry.TheVariants.{Set, Open, Release, Undo, Misformed}
use Rattle.entry.specs.Field.{entry_text, entry_size, field_at}
use Rattle.journal.specs.Layout.{spot_of, put_at}
use Rattle.journal.specs.Model.{outer}

-- ---- marks: for each open savepoint, innermost first, how many entries stood before its own

abbrev pub mark_step : Entry → ℕ → List ℕ → List ℕ
mark_step (Set g c old new) i ms = ms
mark_step (Open k) i ms = i ∷ ms
mark_step (Release k) i ms = drop 1 ms
mark_step (Undo k) i ms = outer k ms
mark_step Misformed i ms = ms

unfoldable pub marks_from : List Entry → ℕ → List ℕ → List ℕ
marks_from [] i ms = ms
marks_from (e ∷ es) i ms = marks_from es (i + 1) (mark_step e i ms)

abbrev pub marks_of : List Entry → List ℕ
marks_of es = marks_from es 0 []

-- the mark of savepoint k
abbrev pub mark_of : List ℕ → ℕ → ℕ
mark_of ms k = get_or ms (length ms - k) 0

-- ---- giving back

-- a set gives its old value back
abbrev pub give_back : List ℕ → Entry → List ℤ → List ℤ
give_back starts (Set g c old new) t = put_at (spot_of starts g c) old t
give_back starts (Open k) t = t
give_back starts (Release k) t = t
give_back starts (Undo k) t = t
give_back starts Misformed t = t

-- all of them do, the last first
unfoldable pub restore : List ℕ → List Entry → List ℤ → List ℤ
restore starts [] t = t
restore starts (e ∷ es) t = give_back starts e (restore starts es t)

-- ---- the bytes of entries, and the entries of bytes

unfoldable pub journal_text : List Entry → List ℕ
journal_text [] = []
journal_text (e ∷ es) = entry_text e ++ journal_text es

abbrev pub next_at : List ℕ → ℕ → ℕ
next_at s p = p + entry_size (field_at s p)

-- n fields from a place on, and the place behind them
unfoldable pub entries_at : List ℕ → ℕ → ℕ → List Entry
entries_at s p zero = []
entries_at s p (suc n) = field_at s p ∷ entries_at s (next_at s p) n

unfoldable pub place_at : List ℕ → ℕ → ℕ → ℕ
place_at s p zero = p
place_at s p (suc n) = place_at s (next_at s p) n

-- R515: the fields from number m on, of n, give their old values back
abbrev pub back_to : List ℕ → List ℕ → ℕ → ℕ → List ℤ → List ℤ
back_to starts s m n t = restore starts (entries_at s (place_at s 0 m) (n - m)) t
