-- R520 to R523: a field of the edit journal: what is written for an entry, and the entry that bytes tell.
use Rattle.std.specs.Prelude.{cond, List, [], ◌++◌, ℕ, ltb, eqb, length, get_or, take, drop}
use Rattle.entry.specs.declared.Entry.{Entry}
use Rattle.entry.specs.declared.Entry.TheVariants.{Set, Open, Release, Undo, Misformed}
use Rattle.entry.specs.Bytes.{number_bytes, value_from, bits_of, cell_of}

-- ---- writing

-- R520: one byte of tag, two bytes of length, and the bytes that the length counts
abbrev pub tagged : ℕ → List ℕ → List ℕ
tagged tag body = number_bytes 1 tag ++ (number_bytes 2 (length body) ++ body)

-- R521: group, cell, old value, new value; R522: a savepoint's number
unfoldable pub entry_text : Entry → List ℕ
entry_text (Set g c old new) = tagged 1 (number_bytes 1 g ++ (number_bytes 2 c ++ (number_bytes 8 (bits_of old) ++ number_bytes 8 (bits_of new))))
entry_text (Open k) = tagged 2 (number_bytes 1 k)
entry_text (Release k) = tagged 3 (number_bytes 1 k)
entry_text (Undo k) = tagged 4 (number_bytes 1 k)
entry_text Misformed = []

-- the bytes of a set's field, and of a field with a savepoint's number: three, and those that its length counts
abbrev pub set_bytes : ℕ
set_bytes = 22

abbrev pub savepoint_bytes : ℕ
savepoint_bytes = 4

abbrev pub entry_size : Entry → ℕ
entry_size (Set g c old new) = set_bytes
entry_size (Open k) = savepoint_bytes
entry_size (Release k) = savepoint_bytes
entry_size (Undo k) = savepoint_bytes
entry_size Misformed = 0

-- ---- reading

abbrev pub numbered : ℕ → ℕ → Entry
numbered tag k = cond (eqb tag 2) (Open k) (cond (eqb tag 3) (Release k) (cond (eqb tag 4) (Undo k) Misformed))

-- a set's field, behind tag and length
abbrev pub set_of : List ℕ → Entry
set_of xs =
    Set (value_from 0 (take 1 (drop 3 xs))) (value_from 0 (take 2 (drop 4 xs))) (cell_of (value_from 0 (take 8 (drop 6 xs)))) (cell_of (value_from 0 (take 8 (drop 14 xs))))

-- R523: the field with which bytes begin: tag 1 with length 19, or one of the tags 2, 3 and 4 with length 1, and as many bytes
unfoldable pub entry_in : List ℕ → Entry
entry_in xs =
    cond (ltb (length xs) savepoint_bytes) Misformed
    (cond (eqb (get_or xs 1 0) 0)
    (cond (eqb (get_or xs 0 0) 1)
    (cond (eqb (get_or xs 2 0) 19) (cond (ltb (length xs) set_bytes) Misformed (set_of xs)) Misformed)
    (cond (eqb (get_or xs 2 0) 1) (numbered (get_or xs 0 0) (get_or xs 3 0)) Misformed))
    Misformed)

-- the field at a place
abbrev pub field_at : List ℕ → ℕ → Entry
field_at s p = entry_in (drop p s)
