-- R40, R41: what a form takes of a line, the cells that it gives, and the groups that have it.
use Rattle.std.specs.Prelude.{cond, List, [], ◌∷◌, ℕ, ◌≤◌, Option, Some, None}
use Rattle.base.specs.Every.{has}
use Rattle.form.specs.declared.Row.{Row}
use Rattle.form.specs.declared.Form.{Form}
use Rattle.form.specs.declared.Form.TheVariants.{F7, A120, A1, F8, I2, I3, I1, E11, E20, E8}

pub record FormRow : Type 0 where
  pub row : Row
  pub groups : List ℕ

abbrev form_row : (width per_line cells : ℕ) → List ℕ → FormRow
form_row width per_line cells groups =
    record { row = record { width = width; per_line = per_line; cells = cells }; groups = groups }

-- R41, row by row: width, elements of a full line, cells, groups
unfoldable pub listed_as : Form → FormRow
listed_as F7 = form_row 7 16 1 (1 ∷ 6 ∷ [])
listed_as A120 = form_row 120 1 120 (2 ∷ [])
listed_as A1 = form_row 1 120 1 (3 ∷ 54 ∷ 55 ∷ [])
listed_as F8 =
    form_row 8 15 1
    (4 ∷ 7 ∷ 8 ∷ 11 ∷ 12 ∷ 13 ∷ 16 ∷ 17 ∷ 18 ∷ 21 ∷ 22 ∷ 25 ∷ 26 ∷ 29 ∷ 30 ∷ 33 ∷ 43 ∷ 46 ∷ 47 ∷ 50 ∷ 51 ∷ 52 ∷ 58 ∷ 59 ∷ [])
listed_as I2 = form_row 2 60 1 (5 ∷ [])
listed_as I3 = form_row 3 40 1 (9 ∷ 14 ∷ 19 ∷ 23 ∷ 27 ∷ 31 ∷ 34 ∷ 35 ∷ 36 ∷ 44 ∷ 48 ∷ [])
listed_as I1 = form_row 1 120 1 (10 ∷ 15 ∷ 20 ∷ 24 ∷ 28 ∷ 32 ∷ 41 ∷ 45 ∷ 49 ∷ 56 ∷ [])
listed_as E11 = form_row 11 10 2 (37 ∷ 38 ∷ 39 ∷ 42 ∷ 57 ∷ [])
listed_as E20 = form_row 20 6 2 (40 ∷ [])
listed_as E8 = form_row 8 15 2 (53 ∷ 60 ∷ [])

-- the ten forms, and the number of each among them, from 0
abbrev pub forms : List Form
forms = F7 ∷ A120 ∷ A1 ∷ F8 ∷ I2 ∷ I3 ∷ I1 ∷ E11 ∷ E20 ∷ E8 ∷ []

abbrev pub form_number : Form → ℕ
form_number F7 = 0
form_number A120 = 1
form_number A1 = 2
form_number F8 = 3
form_number I2 = 4
form_number I3 = 5
form_number I1 = 6
form_number E11 = 7
form_number E20 = 8
form_number E8 = 9

unfoldable pub row_of : Form → Row
row_of f = (listed_as f).row

-- the form among these whose groups have the number; no group where there is none
unfoldable pub form_among : List Form → ℕ → Option Form
form_among [] g = None
form_among (f ∷ fs) g = cond (has (listed_as f).groups g) (Some f) (form_among fs g)

-- R40: a group's number decides its form, and no other number has one
unfoldable pub form_of : ℕ → Option Form
form_of g = form_among forms g

-- R212: the number is none of 1 to 60 (`no_group` in proofs/Table.antt: exactly the numbers that have no form)
abbrev pub NoSuchGroup : ℕ → Type 0
NoSuchGroup g = (1 ≤ g) × (g ≤ 60) → ⊥
