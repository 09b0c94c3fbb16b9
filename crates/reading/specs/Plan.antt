-- R44, R45: which elements stand in which line of a group. This is worked out here alone; all others ask the plan of a line for its elements.
use Rattle.std.specs.Prelude.{List, map, ℕ, ◌+◌, ◌-◌, ◌*◌, min}
use Rattle.rules.specs.declared.Rules.{Rules}
use Rattle.base.specs.Every.{up_from}
use Rattle.form.specs.declared.Form.{Form}
use Rattle.form.specs.Table.{row_of}
use Rattle.form.specs.Count.{elements_of, rounded_up}
use Rattle.reading.specs.declared.Line as L

-- R60: a line of a group: its number and its first element's number, both from 1, and how many elements it has
abbrev pub Line : Type 0
Line = L.Line

-- the line behind j full ones of p elements, where so many elements are left
abbrev pub line_behind : (p left j : ℕ) → Line
line_behind p left j = record { number = j + 1; first = j * p + 1; many = min p left }

-- the same of n elements in all
abbrev pub line_at : (p n j : ℕ) → Line
line_at p n j = line_behind p (n - j * p) j

-- k lines of them, the first with j before it
unfoldable pub plan_from : (p n j k : ℕ) → List Line
plan_from p n j k = map (line_at p n) (up_from j k)

-- the lines of so many elements of this form: as many as R43 says
abbrev pub many_plan : Form → ℕ → List Line
many_plan f n = plan_from (row_of f).per_line n 0 (rounded_up n (row_of f).per_line)

module _ (ρ : Rules) where
  -- the lines of a group of this form and count
  unfoldable pub plan_of : Form → ℕ → List Line
  plan_of f count = many_plan f (elements_of ρ f count)

-- the numbers of a line's elements, through the group
abbrev pub elements_in : Line → List ℕ
elements_in l = up_from l.first l.many
