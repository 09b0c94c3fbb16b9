-- R260, R269: what a group reads as. No text comes into it: the group's lines are bytes by themselves here, beside its number, the counts of
-- its record and the length of the table.
use Rattle.std.specs.Prelude.{Bool, cond, List, map, ℕ, ◌*◌, eqb, leb, ℤ, length, Option, Some, None, Result, Ok, Err}
use Rattle.std.specs.Result.{result_ok}
use Rattle.rules.specs.declared.Rules.{Rules}
use Rattle.base.specs.Part.{part, over}
use Rattle.base.specs.Pieces.{Got, done, bad, gather}
use Rattle.base.specs.Sign.{size_of}
use Rattle.form.specs.declared.Form.{Form}
use Rattle.form.specs.Table.{row_of, form_of}
use Rattle.form.specs.Count.{cells_of}
use Rattle.field.specs.Read.{field_of, formed, value_cells}
use Rattle.line.specs.Lines.{reach}
use Rattle.line.specs.Contents.{content_of}
use Rattle.count.specs.Tally.{count_of}
use Rattle.count.specs.Rules.{ruling_of}
use Rattle.date.specs.Date.{dated_of}
use Rattle.reading.specs.Blanks.{may_be_short, is_right, filled_to}
use Rattle.reading.specs.Plan.{Line, plan_of, elements_in}
use Rattle.reply.specs.declared.Refusal.{Refusal}
use Rattle.reply.specs.declared.Refusal.TheVariants.{NoSuchNumber, BrokenRule, NoRoom, BadLine, BadField, BadDate}
use Rattle.date.specs.declared.Date.{Date}

-- the cells read, or the refusal
abbrev pub Cells : Type 0
Cells = Got Refusal ℤ

-- ---- R262: a line: 8, and its fields after that, 9

-- R209: a field that is none of the form, with its line and its element (R232)
abbrev pub read_field : Form → ℕ → ℕ → List ℕ → Cells
read_field f line e x = cond (formed (field_of f x)) (done (value_cells x (field_of f x))) (bad (BadField line e))

-- R61: the fields of a line stand one behind the other
unfoldable pub read_fields : Form → Line → List ℕ → Cells
read_fields f l s = gather (λ (e : ℕ) x. (row_of f).width) (read_field f l.number) (elements_in l) s

-- R62: the columns that a line's fields take
abbrev pub columns_of : Form → Line → ℕ
columns_of f l = l.many * (row_of f).width

-- R66, R208: a line without a content, or with one that isn't right for its fields, is wrong; whether it may be short is its group's
abbrev pub read_content : Form → Bool → Line → List ℕ → Option ℕ → Cells
read_content f short l x (Some n) =
    cond (is_right short (columns_of f l) (part 0 n x)) (read_fields f l (filled_to (columns_of f l) (part 0 n x))) (bad (BadLine l.number))
read_content f short l x None = bad (BadLine l.number)

-- R262: what is blamed where a field of a line is misformed: the line itself, if it is not right
abbrev pub misfit_of : ℕ → ℕ → Option ℕ → Refusal
misfit_of line e (Some n) = BadField line e
misfit_of line e None = BadLine line

module _ (ρ : Rules) where
  -- a line, with its line feed
  unfoldable pub read_line : Form → Bool → Line → List ℕ → Cells
  read_line f short l x = read_content f short l x (content_of ρ x)

  -- ---- a group

  -- R262, R263: the lines in order; the first wrong line or misformed field ends the reading
  unfoldable pub read_lines_of : Form → Bool → List Line → List ℕ → Cells
  read_lines_of f short ls x = gather (λ (l : Line) s. reach s 1) (read_line f short) ls x

  unfoldable pub read_lines : Form → Bool → ℕ → List ℕ → Cells
  read_lines f short count x = read_lines_of f short (plan_of ρ f count) x

-- R210, R265: the date, of group 3 alone, once its lines and fields are right
abbrev pub by_date : List ℤ → Result Date ℕ → Cells
by_date cs (Ok d) = done cs
by_date cs (Err p) = bad (BadDate p)

abbrev pub dated : ℕ → Cells → Cells
dated g (done cs) = cond (eqb g 3) (by_date cs (dated_of (map size_of cs))) (done cs)
dated g (bad r) = bad r

module _ (ρ : Rules) where
  -- R211, R264: 11 before any line is looked at; then the lines, then the date
  unfoldable pub read_form : Form → ℕ → ℕ → List ℕ → ℕ → Cells
  read_form f g count x room = cond (leb (cells_of ρ f count) room) (dated g (read_lines ρ f (may_be_short g) count x)) (bad NoRoom)

  -- R207, R261: counts that break a rule are 7 for every group
  abbrev pub read_ruled : Form → List ℕ → ℕ → List ℕ → ℕ → Option ℕ → Cells
  read_ruled f ns g x room None = read_form f g (count_of ns g) x room
  read_ruled f ns g x room (Some h) = bad (BrokenRule h)

  -- R212: the number is that of no group
  abbrev pub read_by : List ℕ → ℕ → List ℕ → ℕ → Option Form → Cells
  read_by ns g x room (Some f) = read_ruled f ns g x room (ruling_of ns)
  read_by ns g x room None = bad NoSuchNumber

  -- a group of a record with these counts, whose lines are x, read into a table of this length
  unfoldable pub read_group : List ℕ → ℕ → List ℕ → ℕ → Cells
  read_group ns g x room = read_by ns g x room (form_of g)

-- ---- the answer and the table

abbrev pub reading_of : Cells → Result ℕ Refusal
reading_of (done cs) = Ok (length cs)
reading_of (bad r) = Err r

-- R266, R267: under 0 the cells stand from the table's first on, and what is behind them stays; a refusal, whatever is told of it, leaves the
-- whole table
abbrev pub table_by : {B : Type 0} → Got B ℤ → List ℤ → List ℤ
table_by (done cs) old = over 0 cs old
table_by (bad r) old = old

-- ---- R333: the date of a record

-- the date that the cells of group 3 tell, which are its letters
abbrev pub letters_dated : List ℤ → Result Date ℕ
letters_dated cs = dated_of (map size_of cs)

abbrev pub record_dated : Result Date ℕ → Option Date
record_dated told = result_ok told

-- that of the record whose group 3 reads so; there is none where it is refused
abbrev pub date_told : Cells → Option Date
date_told (done cs) = record_dated (letters_dated cs)
date_told (bad r) = None

-- ---- whether all is clean, as the first pass finds it

abbrev pub verdict_of : Cells → Result (Unit {0}) Refusal
verdict_of (done cs) = Ok tt
verdict_of (bad r) = Err r

abbrev pub date_verdict : Result Date ℕ → Result (Unit {0}) Refusal
date_verdict (Ok d) = Ok tt
date_verdict (Err p) = Err (BadDate p)

-- the place behind a line that is clean, or what it is refused with
abbrev pub line_passed : ℕ → Result (Unit {0}) Refusal → Result ℕ Refusal
line_passed behind (Ok _) = Ok behind
line_passed behind (Err r) = Err r
