-- R233, R260: when each reply of reading a group under its record's counts is due: its own condition holds, and none earlier in the order:
-- 12; the reply of placing, of which the counts decide 7; 11; 8 and 9, by lines; 10.
use Rattle.std.specs.Prelude.{◌≡◌, List, map, ℕ, ◌+◌, ◌<◌, ◌≤◌, ℤ, Some, Ok, Err}
use Rattle.rules.specs.declared.Rules.{Rules}
use Rattle.base.specs.Pieces.{done, bad}
use Rattle.base.specs.Sign.{size_of}
use Rattle.form.specs.declared.Form.{Form}
use Rattle.form.specs.Table.{form_of, NoSuchGroup}
use Rattle.form.specs.Count.{lines_of, cells_of}
use Rattle.field.specs.Grammar.{SomeField}
use Rattle.count.specs.Tally.{count_of}
use Rattle.count.specs.Blame.{KeepsRules, BreaksRules}
use Rattle.date.specs.declared.Date.{Date}
use Rattle.date.specs.Due as Letters
use Rattle.reply.specs.declared.Refusal.{Refusal}
use Rattle.reply.specs.declared.Refusal.TheVariants.{NoSuchNumber, BrokenRule, NoRoom, BadLine, BadField, BadDate}
use Rattle.reading.specs.Read.{Cells}
use Rattle.reading.specs.Values.{planned, field_in, RightLine, Values}

module _ (ρ : Rules) where
  -- the field with k fields before it, in line j of content s, is one of the form
  abbrev pub FieldReads : Form → ℕ → ℕ → List ℕ → ℕ → Type 0
  FieldReads f count j s k = SomeField f (field_in ρ f count j s k)

  -- ---- R262: the lines, 8 and 9. R231: numbers are from 1: the line with j before it is number j + 1, and Plan gives its first element

  module _ (f : Form) (g : ℕ) (count : ℕ) (x : List ℕ) where
    -- neither 8 nor 9 for line j
    pub record CleanLine (j : ℕ) : Type 0 where
      pub content : List ℕ
      pub line : RightLine ρ f g count x j content
      pub fields : (k : ℕ) → k < (planned ρ f count j).many → FieldReads f count j content k

    abbrev pub AllClean : Type 0
    AllClean = (j : ℕ) → j < lines_of ρ f count → CleanLine j

    -- R263: the reading comes to line j: no line before it is bad
    pub record ComesTo (j : ℕ) : Type 0 where
      pub inside : j < lines_of ρ f count
      pub earlier : (i : ℕ) → i < j → CleanLine i

    -- R208: the line is wrong: no content makes it right (R66)
    pub record WrongLine (l : ℕ) : Type 0 where
      pub j : ℕ
      pub comes : ComesTo j
      pub wrong : (s : List ℕ) → RightLine ρ f g count x j s → ⊥
      pub number : l ≡ (planned ρ f count j).number

    -- R209: the first field of its line that is none of the form, in a line that is right
    pub record WrongField (l e : ℕ) : Type 0 where
      pub j : ℕ
      pub k : ℕ
      pub comes : ComesTo j
      pub content : List ℕ
      pub line : RightLine ρ f g count x j content
      pub inside : k < (planned ρ f count j).many
      pub earlier : (i : ℕ) → i < k → FieldReads f count j content i
      pub misformed : FieldReads f count j content k → ⊥
      pub number : l ≡ (planned ρ f count j).number
      pub element : e ≡ (planned ρ f count j).first + k

  -- ---- the group

  module _ (ns : List ℕ) (g : ℕ) (x : List ℕ) (room : ℕ) where
    -- R207, R261: 7, and not 12
    pub record RuleDue (h : ℕ) : Type 0 where
      pub low : 1 ≤ g
      pub high : g ≤ 60
      pub broken : BreaksRules ns h

    -- neither 12 nor 7
    pub record Ruled (f : Form) : Type 0 where
      pub form : form_of g ≡ Some f
      pub kept : KeepsRules ns

    -- R211, R264: the table has fewer cells than the group; for no other reason
    pub record TableShort : Type 0 where
      pub f : Form
      pub ruled : Ruled f
      pub few : room < cells_of ρ f (count_of ns g)

    -- nor 11
    pub record Roomy (f : Form) : Type 0 where
      pub ruled : Ruled f
      pub enough : cells_of ρ f (count_of ns g) ≤ room

    -- R208 and R209
    pub record LineDue (l : ℕ) : Type 0 where
      pub f : Form
      pub roomy : Roomy f
      pub line : WrongLine f g (count_of ns g) x l

    pub record FieldDue (l e : ℕ) : Type 0 where
      pub f : Form
      pub roomy : Roomy f
      pub field : WrongField f g (count_of ns g) x l e

    -- neither of them: the cells are read
    pub record CellsRead (cs : List ℤ) : Type 0 where
      pub f : Form
      pub roomy : Roomy f
      pub clean : AllClean f g (count_of ns g) x
      pub values : Values ρ f g (count_of ns g) x cs

    -- R210, R265: the letters of group 3 are no date, and p is blamed
    pub record DateDue (p : ℕ) : Type 0 where
      pub cs : List ℤ
      pub cells : CellsRead cs
      pub three : g ≡ 3
      pub wrong : Letters.Due (map size_of cs) (Err p)

    -- R200: 0, and of group 3 a date
    pub record DoneDue (cs : List ℤ) : Type 0 where
      pub cells : CellsRead cs
      pub date : g ≡ 3 → (d : Date) × Letters.Due (map size_of cs) (Ok d)

    -- what it refuses with, and when
    pub data RefusedFor : Refusal → Type 0 where
      no_group : NoSuchGroup g → RefusedFor NoSuchNumber
      broken_rule : (h : ℕ) → RuleDue h → RefusedFor (BrokenRule h)
      no_room : TableShort → RefusedFor NoRoom
      bad_line : (l : ℕ) → LineDue l → RefusedFor (BadLine l)
      bad_field : (l e : ℕ) → FieldDue l e → RefusedFor (BadField l e)
      bad_date : (p : ℕ) → DateDue p → RefusedFor (BadDate p)

    abbrev pub Due : Cells → Type 0
    Due (done cs) = DoneDue cs
    Due (bad r) = RefusedFor r
