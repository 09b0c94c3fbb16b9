-- R233, R301: when each reply of writing is due: its condition holds, and none that stands before it in the order 4, 5, 6, 7, 14, 13, 10, 11
-- is due.
use Rattle.std.specs.Prelude.{◌≡◌, List, ℕ, ◌+◌, ◌-◌, ◌*◌, ◌<◌, ◌≤◌, ℤ, length, take, drop, Some, Result, Ok, Err}
use Rattle.rules.specs.declared.Rules.{Rules}
use Rattle.form.specs.declared.Form.{Form}
use Rattle.form.specs.Table.{row_of, form_of}
use Rattle.form.specs.Count.{elements_of}
use Rattle.field.specs.Grammar.{IsField}
use Rattle.count.specs.Tally.{count_of, cells_before}
use Rattle.count.specs.Due as Counts
use Rattle.count.specs.Due.{HasCells}
use Rattle.date.specs.Due as Letters
use Rattle.date.specs.declared.Date.{Date}
use Rattle.reply.specs.declared.Refusal.{Refusal}
use Rattle.reply.specs.declared.Refusal.TheVariants.{NoField, BadDate, NoRoom}
use Rattle.writing.specs.Text.{record_bytes}
use Rattle.writing.specs.Writing.{date_letters}

-- R303: there is a field of the form, canonical or not, that reads as these cells
pub record HasField (f : Form) (c : List ℤ) : Type 0 where
  pub field : List ℕ
  pub is : IsField f field c

-- or there is none
abbrev pub HasNone : Form → List ℤ → Type 0
HasNone f c = (s : List ℕ) → IsField f s c → ⊥

module _ (ρ : Rules) (ns : List ℕ) (cs : List ℤ) where
  -- R231: element e of group g, which has this form; elements are counted from 1
  pub record Element (g e : ℕ) (f : Form) : Type 0 where
    pub form : form_of g ≡ Some f
    pub low : 1 ≤ e
    pub high : e ≤ elements_of ρ f (count_of ns g)

  -- R46, R47: its cells, behind those of the groups below and of the elements before it
  abbrev pub element_cells : ℕ → ℕ → Form → List ℤ
  element_cells g e f = take (row_of f).cells (drop (cells_before ρ ns g + (e - 1) * (row_of f).cells) cs)

  -- R302: none of 4, 5, 6, 7 and 14, by count's Due; R303: nor 13: each element's cells have a field
  pub record HasFields : Type 0 where
    pub table : HasCells ρ ns (length cs)
    pub each : (g e : ℕ) (f : Form) → Element g e f → HasField f (element_cells g e f)

  -- R304: nor 10: group 3 tells a date
  pub record HasDate : Type 0 where
    pub fields : HasFields
    pub date : Date
    pub right : Letters.Due (date_letters ρ ns cs) (Ok date)

  -- R303: 13, this element's cells have no field; those of each in a lower group, and of each lower one in this group, have
  pub record LowestNone (g e : ℕ) : Type 0 where
    pub table : HasCells ρ ns (length cs)
    pub form : Form
    pub element : Element g e form
    pub none : HasNone form (element_cells g e form)
    pub lower : (h d : ℕ) (f : Form) → Element h d f → h < g → HasField f (element_cells h d f)
    pub before : (d : ℕ) → Element g d form → d < e → HasField form (element_cells g d form)

  -- R304: 10, it tells none
  pub record WrongDate (p : ℕ) : Type 0 where
    pub fields : HasFields
    pub wrong : Letters.Due (date_letters ρ ns cs) (Err p)

  -- R305: 11, the canonical text is longer than the output; R306: 0, it is not
  pub record OutputShort (room : ℕ) : Type 0 where
    pub date : HasDate
    pub short : room < record_bytes ρ ns

  pub record TextFits (room n : ℕ) : Type 0 where
    pub date : HasDate
    pub enough : record_bytes ρ ns ≤ room
    pub bytes : n ≡ record_bytes ρ ns

  -- what writing refuses with, and when
  pub data RefusedFor (room : ℕ) : Refusal → Type 0 where
    wrong_counts : (r : Refusal) → Counts.RefusedFor ρ ns (length cs) r → RefusedFor room r
    no_field : (g e : ℕ) → LowestNone g e → RefusedFor room (NoField g e)
    bad_date : (p : ℕ) → WrongDate p → RefusedFor room (BadDate p)
    no_room : OutputShort room → RefusedFor room NoRoom

  abbrev pub Due : ℕ → Result ℕ Refusal → Type 0
  Due room (Ok n) = TextFits room n
  Due room (Err r) = RefusedFor room r
