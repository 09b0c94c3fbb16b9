-- R62, R63: a data line's content has all its fields, and behind them nothing but blanks, 120 bytes at most. R64, R65: in some groups it may
-- be short, and then reads as if blanks were added.
use Rattle.std.specs.Prelude.{◌≡◌, Bool, true, false, cond, ◌&&◌, ◌||◌, ◌⊎◌, List, ◌++◌, ℕ, ◌+◌, ◌-◌, ◌*◌, ◌<◌, ◌≤◌, min, T, eqb, leb, length, drop, replicate, Option, Some, None}
use Rattle.std.specs.Option.{unwrap_or}
use Rattle.rules.specs.declared.Rules.{Rules}
use Rattle.base.specs.Every.{every, up_from}
use Rattle.base.specs.Part.{part}
use Rattle.form.specs.declared.Form.{Form}
use Rattle.form.specs.declared.Form.TheVariants.{A120, A1}
use Rattle.form.specs.Table.{row_of}
use Rattle.field.specs.Read.{field_of, formed}
use Rattle.run.specs.Run.{run_formed}
use Rattle.line.specs.Lines.{reach}
use Rattle.line.specs.Contents.{content_of}

abbrev pub blank : ℕ → Bool
blank b = eqb b 32

-- R64: a group whose lines may be shorter than their fields
abbrev pub MayBeShort : ℕ → Type 0
MayBeShort g = (g ≡ 2) ⊎ ((g ≡ 54) ⊎ (g ≡ 55))

-- the same as a test (proofs/Letters.antt); what is computed of a line below is told whether its group is one
abbrev pub may_be_short : ℕ → Bool
may_be_short g = eqb g 2 || (eqb g 54 || eqb g 55)

-- R62, R64: the least length of what stands in so many columns
abbrev pub shortest : Bool → ℕ → ℕ
shortest short columns = cond short 0 columns

-- R65: filled with blanks to n bytes; what is longer stays as it is
unfoldable pub filled_to : ℕ → List ℕ → List ℕ
filled_to n s = s ++ replicate (n - length s) 32

-- R62 to R64: a line's content is right for fields that take so many columns: long enough, at most 120 bytes, blanks alone behind them
unfoldable pub is_right : Bool → ℕ → List ℕ → Bool
is_right short columns s = leb (shortest short columns) (length s) && (leb (length s) 120 && every blank (drop columns s))

-- R65: the field that bytes of a line are: they are filled with blanks only where lines may be short
abbrev pub as_field : Form → Bool → List ℕ → List ℕ
as_field f short s = cond short (filled_to (row_of f).width s) s

-- R65: what there is of a field in the columns from `column` on, of a line whose content ends at `stop`: less than its width, or nothing, where
-- the line is short
abbrev pub field_part : ℕ → ℕ → ℕ → List ℕ → List ℕ
field_part width column stop s = part (min column stop) (min (column + width) stop) s

-- R64: short lines are told only of forms of letters, where a blank is a field or a part of one
abbrev pub is_letters : Form → Bool
is_letters A120 = true
is_letters A1 = true
is_letters _ = false

abbrev pub HoldsLetters : Form → Bool → Type 0
HoldsLetters f short = short ≡ true → T (is_letters f)

-- field k, from 0, of a line that begins at `at` and is looked at up to `stop` is formed
abbrev pub is_formed_at : Form → Bool → (at stop : ℕ) → List ℕ → ℕ → Bool
is_formed_at f short at stop s k = formed (field_of f (as_field f short (field_part (row_of f).width (at + k * (row_of f).width) stop s)))

-- all of such a line's k fields are formed
unfoldable pub all_formed : Form → Bool → (at stop : ℕ) → List ℕ → ℕ → Bool
all_formed f short at stop s k = every (is_formed_at f short at stop s) (up_from 0 k)

-- each of the fields below k is
abbrev pub FormedBelow : Form → Bool → (at stop : ℕ) → List ℕ → ℕ → Type 0
FormedBelow f short at stop s k = (i : ℕ) → i < k → is_formed_at f short at stop s i ≡ true

-- the content of a clean line of k fields, and room for their cells from a cell of a table on
pub record ToPut (f : Form) (short : Bool) (k columns : ℕ) (content : List ℕ) (room cell : ℕ) : Type 0 where
  pub letters : HoldsLetters f short
  pub wide : columns ≡ k * (row_of f).width
  pub long : shortest short columns ≤ length content
  pub good : T (run_formed f k (filled_to columns content))
  pub enough_room : cell + k * (row_of f).cells ≤ room

-- ---- a line's content, if it is right; as the code asks for it (proofs/Lines.antt)

abbrev pub if_right : Bool → ℕ → List ℕ → Option ℕ → Option ℕ
if_right short columns x (Some n) = cond (is_right short columns (part 0 n x)) (Some n) None
if_right short columns x None = None

unfoldable pub right_content : Rules → Bool → ℕ → List ℕ → Option ℕ
right_content ρ short columns x = if_right short columns x (content_of ρ x)

-- ---- how far a line's fields are looked for before its end is known: over their columns, if there are so many bytes; a line that may be
-- short has no length of its own, so its content is asked for first

unfoldable pub fields_span : Rules → Bool → ℕ → List ℕ → ℕ → ℕ
fields_span ρ short columns s at =
    cond short (unwrap_or (content_of ρ (part at (at + reach (drop at s) 1) s)) 0) (min columns (length s - at))
