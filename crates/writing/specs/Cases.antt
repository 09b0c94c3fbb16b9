-- R401 to R410, the marked cases in their order, and some neighbours: a field on a line of its own as it is read and written, the lines of a
-- count, the letters of group 3. Replies are given by their numbers.
use Rattle.std.specs.Prelude.{◌≡◌, false, List, [], ◌∷◌, ◌++◌, ℕ, ℤ, pos, neg_ℤ, length, Option, Some, None, Result, Ok, Err}
use Prim.Native.String.{String}
use Rattle.rules.specs.declared.Rules.{Rules}
use Rattle.base.specs.Pieces.{cells_got}
use Rattle.base.specs.Quoted.{bytes}
use Rattle.form.specs.declared.Form.{Form}
use Rattle.form.specs.declared.Form.TheVariants.{A1, F8, I3, E20, E8}
use Rattle.form.specs.Count.{lines_of}
use Rattle.field.specs.Entry.{entry_of}
use Rattle.reply.specs.declared.Reply.{Reply}
use Rattle.date.specs.Date.{dated_of}
use Rattle.date.specs.declared.Date.{Date}
use Rattle.reading.specs.Read.{Cells, read_lines, read_form, reading_of}
use Rattle.reply.specs.Refusals.{refusal_number, answer_reply}
use Rattle.writing.specs.Fitting.{elements_fit}
use Rattle.writing.specs.Text.{line_end, lines_text}
use Rattle.reply.specs.declared.Refusal.{Refusal}

abbrev pub minus : ℕ → ℤ
minus n = neg_ℤ (pos n)

abbrev pub line : String → List ℕ
line t = bytes t ++ line_end

pub data Case : Type 0 where
  -- one field of the form is read with this reply, and these cells
  reads : Form → String → ℕ → List ℤ → Case
  -- one element's cells are written with 0 as this field
  writes : Form → List ℤ → String → Case
  -- or refused with this reply
  refuses : Form → List ℤ → ℕ → Case
  -- an index entry
  entry : String → Option ℕ → Case
  -- such a count has so many lines
  takes : Form → ℕ → ℕ → Case
  -- the letters of group 3 are read with 0 and tell this date
  dates : String → Date → Case
  -- or are refused with this reply at this position
  blames : String → (number position : ℕ) → Case

-- the reply to a reading and to cells that are written, of whatever group
abbrev pub case_reply : Cells → Reply
case_reply g = answer_reply (reading_of g)

abbrev pub fit_number : Result (Unit {0}) Refusal → ℕ
fit_number (Ok all) = 0
fit_number (Err r) = refusal_number r

module _ (ρ : Rules) where
  -- letters as group 3
  abbrev pub letters_read : String → Cells
  letters_read t = read_form ρ A1 3 (length (bytes t)) (line t) (length (bytes t))

  abbrev pub Holding : Case → Type 0
  Holding (reads f t n cs) = ((case_reply (read_lines ρ f false 1 (line t))).number ≡ n) × (cells_got (read_lines ρ f false 1 (line t)) ≡ cs)
  Holding (writes f cs t) = (g : ℕ) → (fit_number (elements_fit ρ f g 1 cs) ≡ 0) × (lines_text ρ f 1 cs ≡ line t)
  Holding (refuses f cs n) = (g : ℕ) → fit_number (elements_fit ρ f g 1 cs) ≡ n
  Holding (entry t e) = entry_of (bytes t) ≡ e
  Holding (takes f count n) = lines_of ρ f count ≡ n
  Holding (dates t d) = ((case_reply (letters_read t)).number ≡ 0) × (dated_of (bytes t) ≡ Ok d)
  Holding (blames t n p) = ((case_reply (letters_read t)).number ≡ n) × ((case_reply (letters_read t)).position ≡ p)

  abbrev pub AllHolding : List Case → Type 0
  AllHolding [] = Unit {0}
  AllHolding (c ∷ cs) = Holding c × AllHolding cs

-- year, day of year, month, day, hour, minute, second
abbrev pub date : ℕ → ℕ → ℕ → ℕ → ℕ → ℕ → ℕ → Date
date y n m d h i e = record { year = y; day_of_year = n; month = m; day = d; hour = h; minute = i; second = e }

abbrev pub cases : List Case
cases =
    -- R401: the greatest cell of F8.3, and the next one above
    reads F8 "9999.999" 0 (pos 9999999 ∷ [])
    ∷ refuses F8 (pos 10000000 ∷ []) 13
    -- R402: the least cell of F8.3, and the next one below
    ∷ reads F8 "-999.999" 0 (minus 999999 ∷ [])
    ∷ refuses F8 (minus 1000000 ∷ []) 13
    -- R403: no digit before the point; canonical text has one there
    ∷ reads F8 "   -.500" 0 (minus 500 ∷ [])
    ∷ writes F8 (minus 500 ∷ []) "  -0.500"
    -- R404: a minus before zeros; no point
    ∷ reads F8 "  -0.000" 0 (pos 0 ∷ [])
    ∷ reads F8 "  123456" 9 []
    -- R405: zeros in front; a blank behind the minus
    ∷ reads I3 "007" 0 (pos 7 ∷ [])
    ∷ reads I3 "- 7" 9 []
    -- R406: before the point a 0; another digit
    ∷ reads E8 "0.123E+6" 0 (pos 123 ∷ pos 6 ∷ [])
    ∷ reads E8 "1.230E+5" 9 []
    -- R407: three columns before the point, twelve digits behind it
    ∷ reads E20 "  0.100000000000E+01" 0 (pos 100000000000 ∷ pos 1 ∷ [])
    -- R408: no element, a full line, one element more
    ∷ takes F8 0 0
    ∷ takes F8 15 1
    ∷ takes F8 16 2
    -- R409: day 60 is 29 February in a leap year, and 1 March in another
    ∷ dates "AA20040600229142530" (date 2004 60 2 29 14 25 30)
    ∷ blames "AA20060600229142530" 10 7
    ∷ dates "AA20060600301142530" (date 2006 60 3 1 14 25 30)
    -- R410: a full century that 400 doesn't divide has no day 366
    ∷ blames "AA19003661231142530" 10 7
    -- R23: I3 may have a minus, an index entry may not, even before 0; R84: zeros in front
    ∷ reads I3 " -0" 0 (pos 0 ∷ [])
    ∷ entry " -0" None
    ∷ entry "005" (Some 5)
    -- R81: a plus in front; R82: nothing but blanks
    ∷ reads I3 " +7" 9 []
    ∷ reads F8 "        " 9 []
    ∷ reads E8 "        " 9 []
    -- R107: zero is written without a minus; R108: an exponent of zero with a plus
    ∷ writes F8 (pos 0 ∷ []) "   0.000"
    ∷ writes E20 (minus 5 ∷ pos 0 ∷ []) " -0.000000000005E+00"
    -- R381: the date of record S; R144: 0000 is leap
    ∷ dates "AA20062650922142530" (date 2006 265 9 22 14 25 30)
    ∷ dates "AA00000600229000000" (date 0 60 2 29 0 0 0)
    -- R148: the days don't agree, but the hour fails alone, and so it is blamed (R147)
    ∷ blames "AA20060600229240000" 10 14
    -- R142: a blank is no digit, and neither is what is not there
    ∷ blames "AA2006265 922142530" 10 10
    ∷ blames "AA2006265092214253" 10 18
    ∷ []
