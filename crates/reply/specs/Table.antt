-- R230, R231: a reply is told as its number, with numbers beside it. Each question has a table of its own, with a row for each reply that it
-- can give; `Numbered` says that a reply is one of these.
use Rattle.std.specs.Prelude.{◌≡◌, Bool, true, false, cond, ◌||◌, List, [], ◌∷◌, map, ◌⊎◌, ℕ, ◌≤◌, eqb}
use Rattle.base.specs.Every.{has}
use Rattle.reply.specs.declared.Reply.{Reply}

-- the numbers that may stand beside a reply's own
pub data Beside : Type 0 where
  next cells bytes group line element position savepoint place : Beside

abbrev pub kind_code : Beside → ℕ
kind_code next = 0
kind_code cells = 1
kind_code bytes = 2
kind_code group = 3
kind_code line = 4
kind_code element = 5
kind_code position = 6
kind_code savepoint = 7
kind_code place = 8

abbrev pub Given : Type 0
Given = List (Beside × ℕ)

-- what is given, without how much
abbrev pub kinds_of : Given → List Beside
kinds_of bs = map (λ b. b.0) bs

-- how much is given of the kinds that pass a test of their codes: the first; 0 where none is given
abbrev pub amount_of : (ℕ → Bool) → Given → ℕ
amount_of test [] = 0
amount_of test (b ∷ bs) = cond (test (kind_code b.0)) b.1 (amount_of test bs)

abbrev pub is_kind : Beside → ℕ → Bool
is_kind b c = eqb c (kind_code b)

-- R230: a reply's number, and what stands beside it; a number that isn't given is 0
abbrev pub told : ℕ → Given → Reply
told number bs =
    record {
      number = number;
      next = amount_of (is_kind next) bs;
      written = amount_of (λ c. is_kind cells c || is_kind bytes c) bs;
      group = amount_of (is_kind group) bs;
      line = amount_of (is_kind line) bs;
      element = amount_of (is_kind element) bs;
      position = amount_of (is_kind position) bs;
      savepoint = amount_of (is_kind savepoint) bs;
      place = amount_of (is_kind place) bs;
    }

-- ---- which replies a question gives, and which numbers beside them

-- a row of a question's table: a reply's number, and what stands beside it
pub record Row : Type 0 where
  pub number : ℕ
  pub besides : List Beside

abbrev pub row : ℕ → List Beside → Row
row number besides = record { number = number; besides = besides }

abbrev pub names : Row → Beside → Bool
names w b = has (map kind_code w.besides) (kind_code b)

-- a number that the row names is at least so much; one that it doesn't name is 0
abbrev pub Shown : Bool → ℕ → ℕ → Type 0
Shown true least n = least ≤ n
Shown false least n = n ≡ 0

-- R231: lines and elements are counted from 1, and so are groups, positions and savepoints; a next place is behind something, and no text that
-- is written is empty; a group may have no cells, and a field of a journal may be its first
pub record Fills (w : Row) (r : Reply) : Type 0 where
  pub numbered : r.number ≡ w.number
  pub with_next : Shown (names w next) 1 r.next
  pub with_written : Shown (names w cells || names w bytes) (cond (names w cells) 0 1) r.written
  pub with_group : Shown (names w group) 1 r.group
  pub with_line : Shown (names w line) 1 r.line
  pub with_element : Shown (names w element) 1 r.element
  pub with_position : Shown (names w position) 1 r.position
  pub with_savepoint : Shown (names w savepoint) 1 r.savepoint
  pub with_place : Shown (names w place) 0 r.place

-- a reply of a question's table: it fills one of the rows
abbrev pub Numbered : List Row → Reply → Type 0
Numbered [] r = ⊥
Numbered (w ∷ ws) r = Fills w r ⊎ Numbered ws r
