-- The ten forms: the test that a form's field passes and the cells that it then has, and the same of a run of such fields.
-- Assumes nothing.
use mathlib.Core.Path.{◌≡◌, refl, sym, ap, ap₂, ◌∙◌, subst}
use mathlib.Core.Bool.{Bool, true, false, cond}
use mathlib.Core.List.{List, [], ◌∷◌, map}
use Prim.Native.Nat.{ℕ, ◌+◌, ◌*◌, ◌-◌, ◌/◌, ◌%◌, ◌<◌, ◌≤◌}
use native.Mathlib.Nat.{sub-zero, div-one, mul-div_cancel}
use native.Mathlib.Omega.{arith}
use borrow.Author.Tests.{ne_eqb, leb-true}
use lib.Dec.{T, leb, lit<}
use Rattle.std.specs.List.{list_all, flat_map}
use Rattle.std.specs.Simd.{first_chunks}
use lib.IntN.{ℤ, pos}
use lib.ListN.{length, get_or}
use Rattle.base.specs.Ascii.{printable}
use Rattle.base.specs.Every.{every}
use Rattle.base.specs.Part.{over}
use Rattle.base.proofs.Choice.{and_first, and_second, T_true}
use Rattle.base.proofs.Mapped.{map_same}
use Rattle.form.specs.Table
use Rattle.form.specs.declared.Form.{Form}
use Rattle.form.specs.declared.Form.TheVariants.{F7, A120, A1, F8, I2, I3, I1, E11, E20, E8}
use Rattle.form.specs.Table.{row_of}
use Rattle.number.specs.Grammar.{IsI, IsF, IsE}
use Rattle.field.specs.declared.Value.{Value}
use Rattle.field.specs.declared.Value.TheVariants.{Misformed}
use Rattle.field.specs.Grammar.{One, Two, IsA, IsField}
use Rattle.field.specs.Read.{field_of, value_cells, formed}
use Rattle.field.proofs.Laws.{lawful, field_as, good_width}
use Rattle.run.specs.Run.{run_formed, run_cells}
use Rattle.run.specs.Columns.{each_piece, all_pieces, is_figure, pairs, is_whole_field, is_fixed, is_power, whole_cell, fixed_cell, power_first, power_second}
use Rattle.run.proofs.Loops.{and_true}
use Rattle.run.proofs.Pieces.{each_same, all_same, each_byte, all_bytes, each_chunk, all_chunks, each_cell, byte_chunks}
use Rattle.run.proofs.ByColumns.{whole_formed, fixed_formed, power_formed}
use Rattle.run.proofs.Cells.{by_sixteen, whole_is, fixed_is, power_is}

-- R70, R72, R74, R80
abbrev pub test_of : Form → List ℕ → Bool
test_of F7 = is_fixed
test_of A120 = every printable
test_of A1 = every printable
test_of F8 = is_fixed
test_of I2 = is_whole_field
test_of I3 = is_whole_field
test_of I1 = every is_figure
test_of E11 = is_power 1 6
test_of E20 = is_power 3 12
test_of E8 = is_power 1 3

-- R71, R73, R77, R80
abbrev pub cells_by : Form → List ℕ → List ℤ
cells_by F7 = λ s. fixed_cell s ∷ []
cells_by A120 = map (λ b. pos (b - 0))
cells_by A1 = map (λ b. pos (b - 0))
cells_by F8 = λ s. fixed_cell s ∷ []
cells_by I2 = λ s. whole_cell s ∷ []
cells_by I3 = λ s. whole_cell s ∷ []
cells_by I1 = map (λ b. pos (b - 48))
cells_by E11 = λ s. power_first 1 6 s ∷ power_second 1 6 s ∷ []
cells_by E20 = λ s. power_first 3 12 s ∷ power_second 3 12 s ∷ []
cells_by E8 = λ s. power_first 1 3 s ∷ power_second 1 3 s ∷ []

-- ---- one field

letters_formed : (t : Bool) (v : Value) → formed v ≡ true → formed (cond t v Misformed) ≡ t
letters_formed true v e = e
letters_formed false v e = refl

-- one column is a digit
one_digit : (s : List ℕ) → length s ≡ 1 → is_whole_field s ≡ every is_figure s
unfolding pairs
one_digit [] e = absurd (omega arith)
one_digit (b ∷ []) e = sym (and_true (is_figure b))
one_digit (b ∷ c ∷ s) e = absurd (omega arith)

pub form_formed : (f : Form) (s : List ℕ) → length s ≡ (row_of f).width → formed (field_of f s) ≡ test_of f s
unfolding Table.row_of Table.listed_as
form_formed F7 s e = ap formed (field_as F7 s e) ∙ fixed_formed s (omega arith)
form_formed A120 s e = ap formed (field_as A120 s e) ∙ letters_formed (every printable s) _ refl
form_formed A1 s e = ap formed (field_as A1 s e) ∙ letters_formed (every printable s) _ refl
form_formed F8 s e = ap formed (field_as F8 s e) ∙ fixed_formed s (omega arith)
form_formed I2 s e = ap formed (field_as I2 s e) ∙ whole_formed s (omega arith)
form_formed I3 s e = ap formed (field_as I3 s e) ∙ whole_formed s (omega arith)
form_formed I1 s e = ap formed (field_as I1 s e) ∙ whole_formed s (omega arith) ∙ one_digit s e
form_formed E11 s e = ap formed (field_as E11 s e) ∙ power_formed 1 6 1 s (omega arith) e
form_formed E20 s e = ap formed (field_as E20 s e) ∙ power_formed 3 12 2 s (omega arith) e
form_formed E8 s e = ap formed (field_as E8 s e) ∙ power_formed 1 3 1 s (omega arith) e

whole_cells : (s : List ℕ) (cs : List ℤ) → One (IsI s) cs → cs ≡ whole_cell s ∷ []
whole_cells s cs h = h.cells ∙ ap (λ z. z ∷ []) (whole_is s h.cell h.holds)

fixed_cells : (s : List ℕ) (cs : List ℤ) → One (IsF s) cs → cs ≡ fixed_cell s ∷ []
fixed_cells s cs h = h.cells ∙ ap (λ z. z ∷ []) (fixed_is s h.cell h.holds)

power_cells : (c d x : ℕ) (s : List ℕ) (cs : List ℤ) → Two (IsE c d x s) cs → cs ≡ power_first c d s ∷ power_second c d s ∷ []
power_cells c d x s cs h = let p = power_is c d x s h.first h.second h.holds in h.cells ∙ ap₂ (λ m e. m ∷ e ∷ []) p.0 p.1

letter_cells : (s : List ℕ) (cs : List ℤ) → IsA s cs → cs ≡ map (λ b. pos (b - 0)) s
letter_cells s cs h = h.cells ∙ map_same pos (λ b. pos (b - 0)) (λ b. ap pos (sym (sub-zero b))) s

digit_cells : (s : List ℕ) → length s ≡ 1 → every is_figure s ≡ true → whole_cell s ∷ [] ≡ map (λ b. pos (b - 48)) s
digit_cells [] l e = absurd (omega arith)
digit_cells (b ∷ []) l e =
    let f = and_first (is_figure b) true e in
    let h = leb-true 48 b (and_first (leb 48 b) (leb b 57) f) in
    let k = leb-true b 57 (and_second (leb 48 b) (leb b 57) f) in
    let m : 48 + (b - 48) ≡ b = omega arith in
    let d : b % 16 ≡ b - 48 = ap (λ n. n % 16) (sym m) ∙ by_sixteen (b - 48) (omega arith) in
    let n : 0 * 10 + b % 16 ≡ b - 48 = omega (arith, d) in
    rw (ne_eqb b 45 (λ e. omega arith), n)
digit_cells (b ∷ c ∷ s) l e = absurd (omega arith)

is_field : (f : Form) (s : List ℕ) → T (formed (field_of f s)) → IsField f s (value_cells s (field_of f s))
is_field f s t = (lawful f).reads_is s (value_cells s (field_of f s)) record { good = t; cells = refl }

pub form_cells : (f : Form) (s : List ℕ) → T (formed (field_of f s)) → value_cells s (field_of f s) ≡ cells_by f s
unfolding Table.row_of Table.listed_as
form_cells F7 s t = fixed_cells s (value_cells s (field_of F7 s)) (is_field F7 s t).shape
form_cells A120 s t = letter_cells s (value_cells s (field_of A120 s)) (is_field A120 s t).shape
form_cells A1 s t = letter_cells s (value_cells s (field_of A1 s)) (is_field A1 s t).shape
form_cells F8 s t = fixed_cells s (value_cells s (field_of F8 s)) (is_field F8 s t).shape
form_cells I2 s t = whole_cells s (value_cells s (field_of I2 s)) (is_field I2 s t).shape
form_cells I3 s t = whole_cells s (value_cells s (field_of I3 s)) (is_field I3 s t).shape
form_cells I1 s t =
    let e = good_width I1 s t in
    whole_cells s (value_cells s (field_of I1 s)) (is_field I1 s t).shape ∙ digit_cells s e (sym (form_formed I1 s e) ∙ T_true (formed (field_of I1 s)) t)
form_cells E11 s t = power_cells 1 6 1 s (value_cells s (field_of E11 s)) (is_field E11 s t).shape
form_cells E20 s t = power_cells 3 12 2 s (value_cells s (field_of E20 s)) (is_field E20 s t).shape
form_cells E8 s t = power_cells 1 3 1 s (value_cells s (field_of E8 s)) (is_field E8 s t).shape

-- ---- a run of them

module _ (f : Form) (k : ℕ) (s : List ℕ) (l : length s ≡ k * (row_of f).width) where
  pub run_formed_lem : run_formed f k s ≡ each_piece (test_of f) (row_of f).width k s
  unfolding run_formed each_piece
  run_formed_lem = each_same (row_of f).width k s l (λ x. formed (field_of f x)) (test_of f) (λ x e. form_formed f x e)

  pub run_cells_lem : T (run_formed f k s) → run_cells f k s ≡ all_pieces (cells_by f) (row_of f).width k s
  unfolding run_formed run_cells each_piece all_pieces
  run_cells_lem t =
      all_same (row_of f).width k s l (λ x. formed (field_of f x)) (λ x. value_cells x (field_of f x)) (cells_by f) (λ x e u. form_cells f x u) t

-- ---- where the form is known to be g

some_width : (f : Form) → 0 < (row_of f).width
unfolding Table.row_of Table.listed_as
some_width F7 = lit< tt
some_width A120 = lit< tt
some_width A1 = lit< tt
some_width F8 = lit< tt
some_width I2 = lit< tt
some_width I3 = lit< tt
some_width I1 = lit< tt
some_width E11 = lit< tt
some_width E20 = lit< tt
some_width E8 = lit< tt

-- what is required, for that form
pub width_as : {f g : Form} (k : ℕ) (s : List ℕ) → f ≡ g → length s ≡ k * (row_of f).width → length s ≡ k * (row_of g).width
width_as k s e l = l ∙ ap (λ f. k * (row_of f).width) e

pub room_as : {f g : Form} (k cell : ℕ) (table : List ℤ) → f ≡ g → cell + k * (row_of f).cells ≤ length table → cell + k * (row_of g).cells ≤ length table
room_as k cell table e r = subst (λ f. cell + k * (row_of f).cells ≤ length table) e r

-- what is owed: by the form's test and cells, and where these go byte by byte
module _ (f : Form) (k : ℕ) (s : List ℕ) (l : length s ≡ k * (row_of f).width) {g : Form} (e : f ≡ g) where
  pub formed_as : {b : Bool} → b ≡ each_piece (test_of g) (row_of g).width k s → b ≡ run_formed f k s
  formed_as h = h ∙ ap (λ g. each_piece (test_of g) (row_of g).width k s) (sym e) ∙ sym (run_formed_lem f k s l)

  -- how many fields there are
  many : length s / (row_of g).width ≡ k
  many = ap (λ n. n / (row_of g).width) (width_as k s e l) ∙ mul-div_cancel k (some_width g)

  -- the cells of so many fields have room
  pub room_chunks : (cell : ℕ) (table : List ℤ) {n : ℕ} → cell + k * (row_of f).cells ≤ length table → n ≡ length s / (row_of g).width → cell + n * (row_of g).cells ≤ length table
  room_chunks cell table r c = let m = room_as k cell table e r in omega (arith, ap (λ n. n * (row_of g).cells) (c ∙ many))

  pub room_bytes : (cell : ℕ) (table : List ℤ) {n : ℕ} → cell + k * (row_of f).cells ≤ length table → (row_of g).width ≡ (row_of g).cells → n ≡ length s / 1 → cell + n ≤ length table
  room_bytes cell table r u c = let m = room_as k cell table e r in omega (arith, c ∙ div-one (length s) ∙ width_as k s e l ∙ ap (λ n. k * n) u)

  pub formed_chunks : {b : Bool} {fields : List (List ℕ)} → fields ≡ first_chunks (row_of g).width (length s / (row_of g).width) s → b ≡ list_all (test_of g) fields → b ≡ run_formed f k s
  formed_chunks c h = formed_as (h ∙ ap (list_all (test_of g)) (c ∙ ap (λ n. first_chunks (row_of g).width n s) many) ∙ each_chunk (test_of g) (row_of g).width k s)

  pub formed_bytes : {b : Bool} (h : ℕ → Bool) → every h ≡ test_of g → b ≡ every h s → b ≡ run_formed f k s
  formed_bytes h t r = formed_as (r ∙ sym (each_byte (row_of g).width k s (width_as k s e l) h) ∙ ap (λ u. each_piece u (row_of g).width k s) t)

  module _ (cell : ℕ) (old : List ℤ) (t : T (run_formed f k s)) where
    pub filled_as : over cell (all_pieces (cells_by g) (row_of g).width k s) old ≡ over cell (run_cells f k s) old
    filled_as = ap (λ cs. over cell cs old) (ap (λ g. all_pieces (cells_by g) (row_of g).width k s) (sym e) ∙ sym (run_cells_lem f k s l t))

    pub filled_chunks : {fields : List (List ℕ)} → fields ≡ first_chunks (row_of g).width (length s / (row_of g).width) s → over cell (flat_map (cells_by g) fields) old ≡ over cell (run_cells f k s) old
    filled_chunks c =
        ap (λ cs. over cell cs old)
        (ap (flat_map (cells_by g)) (c ∙ ap (λ n. first_chunks (row_of g).width n s) many) ∙ all_chunks (cells_by g) (row_of g).width k s)
        ∙ filled_as

    pub filled_cells : {fields : List (List ℕ)} (h : List ℕ → ℤ) → fields ≡ first_chunks (row_of g).width (length s / (row_of g).width) s → (λ s. h s ∷ []) ≡ cells_by g → over cell (map h fields) old ≡ over cell (run_cells f k s) old
    filled_cells {fields} h c u = ap (λ cs. over cell cs old) (each_cell h fields ∙ ap (λ give. flat_map give fields) u) ∙ filled_chunks c

    pub filled_bytes : {fields : List (List ℕ)} (h : ℕ → ℤ) → fields ≡ first_chunks 1 (length s / 1) s → map h ≡ cells_by g → over cell (map (λ t. h (get_or t 0 0)) fields) old ≡ over cell (run_cells f k s) old
    filled_bytes h c u =
        ap (λ cs. over cell cs old)
        (ap (map (λ t. h (get_or t 0 0))) (c ∙ ap (λ n. first_chunks 1 n s) (div-one (length s)))
        ∙ byte_chunks h s
        ∙ sym (all_bytes (row_of g).width k s (width_as k s e l) h)
        ∙ ap (λ u. all_pieces u (row_of g).width k s) u)
        ∙ filled_as
