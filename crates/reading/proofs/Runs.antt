-- A line's fields as a run of one form: a field by itself, all fields of a line, and a line of letters.
-- Assumes nothing.
use mathlib.Core.Path.{◌≡◌, refl, sym, ◌∙◌, ap, ap₂, subst}
use mathlib.Core.Bool.{Bool, true, false, ◌&&◌}
use mathlib.Core.List.{List, [], ◌++◌, map, flat_map}
use mathlib.Core.Logic.{◌⊎◌, ⊎_elim}
use Prim.Native.Nat.{ℕ, zero, suc, ◌+◌, ◌-◌, ◌*◌, ◌<◌, ◌≤◌, min}
use native.Mathlib.Nat.{zero-mul, one-mul, suc-mul, sub-zero, mul-le-mul_right}
use native.Mathlib.Omega.{arith}
use borrow.Author.Tests.{ne_eqb, leb-true, leb-false}
use lib.Dec.{T, leb}
use lib.IntN.{ℤ, pos}
use lib.ListN.{length, take, drop, length-take, length-drop}
use lib.Seq.{take_all, take-take, length-take-le}
use Rattle.base.specs.Ascii.{printable}
use Rattle.base.specs.Every
use Rattle.base.specs.Every.{every, up_from}
use Rattle.base.specs.Part.{part}
use Rattle.base.specs.Pieces.{done}
use Rattle.base.proofs.Choice.{and_both, true_T}
use Rattle.base.proofs.Every.{every_between}
use Rattle.base.proofs.Mapped.{map_same}
use Rattle.base.proofs.Pieces.{both_done}
use Rattle.base.proofs.UpFrom.{flat_same}
use Rattle.base.proofs.Taken.{drop_none, drop_take, part_part}
use Rattle.form.specs.declared.Form.{Form}
use Rattle.form.specs.declared.Form.TheVariants.{A120, A1}
use Rattle.form.specs.Table
use Rattle.form.specs.Table.{row_of}
use Rattle.form.proofs.Rows.{row_fits}
use Rattle.field.specs.Read
use Rattle.field.specs.Read.{field_of, formed, value_cells}
use Rattle.field.proofs.Laws.{good_width}
use Rattle.run.specs.Run
use Rattle.run.specs.Run.{run_field, run_formed, run_cells}
use Rattle.run.specs.Columns.{each_piece, all_pieces}
use Rattle.run.proofs.Loops.{and_true}
use Rattle.run.proofs.ByForm.{cells_by, run_cells_lem}
use Rattle.run.proofs.Pieces.{every_same, columns_long, each_byte, all_bytes}
use Rattle.reading.specs.Blanks.{filled_to, field_part, all_formed}
use Rattle.reading.specs.Plan.{Line}
use Rattle.reading.specs.Read.{read_field, read_fields}
use Rattle.reading.proofs.Letters.{letters_formed}
use Rattle.reading.proofs.Blanks.{filled_length, filled_printable}
use Rattle.reading.proofs.Fields.{rest_of, fields_start, fields_more, fields_none, filled_piece}
use Rattle.reading.proofs.Sizes.{field_done}

-- ---- a field by itself

module _ (f : Form) (s : List ℕ) where
  pub other_width : (length s ≡ (row_of f).width → ⊥) → false ≡ formed (field_of f s)
  unfolding Read.field_of
  other_width n = rw (ne_eqb (length s) (row_of f).width n) refl

  pub one_formed : length s ≡ (row_of f).width → run_formed f 1 s ≡ formed (field_of f s)
  unfolding Run.run_formed Every.up_from
  one_formed wide = ap (λ x. formed (field_of f x) && true) all_columns ∙ and_true (formed (field_of f s))
    where
      all_columns : run_field f s 0 ≡ s
      all_columns =
          rw (zero-mul (row_of f).width, one-mul (row_of f).width, sub-zero (row_of f).width, drop_none s) (take_all (row_of f).width s (omega (arith, wide)))

-- ---- the fields of a line

-- field i of them, as it is read
field_in_lem : (f : Form) (s : List ℕ) (i : ℕ) → run_field f s i ≡ take (row_of f).width (drop (i * (row_of f).width) s)
field_in_lem f s i = let n : suc i * (row_of f).width - i * (row_of f).width ≡ (row_of f).width = omega (arith, suc-mul i (row_of f).width) in rw n

-- what is read of them is what the run has
pub record IsRun (f : Form) (k : ℕ) (s : List ℕ) (cs : List ℤ) : Type 0 where
  pub each : T (run_formed f k s)
  pub cells : cs ≡ run_cells f k s

module _ (f : Form) (l : Line) (text : List ℕ) where
  abbrev test : ℕ → Bool
  test i = formed (field_of f (run_field f text i))

  abbrev cells : ℕ → List ℤ
  cells i = value_cells (run_field f text i) (field_of f (run_field f text i))

  -- from field i on
  from_field : (n i : ℕ) (cs : List ℤ) → i + n ≡ l.many → read_fields f (rest_of l i) (drop (i * (row_of f).width) text) ≡ done cs
      → T (every test (up_from i n)) × (cs ≡ flat_map cells (up_from i n))
  unfolding Every.up_from flat_map
  from_field zero i cs e h =
      let z : done [] ≡ done cs = sym (fields_none f l text i (drop (i * (row_of f).width) text) (omega arith)) ∙ h in
      (tt, sym cc)
  from_field (suc n) i cs e h =
      let d = both_done (read_field f l.number (l.first + i) (take (row_of f).width (drop (i * (row_of f).width) text)))
      (read_fields f (rest_of l (i + 1)) (drop ((i + 1) * (row_of f).width) text)) cs (sym (fields_more f l text i (omega arith)) ∙ h) in
      let r = field_done f l.number (l.first + i) (take (row_of f).width (drop (i * (row_of f).width) text)) d.first d.first_is in
      let x = sym (field_in_lem f text i) in
      let q : i + 1 ≡ suc i = omega arith in
      let others = subst (λ m. T (every test (up_from m n)) × (d.second ≡ flat_map cells (up_from m n))) q (from_field n (i + 1) d.second (omega arith) d.second_is) in (
        and_both (test i) (every test (up_from (suc i) n)) (subst (λ y. T (formed (field_of f y))) x r.good) others.0,
        d.all ∙ ap (λ y. y ++ d.second) (sym r.cells ∙ ap (λ y. value_cells y (field_of f y)) x) ∙ ap (λ y. cells i ++ y) others.1,
      )

  pub fields_run : (cs : List ℤ) → read_fields f l text ≡ done cs → IsRun f l.many text cs
  unfolding Run.run_formed Run.run_cells
  fields_run cs h =
      let r = from_field l.many 0 cs (omega arith) (fields_start f l text ∙ h) in
      record { each = r.0; cells = r.1 }

-- only the columns of k fields are looked at
module _ (f : Form) (k : ℕ) (s : List ℕ) where
  in_front : (i : ℕ) → i < k → run_field f s i ≡ run_field f (take (k * (row_of f).width) s) i
  in_front i h =
      let w = (row_of f).width in
      let m : w ≤ k * w - i * w = omega (arith, suc-mul i w, mul-le-mul_right {m = suc i} {n = k} w h) in
      sym (field_in_lem f (take (k * w) s) i ∙ ap (take w) (drop_take (i * w) (k * w) s) ∙ take-take w (k * w - i * w) (drop (i * w) s) m ∙ sym (field_in_lem f s i))

  pub formed_front : run_formed f k s ≡ run_formed f k (take (k * (row_of f).width) s)
  unfolding Run.run_formed
  formed_front = every_same _ _ 0 k (λ i low h. ap (λ x. formed (field_of f x)) (in_front i (omega arith)))

  pub cells_front : run_cells f k s ≡ run_cells f k (take (k * (row_of f).width) s)
  unfolding Run.run_cells
  cells_front = flat_same _ _ 0 k (λ i low h. ap (λ x. value_cells x (field_of f x)) (in_front i (omega arith)))

-- ---- a line of letters: a cell for each column

module _ (f : Form) (letters : (f ≡ A120) ⊎ (f ≡ A1)) where
  pub letters_wide : (row_of f).cells ≡ (row_of f).width
  unfolding Table.row_of Table.listed_as
  letters_wide = ⊎_elim (λ e. subst (λ g. (row_of g).cells ≡ (row_of g).width) (sym e) refl) (λ e. subst (λ g. (row_of g).cells ≡ (row_of g).width) (sym e) refl) letters

  pub letters_run : (k : ℕ) (s : List ℕ) → length s ≡ k * (row_of f).width → T (run_formed f k s) → map pos s ≡ run_cells f k s
  letters_run k s l t =
      map_same pos (λ b. pos (b - 0)) (λ b. ap pos (sym (sub-zero b))) s
      ∙ sym (all_bytes (row_of f).width k s l (λ b. pos (b - 0)))
      ∙ ap (λ give. all_pieces give (row_of f).width k s) (⊎_elim (λ e. ap cells_by (sym e)) (λ e. ap cells_by (sym e)) letters)
      ∙ sym (run_cells_lem f k s l t)

-- ---- all fields of a line in one look, as far as there are columns of theirs

-- what there is of a field that goes on behind the last byte
lacking : (w c stop : ℕ) (s : List ℕ) → 1 ≤ w → stop < c + w → length (field_part w c stop s) ≡ w → ⊥
lacking w c stop s some h e = less (min c stop) (min (c + w) stop) (omega arith) e
  where
    less : (a b : ℕ) → b - a < w → length (part a b s) ≡ w → ⊥
    less a b h e = omega (arith, length-take (b - a) (drop a s), h, e)

module _ (f : Form) (k at stop to : ℕ) (s : List ℕ) (order : at ≤ stop) (within : stop ≤ length s) (seen : to ≡ at + min (k * (row_of f).width) (stop - at)) where
  abbrev w : ℕ
  w = (row_of f).width

  long : length (part at to s) ≡ to - at
  long = length-take-le (to - at) (drop at s) (omega (arith, length-drop at s))

  last : (i : ℕ) → i < k → i * w + w ≤ k * w
  last i h = omega (arith, suc-mul i w, mul-le-mul_right {m = suc i} {n = k} w h)

  -- field i, with blanks added, is its columns of all of them, with blanks added
  filled_field : (i : ℕ) → i < k → filled_to w (field_part w (at + i * w) stop s) ≡ run_field f (filled_to (k * w) (part at to s)) i
  filled_field i h =
      filled_piece (k * w) w i at (to - at) s {from = min (at + i * w) stop} {to = min (at + i * w + w) stop} (last i h) (omega (arith, last i h)) (omega (arith, last i h))
      ∙ sym (field_in_lem f (filled_to (k * w) (part at to s)) i)

  pub letters_all : {short : Bool} → short ≡ true → (f ≡ A120) ⊎ (f ≡ A1) → every printable (part at to s) ≡ all_formed f short at stop s k
  unfolding all_formed each_piece
  letters_all e letters =
      let t = filled_to (k * w) (part at to s) in
      let l : length t ≡ k * w = filled_length (k * w) (part at to s) (omega (arith, long)) in
      rw e
      (sym (filled_printable (k * w) (part at to s)) ∙ sym (each_byte w k t l printable)
      ∙ every_same _ _ 0 k (λ i low h.
      letters_formed f (run_field f t i) letters (columns_long w k i t l (omega arith)) ∙ ap (λ x. formed (field_of f x)) (sym (filled_field i (omega arith)))))

  pub run_all : {short : Bool} → short ≡ false → to - at ≡ k * (row_of f).width → run_formed f k (part at to s) ≡ all_formed f short at stop s k
  unfolding all_formed Run.run_formed
  run_all e wide =
      rw e
      (every_same _ _ 0 k (λ i low h.
      let n = last i (omega arith) in
      let m = suc-mul i w in
      let b : at + i * w ≡ min (at + i * w) stop = omega arith in
      let d : at + suc i * w ≡ min (at + i * w + w) stop = omega arith in
      ap (λ x. formed (field_of f x)) (part_part at to (i * w) (suc i * w) s (omega arith) ∙ ap₂ (λ u v. part u v s) b d)))

  -- the last field lacks a column
  pub run_short : {short : Bool} → short ≡ false → (to - at ≡ k * (row_of f).width → ⊥) → false ≡ all_formed f short at stop s k
  unfolding all_formed
  run_short e other = rw e (by _ refl)
    where
      some : 1 ≤ k
      some = by k refl
        where
          by : (n : ℕ) → k ≡ n → 1 ≤ n
          by zero u = absurd (other (omega (arith, ap (λ n. n * w) u, zero-mul w)))
          by (suc n) u = omega arith

      few : stop < at + k * w
      few = less (k * w) seen other
        where
          less : (c : ℕ) → to ≡ at + min c (stop - at) → (to - at ≡ c → ⊥) → stop < at + c
          less c u v = by (leb c (stop - at)) refl
            where
              by : (t : Bool) → leb c (stop - at) ≡ t → stop < at + c
              by true e = absurd (v (omega (arith, leb-true c (stop - at) e)))
              by false e = omega (arith, leb-false c (stop - at) e)

      by : (t : Bool) → every (λ i. formed (field_of f (field_part w (at + i * w) stop s))) (up_from 0 k) ≡ t → false ≡ t
      by true u =
          let t = every_between (λ i. formed (field_of f (field_part w (at + i * w) stop s))) 0 k (true_T _ u) (k - 1) (omega arith) (omega (arith, some)) in
          let n = good_width f (field_part w (at + (k - 1) * w) stop s) t in
          let m : suc (k - 1) ≡ k = omega (arith, some) in
          let all : (k - 1) * w + w ≡ k * w = sym (suc-mul (k - 1) w) ∙ ap (λ n. n * w) m in
          absurd (lacking w (at + (k - 1) * w) stop s (row_fits f).wide (omega (arith, all, few)) n)
      by false u = refl
