-- The second pass: the cells of a clean line; the pass's state as it comes to a line; a line more, and the end.
-- Assumes nothing.
use Rattle.std.specs.Prelude.{Some, None, Ok}
use mathlib.Core.Path.{◌≡◌, refl, sym, ◌∙◌, ap, subst}
use mathlib.Core.Bool.{Bool}
use mathlib.Core.List.{List, [], ◌++◌, append_assoc, append-nil}
use Prim.Native.Nat.{ℕ, ◌+◌, ◌-◌, ◌*◌, ◌<◌, ◌≤◌, min}
use native.Mathlib.Nat.{sub-zero, mul-le-mul_right}
use native.Mathlib.Omega.{arith}
use lib.IntN.{ℤ}
use lib.ListN.{length, drop, length-append}
use Rattle.rules.specs.declared.Rules.{Rules}
use Rattle.base.specs.Part.{part, over}
use Rattle.base.specs.Pieces.{done, cells_got}
use Rattle.base.proofs.FirstBad.{IsDone}
use Rattle.base.proofs.Part.{over_none, over_then, over_length, part_length}
use Rattle.base.proofs.Pieces.{BothDone, both_done}
use Rattle.base.proofs.Taken.{drop_none, part_begin}
use Rattle.form.specs.declared.Form.{Form}
use Rattle.form.specs.Table.{row_of}
use Rattle.form.specs.Count
use Rattle.form.specs.Count.{elements_of, lines_of, cells_of}
use Rattle.form.proofs.Rows.{row_fits}
use Rattle.line.specs.Lines.{reach}
use Rattle.line.specs.Contents.{content_of}
use Rattle.run.specs.Run.{run_cells}
use Rattle.reading.specs.Blanks.{shortest, filled_to, right_content, HoldsLetters, ToPut}
use Rattle.reading.specs.Plan.{Line, plan_from, plan_of}
use Rattle.reading.specs.Read.{Cells, read_fields, columns_of, read_line, read_lines_of, read_lines, verdict_of}
use Rattle.reading.proofs.Lines.{right_yes}
use Rattle.reading.proofs.Fields.{line_text, line_ends, enough, end_from}
use Rattle.reading.proofs.Checking.{Walking, walking_start, walking_next, line_more, line_here, lines_none}
use Rattle.reading.proofs.Sizes.{clean_read, LineDone, line_done, line_size, group_size}
use Rattle.reading.proofs.Runs.{IsRun, fields_run}
use Rattle.reading.proofs.Trying.{line_range}

-- ---- a clean line

module _ (ρ : Rules) (f : Form) (short : Bool) (l : Line) (s : List ℕ) (at : ℕ) (inside : at ≤ length s)
    (clean : verdict_of (read_line ρ f short l (part at (at + reach (drop at s) 1) s)) ≡ Ok tt) where
  abbrev end : ℕ
  end = at + reach (drop at s) 1

  its : IsDone (read_line ρ f short l (part at (at + reach (drop at s) 1) s))
  its = clean_read (read_line ρ f short l (part at end s)) clean

  here : LineDone ρ f short l (part at (at + reach (drop at s) 1) s) (its.cells)
  here = line_done ρ f short l (part at end s) its.cells its.is

  right : right_content ρ short (columns_of f l) (part at (at + reach (drop at s) 1) s) ≡ Some here.bytes
  right = right_yes ρ short (columns_of f l) (part at end s) here.bytes here.content here.right

  range : (at ≤ end) × (end ≤ length s)
  range = line_range ρ s at inside

  -- it has a content
  pub has_content : content_of ρ (part at (at + reach (drop at s) 1) s) ≡ None → ⊥
  has_content e =
      let y = sym here.content ∙ e in
      let z : ◌≡◌ {A = ℕ} 0 1 = cc in
      absurd (omega arith)

  -- which is no shorter than the code takes it to be
  pub end_behind : (m : ℕ) → m ≡ shortest short (l.many * (row_of f).width) → at + m + reach (drop (at + m) s) 1 ≡ at + reach (drop at s) 1
  end_behind m e =
      end_from ρ f short l s at end here.bytes range.1 right refl m (omega (arith, e, enough ρ f short l s at end here.bytes range.1 right))

  module _ (m : ℕ) (e : content_of ρ (part at (at + reach (drop at s) 1) s) ≡ Some m) where
    bytes : here.bytes ≡ m
    bytes = same (sym here.content ∙ e)
      where
        same : {a b : ℕ} → Some a ≡ Some b → a ≡ b
        same e = cc

    is : right_content ρ short (columns_of f l) (part at (at + reach (drop at s) 1) s) ≡ Some m
    is = right ∙ ap Some bytes

    pub fill_inside : at + m < length s
    fill_inside = omega (arith, line_ends ρ f short l s at end m range.1 is, range.1)

    text_done : read_fields f l (line_text f l s at (at + reach (drop at s) 1) m) ≡ done its.cells
    text_done = subst (λ x. read_fields f l (filled_to (columns_of f l) (part 0 x (part at end s))) ≡ done its.cells) bytes here.fields

    -- what its fields are read from
    content : line_text f l s at (at + reach (drop at s) 1) m ≡ filled_to (columns_of f l) (part at (at + m) s)
    content =
        let n : at + m - at ≡ m = omega arith in
        ap (filled_to (columns_of f l)) (part_begin at end m s (omega (arith, line_ends ρ f short l s at end m range.1 is))) ∙ rw n

    its_run : IsRun f l.many (filled_to (columns_of f l) (part at (at + m) s)) its.cells
    its_run = subst (λ x. IsRun f l.many x its.cells) content (fields_run f l (line_text f l s at end m) its.cells text_done)

    long : length (part at (at + m) s) ≡ m
    long = part_length s at m (omega (arith, fill_inside))

    pub to_put : HoldsLetters f short → (room cell : ℕ) → cell + l.many * (row_of f).cells ≤ room → ToPut f short l.many (l.many * (row_of f).width) (part at (at + m) s) room cell
    to_put letters room cell h = record {
      letters = letters;
      wide = refl;
      long = rw long (enough ρ f short l s at end m range.1 is);
      good = its_run.each;
      enough_room = h;
    }

    pub line_put : run_cells f l.many (filled_to (l.many * (row_of f).width) (part at (at + m) s)) ≡ cells_got (read_line ρ f short l (part at (at + reach (drop at s) 1) s))
    line_put = sym its_run.cells ∙ sym (ap cells_got its.is)

-- ---- what has been put into a table

done_same : {a b : List ℤ} → ◌≡◌ {A = Cells} (done a) (done b) → a ≡ b
done_same e = cc

-- what has been put into a table: the cells `stored` of all cells cs, of which `rest` are left; `cell` is where the next goes
pub record Stored (cs old : List ℤ) (cell : ℕ) (table rest : List ℤ) : Type 0 where
  pub stored : List ℤ
  pub here : table ≡ over 0 stored old
  pub next : cell ≡ length stored
  pub all : cs ≡ stored ++ rest

stored_none : (cs old : List ℤ) → Stored cs old 0 old cs
stored_none cs old = record { stored = []; here = over_none old 0; next = refl; all = refl }

module _ {cs old table : List ℤ} {cell : ℕ} (room : length cs ≤ length old) where
  stored_room : (first rest : List ℤ) → Stored cs old cell table (first ++ rest) → cell + length first ≤ length old
  stored_room first rest b = omega (arith, b.next, ap length b.all, length-append b.stored (first ++ rest), length-append first rest)

  stored_length : (rest : List ℤ) → Stored cs old cell table rest → length table ≡ length old
  stored_length rest b = ap length b.here ∙ over_length old b.stored 0 (omega (arith, ap length b.all, length-append b.stored rest))

  stored_more : (first rest new : List ℤ) → Stored cs old cell table (first ++ rest) → new ≡ over cell first table → Stored cs old (cell + length first) new rest
  stored_more first rest new b e =
      record {
        stored = b.stored ++ first;
        here = over_then old b.stored first 0 cell (omega (arith, b.next), omega (arith, stored_room first rest b)) b.here e;
        next = omega (arith, b.next, length-append b.stored first);
        all = b.all ∙ sym (append_assoc b.stored first rest);
      }

stored_all : (cs old table : List ℤ) (cell : ℕ) → Stored cs old cell table [] → table ≡ over 0 cs old
stored_all cs old table cell b = b.here ∙ ap (λ l. over 0 l old) (sym (b.all ∙ append-nil b.stored))

-- ---- the state before line j, at the place `at` of the lines and the cell `cell` of the table

pub record Filling (ρ : Rules) (f : Form) (short : Bool) (count : ℕ) (s : List ℕ) (old : List ℤ) (left at cell j : ℕ) (table : List ℤ) : Type 0 where
  pub walk : Walking ρ f count s left at j
  pub more : List ℤ
  pub rest : read_lines_of ρ f short (plan_from (row_of f).per_line (elements_of ρ f count) j (lines_of ρ f count - j)) (drop at s) ≡ done more
  pub store : Stored (cells_got (read_lines ρ f short count s)) old cell table more

module _ (ρ : Rules) (f : Form) (short : Bool) (count : ℕ) (s : List ℕ) (old : List ℤ) (clean : verdict_of (read_lines ρ f short count s) ≡ Ok tt)
    (room : cells_of ρ f count ≤ length old) where
  pub enough_room : length (cells_got (read_lines ρ f short count s)) ≤ length old
  enough_room =
      let r = clean_read (read_lines ρ f short count s) clean in
      omega (arith, ap (λ g. length (cells_got g)) r.is, group_size ρ f short count s r.cells r.is, room)

  pub filling_start : {left : ℕ} → left ≡ elements_of ρ f count → Filling ρ f short count s old left 0 0 0 old
  unfolding read_lines plan_of Count.lines_of
  filling_start e =
      let g = clean_read (read_lines ρ f short count s) clean in
      record {
        walk = walking_start ρ e;
        more = cells_got (read_lines ρ f short count s);
        rest = rw (sub-zero (lines_of ρ f count), drop_none s) (g.is ∙ ap done (sym (ap cells_got g.is)));
        store = stored_none (cells_got (read_lines ρ f short count s)) old;
      }

  module _ {left at cell j : ℕ} {table : List ℤ} (b : Filling ρ f short count s old left at cell j table) where
    pub filling_end : lines_of ρ f count ≤ j → table ≡ over 0 (cells_got (read_lines ρ f short count s)) old
    filling_end h =
        let z : lines_of ρ f count - j ≡ 0 = omega arith in
        let e : [] ≡ b.more = done_same (sym (lines_none ρ f short s (row_of f).per_line (elements_of ρ f count) j at) ∙ (rw z at b.rest)) in
        stored_all (cells_got (read_lines ρ f short count s)) old table cell (subst (λ x. Stored (cells_got (read_lines ρ f short count s)) old cell table x) (sym e) b.store)

    pub filling_length : length table ≡ length old
    filling_length = stored_length enough_room b.more b.store

    module _ (h : j < lines_of ρ f count) where
      abbrev l : Line
      l = line_here ρ f count s b.walk

      split : BothDone (read_line ρ f short (line_here ρ f count s b.walk) (part at (at + reach (drop at s) 1) s))
          (read_lines_of ρ f short (plan_from (row_of f).per_line (elements_of ρ f count) (j + 1) (lines_of ρ f count - (j + 1))) (drop (at + reach (drop at s) 1) s)) b.more
      split =
          both_done (read_line ρ f short l (part at (at + reach (drop at s) 1) s))
          (read_lines_of ρ f short (plan_from (row_of f).per_line (elements_of ρ f count) (j + 1) (lines_of ρ f count - (j + 1))) (drop (at + reach (drop at s) 1) s)) b.more
          (sym (line_more ρ f count s b.walk (at + reach (drop at s) 1) refl short h) ∙ b.rest)

      pub line_is_clean : verdict_of (read_line ρ f short (line_here ρ f count s b.walk) (part at (at + reach (drop at s) 1) s)) ≡ Ok tt
      line_is_clean = ap verdict_of split.first_is

      -- what is left begins with the cells of this line
      before : Stored (cells_got (read_lines ρ f short count s)) old cell table (split.first ++ split.second)
      before = subst (λ x. Stored (cells_got (read_lines ρ f short count s)) old cell table x) split.all b.store

      size : length split.first ≡ (line_here ρ f count s b.walk).many * (row_of f).cells
      size = line_size ρ f short l (part at (at + reach (drop at s) 1) s) split.first split.first_is

      pub line_room : cell + (line_here ρ f count s b.walk).many * (row_of f).cells ≤ length table
      line_room = omega (arith, size, stored_room enough_room split.first split.second before, filling_length)

      pub cells_small : (line_here ρ f count s b.walk).many * (row_of f).cells ≤ 120
      cells_small =
          let few = mul-le-mul_right {m = l.many} {n = (row_of f).per_line} (row_of f).cells (omega arith) in
          omega (arith, few, (row_fits f).few_cells)

      -- its cells are put: the next line
      pub filling_next : (next : ℕ) {new : List ℤ} → next ≡ at + reach (drop at s) 1
          → new ≡ over cell (cells_got (read_line ρ f short (line_here ρ f count s b.walk) (part at (at + reach (drop at s) 1) s))) table
          → Filling ρ f short count s old (left - min (row_of f).per_line left) next (cell + (line_here ρ f count s b.walk).many * (row_of f).cells) (j + 1) new
      filling_next next {new} w put =
          subst
          (λ e. Filling ρ f short count s old (left - min (row_of f).per_line left) e (cell + (line_here ρ f count s b.walk).many * (row_of f).cells) (j + 1) new)
          (sym w)
          record {
            walk = walking_next ρ f count s b.walk (at + reach (drop at s) 1) refl h;
            more = split.second;
            rest = split.second_is;
            store = subst (λ n. Stored (cells_got (read_lines ρ f short count s)) old (cell + n) new split.second) size
                (stored_more enough_room split.first split.second new before (put ∙ ap (λ y. over cell y table) (ap cells_got split.first_is)));
          }
