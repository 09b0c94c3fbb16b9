-- The cells of a line's fields, put into a table: what room they need, and what is left there.
-- Assumes nothing.
use mathlib.Core.Path.{◌≡◌, refl, sym, ◌∙◌, ap, subst}
use mathlib.Core.Bool.{Bool, true, false}
use mathlib.Core.List.{List, [], ◌∷◌, map}
use Prim.Native.Nat.{ℕ, zero, suc, ◌+◌, ◌*◌, ◌<◌, ◌≤◌, min}
use native.Mathlib.Omega.{arith}
use lib.Dec.{T}
use lib.IntN.{ℤ, pos}
use lib.ListN.{length, take, get_or, set, length-map, length-take}
use lib.Seq.{take_all}
use Rattle.base.specs.Part.{part, over}
use Rattle.base.proofs.Mapped.{get_d_map_within}
use Rattle.base.proofs.Part.{over_turn, over_none}
use Rattle.base.proofs.Taken.{part_zero, take_none, take_both}
use Rattle.form.specs.declared.Form.{Form}
use Rattle.form.specs.Table.{row_of}
use Rattle.run.specs.Run.{run_formed, run_cells}
use Rattle.reading.specs.Blanks.{filled_to, ToPut}
use Rattle.reading.proofs.Letters.{letters_forms}
use Rattle.reading.proofs.Blanks.{filled_enough, filled_length, filled_get_d, filled_take}
use Rattle.reading.proofs.Runs.{formed_front, cells_front, letters_wide, letters_run}

-- a byte that is there, whatever stands for one that isn't
pub get_d_within : (xs : List ℕ) (i d e : ℕ) → i < length xs → get_or xs i d ≡ get_or xs i e
get_d_within [] i d e h = absurd (omega arith)
get_d_within (x ∷ xs) zero d e h = refl
get_d_within (x ∷ xs) (suc i) d e h = get_d_within xs i d e (omega arith)

pub get_d_beyond : (xs : List ℕ) (i d : ℕ) → length xs ≤ i → get_or xs i d ≡ d
get_d_beyond [] i d h = refl
get_d_beyond (x ∷ xs) zero d h = absurd (omega arith)
get_d_beyond (x ∷ xs) (suc i) d h = get_d_beyond xs i d (omega arith)

-- ---- letters, one after the other

module _ (bytes : List ℕ) (width : ℕ) (old : List ℤ) (at : ℕ) (few : length bytes ≤ width) (room : at + width ≤ length old) where
  letters : List ℤ
  letters = map pos (filled_to width bytes)

  many : length (map pos (filled_to width bytes)) ≡ width
  many = length-map (filled_to width bytes) pos ∙ filled_length width bytes few

  pub letters_none : old ≡ over at (take 0 (map pos (filled_to width bytes))) old
  letters_none = over_none old at ∙ ap (λ l. over at l old) (sym (take_none (map pos (filled_to width bytes))))

  pub letters_more : (i : ℕ) (table : List ℤ) (z : ℤ) → i < width → z ≡ pos (get_or bytes i 32) → table ≡ over at (take i (map pos (filled_to width bytes))) old
      → set table (at + i) z ≡ over at (take (i + 1) (map pos (filled_to width bytes))) old
  letters_more i table z h e b =
      let d : z ≡ get_or (map pos (filled_to width bytes)) i (pos 0) =
      e ∙ ap pos (sym (filled_get_d width bytes i)) ∙ sym (get_d_map_within pos (filled_to width bytes) i 32 (pos 0) (omega (arith, filled_length width bytes few))) in
      rw d (over_turn old (map pos (filled_to width bytes)) at i (pos 0) (omega (arith, many)) (omega (arith, many)) b)

  pub letters_all : (i : ℕ) (table : List ℤ) → width ≤ i → table ≡ over at (take i (map pos (filled_to width bytes))) old → table ≡ over at (map pos (filled_to width bytes)) old
  letters_all i table h b = b ∙ ap (λ l. over at l old) (take_all i (map pos (filled_to width bytes)) (omega (arith, many)))

-- ---- a line

-- as many bytes of a line's content as stand in the columns of its fields
module _ {f : Form} {short : Bool} {k columns : ℕ} {content : List ℕ} {room cell : ℕ} (p : ToPut f short k columns content room cell) {there : ℕ}
    (t : there ≡ min columns (length content)) where
  front : part 0 there content ≡ take columns content
  front = part_zero there content ∙ ap (λ n. take n content) t ∙ sym (take_both columns (length content) content) ∙ ap (take columns) (take_all (length content) content (omega arith))

  front_long : length (part 0 there content) ≡ min columns (length content)
  front_long = ap length front ∙ length-take columns content

  -- filled with blanks, they are the columns of all that is filled
  filled : filled_to columns (part 0 there content) ≡ take (k * (row_of f).width) (filled_to columns content)
  filled = ap (filled_to columns) front ∙ sym (filled_take columns columns content (omega arith)) ∙ ap (λ n. take n (filled_to columns content)) p.wide

  all_columns : length (filled_to columns (part 0 there content)) ≡ k * (row_of f).width
  all_columns = filled_length columns (part 0 there content) (omega (arith, front_long)) ∙ p.wide

  good : T (run_formed f k (filled_to columns (part 0 there content)))
  good = subst T (formed_front f k (filled_to columns content) ∙ ap (run_formed f k) (sym filled)) p.good

  cells : run_cells f k (filled_to columns (part 0 there content)) ≡ run_cells f k (filled_to columns content)
  cells = ap (run_cells f k) filled ∙ sym (cells_front f k (filled_to columns content))

  pub short_room : short ≡ true → (length (part 0 there content) ≤ columns) × (cell + columns ≤ room)
  short_room e = (omega (arith, front_long), omega (arith, p.enough_room, p.wide, ap (λ n. k * n) (letters_wide f (letters_forms f (p.letters e)))))

  pub short_put : short ≡ true → (old : List ℤ) {new : List ℤ} → new ≡ over cell (map pos (filled_to columns (part 0 there content))) old → new ≡ over cell (run_cells f k (filled_to columns content)) old
  short_put e old n = n ∙ ap (λ cs. over cell cs old) (letters_run f (letters_forms f (p.letters e)) k (filled_to columns (part 0 there content)) all_columns good ∙ cells)

  module _ (whole : short ≡ false) where
    full : filled_to columns (part 0 there content) ≡ part 0 there content
    full =
        let low : columns ≤ length content = rw whole at p.long in
        filled_enough columns (part 0 there content) (omega (arith, front_long))

    pub full_run : (length (part 0 there content) ≡ k * (row_of f).width) × (T (run_formed f k (part 0 there content))) × (cell + k * (row_of f).cells ≤ room)
    full_run = (ap length (sym full) ∙ all_columns, subst (λ x. T (run_formed f k x)) full good, p.enough_room)

    pub full_put : (old : List ℤ) {new : List ℤ} → new ≡ over cell (run_cells f k (part 0 there content)) old → new ≡ over cell (run_cells f k (filled_to columns content)) old
    full_put old n = n ∙ ap (λ cs. over cell cs old) (ap (run_cells f k) (sym full) ∙ cells)
