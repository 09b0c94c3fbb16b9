-- The second pass: its state as it comes to an index entry, to a field of a line, to a line of a group, and to a group; one more of each, and
-- the end. What is still to be put, put here, gives what was asked.
-- Assumes nothing.
use Rattle.std.specs.Prelude.{Some, Ok}
use mathlib.Core.Path.{◌≡◌, sym, ◌∙◌, ap, ap₂, subst}
use mathlib.Core.List.{List, [], ◌++◌}
use Prim.Native.Nat.{ℕ, zero, suc, ◌+◌, ◌-◌, ◌*◌, ◌<◌, ◌≤◌, min}
use native.Mathlib.Nat.{one-mul, zero-mul}
use native.Mathlib.Numerals.{add-one}
use native.Mathlib.Omega.{arith}
use lib.Dec.{T}
use lib.IntN.{ℤ}
use lib.ListN.{length, take, drop, get_or, length-append, length-take, length-drop, drop_of_length-le}
use lib.Seq.{drop-cons, drop-drop, take_all, length-take-le}
use Rattle.rules.specs.declared.Rules.{Rules}
use Rattle.base.specs.Every
use Rattle.base.specs.Every.{up_from}
use Rattle.base.specs.Part.{part, over}
use Rattle.base.specs.Pieces
use Rattle.base.specs.Pieces.{emit}
use Rattle.base.proofs.Part.{over_then}
use Rattle.base.proofs.Putting.{Putting, putting_start, putting_room, putting_more, putting_end}
use Rattle.base.proofs.Taken.{drop_none}
use Rattle.base.proofs.UpFrom.{up_more}
use Rattle.form.specs.declared.Form.{Form}
use Rattle.form.specs.Table.{row_of, form_of}
use Rattle.form.specs.Count
use Rattle.form.specs.Count.{elements_of, cells_of, rounded_up}
use Rattle.field.specs.Entry.{index_entry_text}
use Rattle.field.specs.Write.{fits_of, field_text}
use Rattle.field.proofs.Entries.{entry_wide}
use Rattle.field.proofs.Laws.{lawful}
use Rattle.count.specs.Tally.{count_of, cells_in, cells_before}
use Rattle.count.proofs.Tallied.{cells_has, cells_first, cells_next, cells_below}
use Rattle.reading.specs.Plan
use Rattle.reading.specs.Plan.{Line, line_at, plan_from}
use Rattle.writing.specs.Fitting.{Fitted, many_of, AllFit, fit_of}
use Rattle.form.proofs.Rounding.{rounded_none}
use Rattle.writing.proofs.Rows.{some_cells, some_elements}
use Rattle.writing.proofs.Split.{min_times, many_is, all_fit, none_fit, many_both, front_fits, rest_fits, fields_first, lines_first}
use Rattle.writing.specs.Text.{line_end, entries_text, index_text, fields_text, line_text, line_of_many, many_text, lines_text, group_text, groups_text, many_bytes}
use Rattle.writing.proofs.Fitting.{fitted_take, group_fitted}
use Rattle.writing.proofs.Lengths.{entries_length, fields_length, line_length, many_length, lines_take}

-- ---- index entries

entries_more : (ns : List ℕ) (i : ℕ) → i < length ns → entries_text (drop i ns) ≡ index_entry_text (get_or ns i 0) ++ entries_text (drop (i + 1) ns)
unfolding entries_text
entries_more ns i h = rw (drop-cons ns i 0 h, add-one i)

-- i entries stand there, of three bytes each
pub record Entries (ns old : List ℕ) (at i : ℕ) (out : List ℕ) : Type 0 where
  pub few : i ≤ length ns
  pub put : Putting at (entries_text ns) old (at + i * 3) (entries_text (drop i ns)) out

module _ (ns old : List ℕ) (at : ℕ) where
  pub entries_start : at + length (entries_text ns) ≤ length old → Entries ns old at 0 old
  entries_start h = let z : at + 0 * 3 ≡ at = omega arith in record { few = omega arith; put = rw (z, drop_none ns) (putting_start at (entries_text ns) old h) }

  module _ {i : ℕ} {out : List ℕ} (b : Entries ns old at i out) where
    pub entries_end : length ns ≤ i → out ≡ over at (entries_text ns) old
    unfolding entries_text
    entries_end h = putting_end b.put (rw (drop_of_length-le ns h))

    module _ (h : i < length ns) where
      pub entry_room : at + i * 3 + 3 ≤ length out
      entry_room = omega (arith, putting_room b.put (index_entry_text (get_or ns i 0)) (entries_text (drop (i + 1) ns)) (entries_more ns i h), entry_wide (get_or ns i 0))

      pub entries_next : (new : List ℕ) → new ≡ over (at + i * 3) (index_entry_text (get_or ns i 0)) out → Entries ns old at (i + 1) new
      entries_next new e =
          record {
            few = omega arith;
            put = putting_more b.put (index_entry_text (get_or ns i 0)) (entries_text (drop (i + 1) ns)) new (at + (i + 1) * 3) (entries_more ns i h) (omega (arith, entry_wide (get_or ns i 0))) e;
          }

-- the index: two lines of 40 counts, each of 122 bytes
pub index_line_put : {mid new : List ℕ} (ns old : List ℕ) (at : ℕ) → length ns ≡ 40 → at + 122 ≤ length old → mid ≡ over at (entries_text ns) old → new ≡ over (at + 120) line_end mid
    → new ≡ over at (entries_text ns ++ line_end) old
index_line_put ns old at l h p q = over_then old (entries_text ns) line_end at (at + 120) (omega (arith, entries_length ns), omega arith) p q

pub index_put : (ns old mid new : List ℕ) → length ns ≡ 80 → 244 ≤ length old → mid ≡ over 0 (entries_text (part 0 40 ns) ++ line_end) old
    → new ≡ over 122 (entries_text (part 40 80 ns) ++ line_end) mid → new ≡ over 0 (index_text ns) old
unfolding index_text
index_put ns old mid new l h p q =
    let a : part 0 40 ns ≡ take 40 ns = ap (take 40) (drop_none ns) in
    let b : part 40 80 ns ≡ drop 40 ns = take_rest in
    rest a b
  where
    take_rest : take 40 (drop 40 ns) ≡ drop 40 ns
    take_rest = take_all 40 (drop 40 ns) (omega (arith, length-drop 40 ns))

    rest : part 0 40 ns ≡ take 40 ns → part 40 80 ns ≡ drop 40 ns → new ≡ over 0 ((entries_text (take 40 ns) ++ line_end) ++ (entries_text (drop 40 ns) ++ line_end)) old
    rest a b =
        over_then old (entries_text (take 40 ns) ++ line_end) (entries_text (drop 40 ns) ++ line_end) 0 122
        (omega (arith, length-append (entries_text (take 40 ns)) line_end, entries_length (take 40 ns), length-take 40 ns), omega arith)
        (p ∙ ap (λ x. over 0 (entries_text x ++ line_end) old) a)
        (q ∙ ap (λ x. over 122 (entries_text x ++ line_end) mid) b)

-- ---- the fields of a line

-- the fields of the elements that are left belong at a
pub record Fields (f : Form) (cs : List ℤ) (at : ℕ) (old : List ℕ) (a : ℕ) (left : List ℤ) (out : List ℕ) : Type 0 where
  pub fit : AllFit f left
  pub put : Putting at (fields_text f (line_of_many (many_of f cs)) cs) old a (fields_text f (line_of_many (many_of f left)) left) out

module _ (f : Form) (cs : List ℤ) (at : ℕ) (old : List ℕ) where
  all_long : AllFit f cs → length (fields_text f (line_of_many (many_of f cs)) cs) ≡ many_of f cs * (row_of f).width
  all_long h = fields_length f (line_of_many (many_of f cs)) cs h.each

  pub fields_start : AllFit f cs → at + many_of f cs * (row_of f).width ≤ length old → Fields f cs at old at cs old
  fields_start h r = record { fit = h; put = putting_start at (fields_text f (line_of_many (many_of f cs)) cs) old (omega (arith, all_long h)) }

  module _ {a : ℕ} {left : List ℤ} {out : List ℕ} (b : Fields f cs at old a left out) where
    pub fields_end : AllFit f cs → length left < (row_of f).cells → (a ≡ at + many_of f cs * (row_of f).width) × (out ≡ over at (fields_text f (line_of_many (many_of f cs)) cs) old)
    unfolding fields_text Pieces.emit Every.up_from
    fields_end h s =
        let z = none_fit f left b.fit s in
        let e : fields_text f (line_of_many (many_of f left)) left ≡ [] = rw z in
        (omega (arith, b.put.place, ap length e, all_long h), putting_end b.put e)

    -- the next element x, and those behind it
    module _ (x r : List ℤ) (split : left ≡ x ++ r) (l : length x ≡ (row_of f).cells) where
      long_one : length x ≡ 1 * (row_of f).cells
      long_one = omega (arith, one-mul (row_of f).cells)

      fit_here : AllFit f (x ++ r)
      fit_here = rw split at b.fit

      step : fields_text f (line_of_many (many_of f left)) left ≡ field_text f x ++ fields_text f (line_of_many (many_of f r)) r
      step = rw (split, many_both f 1 x r long_one fit_here) (ap (λ k. fields_text f (line_of_many k) (x ++ r)) (omega arith) ∙ fields_first f (many_of f r) x r l)

      one_fits : T (fits_of f x)
      one_fits =
          let m : many_of f x ≡ 1 = many_is f 1 x long_one in
          let t : take (row_of f).cells (drop (0 * (row_of f).cells) x) ≡ x = rw (zero-mul (row_of f).cells) (ap (take (row_of f).cells) (drop_none x) ∙ take_all (row_of f).cells x (omega arith)) in
          subst (λ c. T (fits_of f c)) t ((front_fits f 1 x r long_one fit_here).each 0 (omega (arith, m)))

      wide : length (field_text f x) ≡ (row_of f).width
      wide = (lawful f).wide x one_fits

      pub field_requires : T (fits_of f x) × (a + (row_of f).width ≤ length out)
      field_requires = (one_fits, omega (arith, putting_room b.put (field_text f x) (fields_text f (line_of_many (many_of f r)) r) step, wide))

      pub fields_next : (new : List ℕ) → new ≡ over a (field_text f x) out → Fields f cs at old (a + (row_of f).width) r new
      fields_next new e =
          record {
            fit = rest_fits f 1 x r long_one fit_here;
            put = putting_more b.put (field_text f x) (fields_text f (line_of_many (many_of f r)) r) new (a + (row_of f).width) step (ap (λ w. a + w) (sym wide)) e;
          }

-- ---- the lines of a group

-- the lines of the elements that are left belong at a
pub record Lines (f : Form) (cs : List ℤ) (at : ℕ) (old : List ℕ) (a : ℕ) (left : List ℤ) (out : List ℕ) : Type 0 where
  pub fit : AllFit f left
  pub put : Putting at (many_text f (many_of f cs) cs) old a (many_text f (many_of f left) left) out

module _ (f : Form) (cs : List ℤ) (at : ℕ) (old : List ℕ) where
  lines_long : AllFit f cs → length (many_text f (many_of f cs) cs) ≡ many_bytes f (many_of f cs)
  lines_long h = many_length f (many_of f cs) cs h.each

  pub lines_start : AllFit f cs → at + many_bytes f (many_of f cs) ≤ length old → Lines f cs at old at cs old
  lines_start h r = record { fit = h; put = putting_start at (many_text f (many_of f cs) cs) old (omega (arith, lines_long h)) }

  module _ {a : ℕ} {left : List ℤ} {out : List ℕ} (b : Lines f cs at old a left out) where
    pub lines_end : AllFit f cs → length left ≡ 0 → (a ≡ at + many_bytes f (many_of f cs)) × (out ≡ over at (many_text f (many_of f cs) cs) old)
    unfolding many_text Plan.plan_from Pieces.emit Every.up_from
    lines_end h s =
        let z = none_fit f left b.fit (omega (arith, some_cells f)) in
        let e : many_text f (many_of f left) left ≡ [] = rw (z, rounded_none (row_of f).per_line) in
        (omega (arith, b.put.place, ap length e, lines_long h), putting_end b.put e)

    -- the cells x of the next line, and those behind it
    module _ (x r : List ℤ) (split : left ≡ x ++ r) (l : length x ≡ min ((row_of f).per_line * (row_of f).cells) (length left)) (some : 0 < length left) where
      fit_line : AllFit f (x ++ r)
      fit_line = rw split at b.fit

      abbrev still : ℕ
      still = many_of f left

      abbrev k : ℕ
      k = min (row_of f).per_line still

      long_line : length x ≡ k * (row_of f).cells
      long_line = l ∙ ap (min ((row_of f).per_line * (row_of f).cells)) b.fit.whole ∙ min_times (row_of f).per_line still (row_of f).cells

      both_many : still ≡ k + many_of f r
      both_many = ap (many_of f) split ∙ many_both f k x r long_line fit_line

      step_lines : many_text f still left ≡ line_text f (line_of_many k) x ++ many_text f (many_of f r) r
      step_lines =
          let s : 0 < still = some_of still b.fit.whole in
          ap₂ (many_text f) both_many split
          ∙ lines_first f k (many_of f r) x r long_line (omega (arith, some_elements f)) (ap (min (row_of f).per_line) both_many)
        where
          some_of : (n : ℕ) → length left ≡ n * (row_of f).cells → 0 < n
          some_of zero e = absurd (omega (arith, zero-mul (row_of f).cells))
          some_of (suc n) e = omega arith

      line_fits : AllFit f x
      line_fits = front_fits f k x r long_line fit_line

      line_many : many_of f x ≡ k
      line_many = many_is f k x long_line

      long_here : length (line_text f (line_of_many k) x) ≡ k * (row_of f).width + 2
      long_here = line_length f (line_of_many k) x (subst (λ i. Fitted f i x) line_many line_fits.each)

      pub line_requires : AllFit f x × (a + many_of f x * (row_of f).width + 2 ≤ length out)
      line_requires = (
        line_fits,
        rw line_many (omega (arith, putting_room b.put (line_text f (line_of_many k) x) (many_text f (many_of f r) r) step_lines, long_here)),
      )

      pub lines_next : (mid new : List ℕ) (end : ℕ) → end ≡ a + many_of f x * (row_of f).width → mid ≡ over a (fields_text f (line_of_many (many_of f x)) x) out → new ≡ over end line_end mid
          → Lines f cs at old (end + 2) r new
      unfolding line_text
      lines_next mid new end e p q =
          let t : length (fields_text f (line_of_many k) x) ≡ k * (row_of f).width = fields_length f (line_of_many k) x (subst (λ i. Fitted f i x) line_many line_fits.each) in
          let room = putting_room b.put (line_text f (line_of_many k) x) (many_text f (many_of f r) r) step_lines in
          let w : end ≡ a + k * (row_of f).width = e ∙ ap (λ i. a + i * (row_of f).width) line_many in
          let o : new ≡ over a (line_text f (line_of_many k) x) out =
          over_then out (fields_text f (line_of_many k) x) line_end a end (omega arith, omega (arith, room, long_here)) (p ∙ ap (λ i. over a (fields_text f (line_of_many i) x) out) line_many) q in
          record {
            fit = rest_fits f k x r long_line fit_line;
            put = putting_more b.put (line_text f (line_of_many k) x) (many_text f (many_of f r) r) new (end + 2) step_lines (omega (arith, long_here)) o;
          }

-- ---- the groups of a record

abbrev groups_from : Rules → List ℕ → ℕ → List ℤ → List ℕ
groups_from ρ ns g cs = emit (cells_in ρ ns) (group_text ρ ns) (up_from g (61 - g)) cs

-- groups 1 to g - 1 stand there, the next has its cells from `from` on and goes to a
pub record GroupsPut (ρ : Rules) (ns : List ℕ) (cs : List ℤ) (at : ℕ) (old : List ℕ) (from a g : ℕ) (out : List ℕ) : Type 0 where
  pub low : 1 ≤ g
  pub high : g ≤ 61
  pub cells : from ≡ cells_before ρ ns g
  pub put : Putting at (groups_text ρ ns cs) old a (groups_from ρ ns g (drop from cs)) out

module _ (ρ : Rules) (ns : List ℕ) (cs : List ℤ) (at : ℕ) (old : List ℕ) where
  pub groups_put_start : at + length (groups_text ρ ns cs) ≤ length old → GroupsPut ρ ns cs at old 0 at 1 old
  unfolding groups_text
  groups_put_start h = record { low = omega arith; high = omega arith; cells = sym (cells_first ρ ns); put = rw (drop_none cs) (putting_start at (groups_text ρ ns cs) old h) }

  module _ {from a g : ℕ} {out : List ℕ} (b : GroupsPut ρ ns cs at old from a g out) where
    pub groups_put_end : 61 ≤ g → out ≡ over at (groups_text ρ ns cs) old
    unfolding Pieces.emit Every.up_from
    groups_put_end h = let z : 61 - g ≡ 0 = omega arith in putting_end b.put (rw z)

    module _ (h : g < 61) (fit : fit_of ρ ns cs ≡ Ok tt) (many : length cs ≡ cells_before ρ ns 61) (f : Form) (e : form_of g ≡ Some f) (count : ℕ) (c : count ≡ count_of ns g) where
      next_group : cells_before ρ ns (g + 1) ≡ from + cells_of ρ f count
      next_group = cells_next ρ ns g (omega (arith, b.low)) h ∙ rw (b.cells, c, cells_has ρ ns g f e)

      step_groups : groups_from ρ ns g (drop from cs) ≡ lines_text ρ f count (drop from cs) ++ groups_from ρ ns (g + 1) (drop (from + cells_of ρ f count) cs)
      unfolding Pieces.emit group_text
      step_groups =
          let z : cells_in ρ ns g ≡ cells_of ρ f count = cells_has ρ ns g f e ∙ ap (cells_of ρ f) (sym c) in
          let t : group_text ρ ns g (take (cells_of ρ f count) (drop from cs)) ≡ lines_text ρ f count (drop from cs) = rw (e, ← c) (lines_take ρ f count (drop from cs)) in
          ap (λ l. emit (cells_in ρ ns) (group_text ρ ns) l (drop from cs)) (up_more g 60 (omega arith)) ∙ rw (z, drop-drop (cells_of ρ f count) from cs, t)

      fits_group : Fitted f (elements_of ρ f count) (drop from cs)
      fits_group = rw (c, b.cells) (group_fitted ρ ns cs fit g f (omega (arith, b.low)) h e)

      abbrev n : ℕ
      n = elements_of ρ f count

      long_group : length (lines_text ρ f count (drop from cs)) ≡ many_bytes f n
      unfolding lines_text
      long_group = many_length f n (drop from cs) fits_group

      pub group_cells_lem : from + cells_of ρ f count ≤ length cs
      group_cells_lem = omega (arith, next_group, cells_below ρ ns (g + 1) 61 (omega arith))

      -- the group's own cells
      module _ (to : ℕ) (t : to ≡ from + cells_of ρ f count) where
        own_is : part from to cs ≡ take (cells_of ρ f count) (drop from cs)
        own_is = ap (λ k. take k (drop from cs)) (omega arith)

        own_long : length (part from to cs) ≡ n * (row_of f).cells
        unfolding Count.cells_of
        own_long = ap length own_is ∙ length-take-le (cells_of ρ f count) (drop from cs) (omega (arith, group_cells_lem, length-drop from cs))

        own_fit : AllFit f (part from to cs)
        unfolding Count.cells_of
        own_fit = all_fit f n (part from to cs) own_long (subst (Fitted f n) (sym own_is) (fitted_take f n n (drop from cs) (omega arith) fits_group))

        own_many : many_of f (part from to cs) ≡ n
        own_many = many_is f n (part from to cs) own_long

        pub group_requires : AllFit f (part from to cs) × (a + many_bytes f (many_of f (part from to cs)) ≤ length out)
        group_requires = (
          own_fit,
          rw own_many (omega (arith, putting_room b.put (lines_text ρ f count (drop from cs)) (groups_from ρ ns (g + 1) (drop (from + cells_of ρ f count) cs)) step_groups, long_group)),
        )

        own_text : many_text f (many_of f (part from to cs)) (part from to cs) ≡ lines_text ρ f count (drop from cs)
        unfolding lines_text
        own_text = ap₂ (many_text f) own_many own_is ∙ lines_take ρ f count (drop from cs)

        pub groups_put_next : (new : List ℕ) (end : ℕ) → end ≡ a + many_bytes f (many_of f (part from to cs)) → new ≡ over a (many_text f (many_of f (part from to cs)) (part from to cs)) out
            → GroupsPut ρ ns cs at old to end (g + 1) new
        groups_put_next new end x y =
            record {
              low = omega arith;
              high = omega arith;
              cells = t ∙ sym next_group;
              put = putting_more b.put (lines_text ρ f count (drop from cs)) (groups_from ρ ns (g + 1) (drop to cs)) new end
                  (rw t step_groups)
                  (omega (arith, long_group, ap (many_bytes f) own_many)) (y ∙ ap (λ x. over a x out) own_text);
            }
