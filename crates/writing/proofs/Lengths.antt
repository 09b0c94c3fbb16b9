-- How long canonical text is where all cells fit: a line, a group, the index, a record; and that a group's text takes no cells but its own.
-- Assumes nothing.
use Rattle.std.specs.Prelude.{Option, Some, None, Ok}
use mathlib.Core.Path.{◌≡◌, refl, sym, ◌∙◌, ap}
use mathlib.Core.List.{List, [], ◌∷◌, ◌++◌, map}
use Prim.Native.Nat.{ℕ, zero, suc, ◌+◌, ◌-◌, ◌*◌, ◌<◌, ◌≤◌, min}
use native.Mathlib.Nat.{mul-le-mul, mul-le-mul_right, mul_assoc, mul_comm, add-mul, zero-mul, suc-mul, add-zero, zero-add}
use native.Mathlib.Omega.{arith}
use lib.Dec.{T}
use lib.IntN.{ℤ}
use lib.ListN.{length, take, drop, length-append, length-take, length-drop, length-map}
use Rattle.rules.specs.declared.Rules.{Rules}
use Rattle.base.specs.Every
use Rattle.base.specs.Every.{up_from}
use Rattle.base.specs.Sum
use Rattle.base.specs.Sum.{sum}
use Rattle.base.proofs.Pieces.{own_imply, emit_length, emit_take}
use Rattle.base.proofs.UpFrom.{length_up, up_more, sum_up_same}
use Rattle.form.specs.declared.Form.{Form}
use Rattle.form.specs.Table.{row_of, form_of}
use Rattle.form.specs.Count
use Rattle.form.specs.Count.{elements_of, lines_of, cells_of, rounded_up}
use Rattle.form.proofs.Counted.{lines_few}
use Rattle.form.proofs.Rows.{row_fits}
use Rattle.form.proofs.Segments.{elements_few}
use Rattle.form.proofs.Rounding.{lines_enough}
use Rattle.field.specs.Entry.{index_entry_text}
use Rattle.field.specs.Write.{fits_of, field_text}
use Rattle.field.proofs.Entries.{entry_wide}
use Rattle.field.proofs.Laws.{lawful}
use Rattle.count.specs.Tally.{count_of, cells_in}
use Rattle.reading.specs.Plan
use Rattle.reading.specs.Plan.{Line, line_at, plan_from, plan_of, elements_in, many_plan}
use Rattle.writing.specs.Fitting.{Fitted, group_fit_by, group_fit, fit_of}
use Rattle.writing.specs.Text.{line_end, entries_text, index_text, line_cells, fields_text, line_text, many_text, lines_text, group_text_by, group_text, groups_text}
use Rattle.writing.specs.Text.{record_text, many_bytes, bytes_of, bytes_by, bytes_in, record_bytes}
use Rattle.writing.proofs.Fitting.{elements_fitted, fitted_own, many_own, groups_own}

-- ---- the index

pub entries_length : (ns : List ℕ) → length (entries_text ns) ≡ length ns * 3
unfolding entries_text
entries_length [] = refl
entries_length (n ∷ ns) = length-append (index_entry_text n) (entries_text ns) ∙ omega (arith, entry_wide n, entries_length ns)

pub index_length : (ns : List ℕ) → length ns ≡ 80 → length (index_text ns) ≡ 244
unfolding index_text
index_length ns e =
    length-append (entries_text (take 40 ns) ++ line_end) (entries_text (drop 40 ns) ++ line_end)
    ∙ omega (
      arith,
      length-append (entries_text (take 40 ns)) line_end,
      length-append (entries_text (drop 40 ns)) line_end,
      entries_length (take 40 ns),
      entries_length
          (drop 40 ns),
      length-take 40 ns,
      length-drop 40 ns,
    )

-- ---- a line

pub fields_length : (f : Form) (l : Line) (cs : List ℤ) → Fitted f l.many cs → length (fields_text f l cs) ≡ l.many * (row_of f).width
unfolding fields_text
fields_length f l cs h =
    let size : ℕ → ℕ = λ e. (row_of f).cells in
    let text : ℕ → List ℤ → List ℕ = λ e c. field_text f c in
    emit_length size text (λ e. (row_of f).width) (elements_in l) cs
    (own_imply size (λ e c. T (fits_of f c)) (λ e c. length (field_text f c) ≡ (row_of f).width) (elements_in l) cs (λ e c. (lawful f).wide c) (fitted_own f l.first l.many cs h))
    ∙ sum_up_same (row_of f).width l.first l.many

pub line_length : (f : Form) (l : Line) (cs : List ℤ) → Fitted f l.many cs → length (line_text f l cs) ≡ l.many * (row_of f).width + 2
unfolding line_text
line_length f l cs h = length-append (fields_text f l cs) line_end ∙ ap (λ n. n + 2) (fields_length f l cs h)

-- ---- the lines of a plan

sum_more_each : {A : Type 0} (f : A → ℕ) (d : ℕ) (bs : List A) → sum (map (λ a. f a + d) bs) ≡ sum (map f bs) + length bs * d
unfolding Sum.sum
sum_more_each f d [] = omega (arith, zero-mul d)
sum_more_each f d (a ∷ bs) = omega (arith, sum_more_each f d bs, suc-mul (length bs) d)

-- k lines behind j others hold what those have left, up to full lines
pub plan_sum : (c p n j k : ℕ) → min n (j * p) * c + sum (map (λ (l : Line). l.many * c) (plan_from p n j k)) ≡ min n ((j + k) * p) * c
unfolding Plan.plan_from Sum.sum Every.up_from
plan_sum c p n j zero = rw (add-zero j) (add-zero (min n (j * p) * c))
plan_sum c p n j (suc k) =
    let e : suc j + k ≡ j + suc k = omega arith in
    let b : min n (j * p) + min p (n - j * p) ≡ min n (suc j * p) = behind p n j in
    omega (arith, plan_sum c p n (suc j) k, add-mul (min n (j * p)) (min p (n - j * p)) c, ap (λ m. m * c) b, ap (λ i. min n (i * p) * c) e)
  where
    behind : (p n j : ℕ) → min n (j * p) + min p (n - j * p) ≡ min n (suc j * p)
    behind p n j = omega (arith, suc-mul j p)

module _ (f : Form) (n : ℕ) where
  pub many_cells : (c : ℕ) → sum (map (λ (l : Line). l.many * c) (many_plan f n)) ≡ n * c
  many_cells c =
      let p = (row_of f).per_line in
      let k = rounded_up n p in
      let m : min n ((0 + k) * p) ≡ n = rw (zero-add k) (omega (arith, lines_enough n p (row_fits f).some)) in
      let z : min n (0 * p) ≡ 0 = omega (arith, zero-mul p) in
      omega (arith, plan_sum c p n 0 k, ap (λ x. x * c) m, ap (λ x. x * c) z, zero-mul c)

  pub many_lines : length (many_plan f n) ≡ rounded_up n (row_of f).per_line
  unfolding Plan.plan_from
  many_lines =
      let k = rounded_up n (row_of f).per_line in
      length-map (up_from 0 k) (line_at (row_of f).per_line n) ∙ length_up 0 k

  -- ---- a group

  pub many_length : (cs : List ℤ) → Fitted f n cs → length (many_text f n cs) ≡ many_bytes f n
  unfolding many_text
  many_length cs h =
      let wide : Line → ℕ = λ l. l.many * (row_of f).width + 2 in
      emit_length (line_cells f) (line_text f) wide (many_plan f n) cs
      (own_imply (line_cells f) (λ l c. Fitted f l.many c) (λ l c. length (line_text f l c) ≡ wide l) (many_plan f n) cs (line_length f) (many_own f n cs h))
      ∙ sum_more_each (λ (l : Line). l.many * (row_of f).width) 2 (many_plan f n)
      ∙ omega (arith, many_cells (row_of f).width, ap (λ m. m * 2) many_lines)

-- of a count
module _ (ρ : Rules) (f : Form) (count : ℕ) where
  pub plan_cells : (c : ℕ) → sum (map (λ (l : Line). l.many * c) (plan_of ρ f count)) ≡ elements_of ρ f count * c
  unfolding Plan.plan_of
  plan_cells c = many_cells f (elements_of ρ f count) c

  pub plan_length : length (plan_of ρ f count) ≡ lines_of ρ f count
  unfolding Plan.plan_of Count.lines_of
  plan_length = many_lines f (elements_of ρ f count)

  pub lines_length : (cs : List ℤ) → Fitted f (elements_of ρ f count) cs → length (lines_text ρ f count cs) ≡ bytes_of ρ f count
  unfolding lines_text
  lines_length cs h = many_length f (elements_of ρ f count) cs h

-- only the group's own cells matter
pub lines_take : (ρ : Rules) (f : Form) (count : ℕ) (cs : List ℤ) → lines_text ρ f count (take (cells_of ρ f count) cs) ≡ lines_text ρ f count cs
unfolding lines_text many_text Count.cells_of
lines_take ρ f count cs = let n = elements_of ρ f count in emit_take (line_cells f) (line_text f) (many_plan f n) cs (n * (row_of f).cells) (omega (arith, many_cells f n (row_of f).cells))

pub group_length : (ρ : Rules) (ns : List ℕ) (g : ℕ) (cs : List ℤ) → group_fit ρ ns g cs ≡ Ok tt → length (group_text ρ ns g cs) ≡ bytes_in ρ ns g
unfolding group_text bytes_in
group_length ρ ns g cs h = by (form_of g) h
  where
    by : (x : Option Form) → group_fit_by ρ x g (count_of ns g) cs ≡ Ok tt → length (group_text_by ρ x (count_of ns g) cs) ≡ bytes_by ρ x (count_of ns g)
    by (Some f) u = lines_length ρ f (count_of ns g) cs (elements_fitted ρ f g (count_of ns g) cs u)
    by None u = refl

-- ---- a record

pub groups_length : (ρ : Rules) (ns : List ℕ) (cs : List ℤ) → fit_of ρ ns cs ≡ Ok tt → length (groups_text ρ ns cs) ≡ sum (map (bytes_in ρ ns) (up_from 1 60))
unfolding groups_text
groups_length ρ ns cs h =
    emit_length (cells_in ρ ns) (group_text ρ ns) (bytes_in ρ ns) (up_from 1 60) cs
    (own_imply (cells_in ρ ns) (λ g c. group_fit ρ ns g c ≡ Ok tt) (λ g c. length (group_text ρ ns g c) ≡ bytes_in ρ ns g) (up_from 1 60) cs (group_length ρ ns) (groups_own ρ ns cs h))

pub record_length : (ρ : Rules) (ns : List ℕ) (cs : List ℤ) → length ns ≡ 80 → fit_of ρ ns cs ≡ Ok tt → length (record_text ρ ns cs) ≡ record_bytes ρ ns
unfolding record_text record_bytes
record_length ρ ns cs e h = length-append (index_text ns) (groups_text ρ ns cs) ∙ rw (index_length ns e, groups_length ρ ns cs h)

-- ---- a loop that adds the groups' bytes up

-- the bytes of a group whose count is 65,535 at most
pub bytes_few : (ρ : Rules) (f : Form) (n : ℕ) → n ≤ 65535 → (elements_of ρ f n * (row_of f).width ≤ 65535 * 120) × (rounded_up (elements_of ρ f n) (row_of f).per_line ≤ 65535)
unfolding Count.lines_of
bytes_few ρ f n h =
    let p = (row_of f).per_line in
    let w = (row_of f).width in
    let columns : p * w ≤ 120 = omega (arith, (row_fits f).columns, mul_comm p w) in
    (omega (arith, mul-le-mul_right w (elements_few ρ f n), mul_assoc n p w, mul-le-mul h columns), lines_few ρ f n h)

-- those of the groups from g on are still to be added
pub record Adding (ρ : Rules) (ns : List ℕ) (total g : ℕ) : Type 0 where
  pub low : 1 ≤ g
  pub high : g ≤ 61
  pub small : total ≤ g * 10000000
  pub same : total + sum (map (bytes_in ρ ns) (up_from g (61 - g))) ≡ record_bytes ρ ns

module _ (ρ : Rules) (ns : List ℕ) where
  pub adding_start : Adding ρ ns 244 1
  unfolding record_bytes
  adding_start = record { low = omega arith; high = omega arith; small = omega arith; same = refl }

  module _ {total g : ℕ} (b : Adding ρ ns total g) where
    pub adding_end : 61 ≤ g → total ≡ record_bytes ρ ns
    unfolding Sum.sum Every.up_from
    adding_end h =
        let z : 61 - g ≡ 0 = omega arith in
        let e : total + 0 ≡ record_bytes ρ ns = rw z at b.same in
        omega arith

    pub adding_more : g < 61 → (f : Form) → form_of g ≡ Some f → (n : ℕ) → n ≡ count_of ns g → n ≤ 65535 → Adding ρ ns (total + bytes_of ρ f n) (g + 1)
    unfolding Sum.sum bytes_in
    adding_more h f e n c few =
        let s : sum (map (bytes_in ρ ns) (up_from g (61 - g))) ≡ bytes_in ρ ns g + sum (map (bytes_in ρ ns) (up_from (g + 1) (61 - (g + 1)))) =
        ap (λ l. sum (map (bytes_in ρ ns) l)) (up_more g 60 (omega arith)) in
        let t : bytes_in ρ ns g ≡ bytes_of ρ f n = by f e ∙ ap (bytes_of ρ f) (sym c) in
        let k = bytes_few ρ f n few in
        record { low = omega arith; high = omega arith; small = omega (arith, b.small, k.0, k.1); same = omega (arith, b.same) }
      where
        by : (f : Form) → form_of g ≡ Some f → bytes_in ρ ns g ≡ bytes_of ρ f (count_of ns g)
        by f e = rw e
