-- The tallies, a group more: what a loop over the groups adds up.
-- Assumes nothing.
use mathlib.Core.Path.{◌≡◌, refl, sym, ◌∙◌, ap}
use mathlib.Core.List.{List, [], ◌∷◌, map}
use mathlib.Core.Logic.{⊎_elim}
use Prim.Native.Nat.{ℕ, zero, suc, ◌+◌, ◌-◌, ◌<◌, ◌≤◌, min}
use native.Mathlib.Numerals.{add-one}
use native.Mathlib.Omega.{arith}
use lib.ListN.{length, get_or, take, length-map, get_or-eq_default}
use lib.Seq.{take_all}
use Rattle.rules.specs.declared.Rules.{Rules}
use Rattle.base.specs.Sum
use Rattle.base.specs.Sum.{sum}
use Rattle.base.specs.Every.{up_from}
use Rattle.base.proofs.Sum.{sum_take_more, sum_take_mono}
use Rattle.base.proofs.Order.{le_or_lt}
use Rattle.base.proofs.UpFrom.{length_up, get_d_map_up}
use Rattle.form.specs.Table.{form_of}
use Rattle.form.specs.Count.{lines_of, cells_of}
use Rattle.form.specs.declared.Form.{Form}
use Rattle.std.proofs.Common.{Option, Some, None}
use Rattle.form.proofs.Counted.{lines_none, lines_few, cells_none, cells_few}
use Rattle.count.specs.Tally.{count_of, lines_by, cells_by, lines_in, cells_in, line_tally, cell_tally, lines_before, cells_before, record_lines, record_cells, Before}

-- ---- a count by its place in the list

pub count_at : (ns : List ℕ) (g : ℕ) → 0 < g → count_of ns g ≡ get_or ns (g - 1) 0
count_at ns zero h = absurd (omega arith)
count_at ns (suc g) h = let e : suc g - 1 ≡ g = omega arith in rw e

pub count_beyond : (ns : List ℕ) (g : ℕ) → length ns < g → count_of ns g ≡ 0
count_beyond ns g h = get_or-eq_default (0 ∷ ns) 0 {n = g} h

-- ---- what a count has in a group's form: nothing if it is 0, and never so much that a sum over the groups is long

module _ (ρ : Rules) where
  pub no_lines : (f : Option Form) → lines_by ρ f 0 ≡ 0
  no_lines (Some f) = lines_none ρ f
  no_lines None = refl

  pub no_cells : (f : Option Form) → cells_by ρ f 0 ≡ 0
  no_cells (Some f) = cells_none ρ f
  no_cells None = refl

  pub lines_by_few : (f : Option Form) (n : ℕ) → n ≤ 65535 → lines_by ρ f n ≤ 65535
  lines_by_few (Some f) n h = lines_few ρ f n h
  lines_by_few None n h = omega arith

  pub cells_by_few : (f : Option Form) (n : ℕ) → n ≤ 65535 → cells_by ρ f n ≤ 7864200
  cells_by_few (Some f) n h = cells_few ρ f n h
  cells_by_few None n h = omega arith

-- ---- a tally: a first entry, then one for each group 1 to 60

abbrev tally : ℕ → (ℕ → ℕ) → List ℕ
tally first f = first ∷ map f (up_from 1 60)

module _ (first : ℕ) (f : ℕ → ℕ) where
  pub tally_length : length (tally first f) ≡ 61
  tally_length = ap suc (length-map (up_from 1 60) f ∙ length_up 1 60)

  pub tally_none : sum (take 0 (tally first f)) ≡ 0
  unfolding Sum.sum
  tally_none = refl

  pub tally_one : sum (take 1 (tally first f)) ≡ first
  unfolding Sum.sum
  tally_one = omega (arith, none (map f (up_from 1 60)))
    where
      none : (xs : List ℕ) → sum (take 0 xs) ≡ 0
      none [] = refl
      none (x ∷ xs) = refl

  pub tally_at : (g : ℕ) → 0 < g → g < 61 → get_or (tally first f) g 0 ≡ f g
  tally_at zero h k = absurd (omega arith)
  tally_at (suc g) h k = get_d_map_up f 1 60 g 0 (omega arith) ∙ ap f (omega arith)

  pub tally_more : (g : ℕ) → 0 < g → g < 61 → sum (take (g + 1) (tally first f)) ≡ sum (take g (tally first f)) + f g
  tally_more g h k =
      rw (add-one g) (sum_take_more (tally first f) g (omega (arith, tally_length)) ∙ ap (λ n. sum (take g (tally first f)) + n) (tally_at g h k))

  -- behind the last group there is no more
  pub tally_all : (g : ℕ) → 61 ≤ g → sum (take g (tally first f)) ≡ sum (tally first f)
  tally_all g h = ap sum (take_all g (tally first f) (omega (arith, tally_length)))

  pub tally_end : (g : ℕ) → sum (take (min g 61) (tally first f)) ≡ sum (take g (tally first f))
  tally_end g =
      ⊎_elim
      (λ (l : g ≤ 61). ap (λ k. sum (take k (tally first f))) (lesser l))
      (λ (l : 61 < g). ap (λ k. sum (take k (tally first f))) (least l) ∙ tally_all 61 (omega arith) ∙ sym (tally_all g (omega arith)))
      (le_or_lt g 61)
    where
      lesser : g ≤ 61 → min g 61 ≡ g
      lesser l = omega arith

      least : 61 < g → min g 61 ≡ 61
      least l = omega arith

-- ---- the lines and the cells before a group, a group more

module _ (ρ : Rules) (ns : List ℕ) where
  pub before_none : (g : ℕ) → g ≡ 0 → Before ρ ns g 0 0
  unfolding lines_before cells_before line_tally cell_tally
  before_none g e = rw e record { lines_are = sym (tally_none 2 (lines_in ρ ns)); cells_are = sym (tally_none 0 (cells_in ρ ns)) }

  pub before_groups : Before ρ ns 1 2 0
  unfolding lines_before cells_before line_tally cell_tally
  before_groups = record { lines_are = sym (tally_one 2 (lines_in ρ ns)); cells_are = sym (tally_one 0 (cells_in ρ ns)) }

  pub before_end : (g l c : ℕ) → Before ρ ns (min g 61) l c → Before ρ ns g l c
  unfolding lines_before cells_before line_tally cell_tally
  before_end g l c b =
      record { lines_are = b.lines_are ∙ tally_end 2 (lines_in ρ ns) g; cells_are = b.cells_are ∙ tally_end 0 (cells_in ρ ns) g }

  module _ (g l c : ℕ) (some : 0 < g) (few : g < 61) (b : Before ρ ns g l c) where
    pub before_more : (n m d : ℕ) → n ≡ count_of ns g → m ≡ l + lines_by ρ (form_of g) n → d ≡ c + cells_by ρ (form_of g) n → Before ρ ns (g + 1) m d
    unfolding lines_before cells_before line_tally cell_tally lines_in cells_in
    before_more n m d e p q = record {
      lines_are = rw (p, e, b.lines_are) (sym (tally_more 2 (lines_in ρ ns) g some few));
      cells_are = rw (q, e, b.cells_are) (sym (tally_more 0 (cells_in ρ ns) g some few));
    }

-- before 61 is the whole record
pub all_lines : (ρ : Rules) (ns : List ℕ) → lines_before ρ ns 61 ≡ record_lines ρ ns
unfolding lines_before line_tally
all_lines ρ ns = tally_all 2 (lines_in ρ ns) 61 (omega arith)

pub all_cells : (ρ : Rules) (ns : List ℕ) → cells_before ρ ns 61 ≡ record_cells ρ ns
unfolding cells_before cell_tally
all_cells ρ ns = tally_all 0 (cells_in ρ ns) 61 (omega arith)

-- the index lines are among them
pub record_two : (ρ : Rules) (ns : List ℕ) → 2 ≤ record_lines ρ ns
unfolding Sum.sum line_tally
record_two ρ ns = omega arith

-- ---- the lines before a group, as the places of groups need them

pub line_entry : (ρ : Rules) (ns : List ℕ) (g : ℕ) → 0 < g → g < 61 → get_or (line_tally ρ ns) g 0 ≡ lines_in ρ ns g
unfolding line_tally
line_entry ρ ns g some few = tally_at 2 (lines_in ρ ns) g some few

pub lines_more : (ρ : Rules) (ns : List ℕ) (g : ℕ) → g < 61 → lines_before ρ ns (suc g) ≡ lines_before ρ ns g + get_or (line_tally ρ ns) g 0
unfolding lines_before line_tally
lines_more ρ ns g h = sum_take_more (line_tally ρ ns) g (omega (arith, tally_length 2 (lines_in ρ ns)))

pub lines_in_lem : (ρ : Rules) (ns : List ℕ) (g : ℕ) → lines_in ρ ns g ≡ lines_by ρ (form_of g) (count_of ns g)
unfolding lines_in
lines_in_lem ρ ns g = refl

pub lines_has : (ρ : Rules) (ns : List ℕ) (g : ℕ) (f : Form) → form_of g ≡ Some f → lines_in ρ ns g ≡ lines_of ρ f (count_of ns g)
unfolding lines_in
lines_has ρ ns g f e = rw e

pub lines_below : (ρ : Rules) (ns : List ℕ) (g h : ℕ) → g ≤ h → lines_before ρ ns g ≤ lines_before ρ ns h
unfolding lines_before
lines_below ρ ns g h l = sum_take_mono (line_tally ρ ns) g h l

pub lines_all : (ρ : Rules) (ns : List ℕ) (g : ℕ) → 61 ≤ g → lines_before ρ ns g ≡ record_lines ρ ns
unfolding lines_before line_tally
lines_all ρ ns g h = tally_all 2 (lines_in ρ ns) g h

-- ---- the cells before a group

pub cells_has : (ρ : Rules) (ns : List ℕ) (g : ℕ) (f : Form) → form_of g ≡ Some f → cells_in ρ ns g ≡ cells_of ρ f (count_of ns g)
unfolding cells_in
cells_has ρ ns g f e = rw e

pub cells_first : (ρ : Rules) (ns : List ℕ) → cells_before ρ ns 1 ≡ 0
unfolding cells_before cell_tally
cells_first ρ ns = tally_one 0 (cells_in ρ ns)

pub cells_next : (ρ : Rules) (ns : List ℕ) (g : ℕ) → 0 < g → g < 61 → cells_before ρ ns (g + 1) ≡ cells_before ρ ns g + cells_in ρ ns g
unfolding cells_before cell_tally
cells_next ρ ns g some few = tally_more 0 (cells_in ρ ns) g some few

pub cells_below : (ρ : Rules) (ns : List ℕ) (g h : ℕ) → g ≤ h → cells_before ρ ns g ≤ cells_before ρ ns h
unfolding cells_before
cells_below ρ ns g h l = sum_take_mono (cell_tally ρ ns) g h l
