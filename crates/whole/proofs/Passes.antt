-- The two passes over the groups of a record, as their loops go: what holds before each group, and what a group more makes of it.
-- Assumes nothing.
use Rattle.std.specs.Prelude.{Result, Ok, Err}
use mathlib.Core.Path.{◌≡◌, refl, sym, ◌∙◌, ap}
use mathlib.Core.List.{List, [], ◌∷◌}
use Prim.Native.Nat.{ℕ, ◌+◌, ◌-◌, ◌≤◌}
use native.Mathlib.Omega.{arith}
use lib.IntN.{ℤ}
use lib.ListN.{length}
use Rattle.rules.specs.declared.Rules.{Rules}
use Rattle.base.specs.Every.{up_from}
use Rattle.base.specs.Part.{over}
use Rattle.base.specs.Sum
use Rattle.base.specs.Pieces.{done, bad, both, cells_got}
use Rattle.base.proofs.Part.{over_length, over_none, over_over}
use Rattle.base.proofs.UpFrom.{up_more, up_done}
use Rattle.count.specs.Tally
use Rattle.count.specs.Tally.{cells_in, cells_before, record_cells}
use Rattle.count.proofs.Tallied.{all_cells, cells_first, cells_next, cells_below}
use Rattle.place.specs.Parted.{lines_named}
use Rattle.place.specs.Placing.{Carried}
use Rattle.reply.specs.declared.Refusal.{Refusal}
use Rattle.reading.specs.Read.{Cells, read_group, verdict_of}
use Rattle.reading.proofs.GroupRead.{read_size}
use Rattle.whole.specs.Turn.{Turn, in_turn}
use Rattle.whole.specs.Whole.{unread, groups_of, group_by, all_by}
use Rattle.whole.proofs.Turns.{FirstDone, turn_done, turn_bad, turn_split, turn_length}

module _ (ρ : Rules) (s : List ℕ) (r : Carried) where
  -- the groups from g on
  abbrev from : ℕ → Turn
  from g = in_turn (group_by ρ s r) (up_from g (61 - g))

  none : {g : ℕ} → 61 ≤ g → from g ≡ done []
  unfolding in_turn
  none {g} h = ap (in_turn (group_by ρ s r)) (up_done g 60 (omega arith))

  next : {g : ℕ} → g ≤ 60 → from g ≡ in_turn (group_by ρ s r) (g ∷ up_from (g + 1) (61 - (g + 1)))
  next {g} h = ap (in_turn (group_by ρ s r)) (up_more g 60 h)

  group_size : (g : ℕ) (cs : List ℤ) → group_by ρ s r g ≡ done cs → length cs ≡ cells_in ρ r.counts_of g
  group_size g cs e = read_size ρ r.counts_of g (lines_named s r g) (cells_in ρ r.counts_of g) cs e

  -- all groups have as many cells as the counts say
  pub all_size : (cs : List ℤ) → all_by ρ s r ≡ done cs → length cs ≡ record_cells ρ r.counts_of
  unfolding Tally.cell_tally Sum.sum
  all_size cs e = turn_length (group_by ρ s r) (cells_in ρ r.counts_of) group_size (up_from 1 60) cs e ∙ omega arith

  -- a group's reading, by counts and lines as they are lent
  pub group_lent : {ns x : List ℕ} (g : ℕ) → ns ≡ r.counts_of → x ≡ lines_named s r g → read_group ρ ns g x (cells_in ρ ns g) ≡ group_by ρ s r g
  group_lent g e f = rw (e, f) refl

  -- ---- checking: before group g, those from g on decide as all do

  pub record Checking (g : ℕ) : Type 0 where
    pub low : 1 ≤ g
    pub high : g ≤ 61
    pub left : groups_of (from g) ≡ groups_of (all_by ρ s r)

  pub checking_first : Checking 1
  checking_first = record { low = omega arith; high = omega arith; left = refl }

  module _ {g : ℕ} (c : Checking g) where
    pub checking_all : 61 ≤ g → Ok tt ≡ groups_of (all_by ρ s r)
    checking_all h = sym (ap groups_of (none h)) ∙ c.left

    module _ (high : g ≤ 60) {verdict : Result (Unit {0}) Refusal} (v : verdict ≡ verdict_of (group_by ρ s r g)) where
      pub checking_refused : {q : Refusal} → verdict ≡ Err q → Err (unread (g, q)) ≡ groups_of (all_by ρ s r)
      checking_refused {q} e =
          sym (ap groups_of (next high ∙ turn_bad (group_by ρ s r) g (up_from (g + 1) (61 - (g + 1))) (refused (group_by ρ s r g) (sym e ∙ v)))) ∙ c.left
        where
          refused : (d : Cells) → Err q ≡ verdict_of d → d ≡ bad q
          refused (done cs) e = let z : ◌≡◌ {A = ℕ} 0 1 = cc in absurd (omega arith)
          refused (bad p) e = let i : p ≡ q = cc in ap bad i

      pub checking_more : verdict ≡ Ok tt → Checking (g + 1)
      checking_more e = record { low = omega arith; high = omega arith; left = by (group_by ρ s r g) refl ∙ c.left }
        where
          clean : (d : Cells) → Ok tt ≡ verdict_of d → group_by ρ s r g ≡ d → groups_of (from (g + 1)) ≡ groups_of (from g)
          clean (done cs) e u = sym (ap groups_of (next high ∙ turn_done (group_by ρ s r) g (up_from (g + 1) (61 - (g + 1))) u) ∙ same cs (from (g + 1)))
            where
              same : (cs : List ℤ) (t : Turn) → groups_of (both (done cs) t) ≡ groups_of t
              same cs (done ds) = refl
              same cs (bad u) = refl
          clean (bad q) e u = let z : ◌≡◌ {A = ℕ} 0 1 = cc in absurd (omega arith)

          by : (d : Cells) → group_by ρ s r g ≡ d → groups_of (from (g + 1)) ≡ groups_of (from g)
          by d u = clean d (sym e ∙ v ∙ ap verdict_of u) u

  -- ---- filling: before group g, the cells of those from g on are all that is still to be put

  pub record Filling (old table : List ℤ) (g cell : ℕ) : Type 0 where
    pub low : 1 ≤ g
    pub high : g ≤ 61
    pub before : cell ≡ cells_before ρ r.counts_of g
    pub same : length table ≡ length old
    pub left : List ℤ
    pub left_are : from g ≡ done left
    pub cells : over cell left table ≡ over 0 (cells_got (all_by ρ s r)) old

  pub filling_first : (old : List ℤ) → Ok tt ≡ groups_of (all_by ρ s r) → Filling old old 1 0
  filling_first old clean = by (all_by ρ s r) refl clean
    where
      by : (t : Turn) → all_by ρ s r ≡ t → Ok tt ≡ groups_of t → Filling old old 1 0
      by (done cs) u e = record {
        low = omega arith;
        high = omega arith;
        before = sym (cells_first ρ r.counts_of);
        same = refl;
        left = cs;
        left_are = u;
        cells = ap (λ t. over 0 (cells_got t) old) (sym u);
      }
      by (bad q) u e = let z : ◌≡◌ {A = ℕ} 0 1 = cc in absurd (omega arith)

  module _ {old table : List ℤ} {g cell : ℕ} (f : Filling old table g cell) where
    pub filling_all : 61 ≤ g → table ≡ over 0 (cells_got (all_by ρ s r)) old
    filling_all h =
        let p : done [] ≡ done f.left = sym (none h) ∙ f.left_are in
        let e : [] ≡ f.left = cc in
        over_none table cell ∙ ap (λ cs. over cell cs table) e ∙ f.cells

    module _ (high : g ≤ 60) where
      group : FirstDone (group_by ρ s r) g (up_from (g + 1) (61 - (g + 1))) f.left
      group = turn_split (group_by ρ s r) g (up_from (g + 1) (61 - (g + 1))) f.left (sym (next high) ∙ f.left_are)

      pub filling_clean : verdict_of (group_by ρ s r g) ≡ Ok tt
      filling_clean = ap verdict_of group.first_is

      behind : cell + cells_in ρ r.counts_of g ≡ cells_before ρ r.counts_of (g + 1)
      behind = omega (arith, f.before, cells_next ρ r.counts_of g f.low (omega arith))

      pub filling_room : record_cells ρ r.counts_of ≤ length old → cell + cells_in ρ r.counts_of g ≤ length table
      filling_room room = omega (arith, behind, cells_below ρ r.counts_of (g + 1) 61 (omega arith), all_cells ρ r.counts_of, f.same, room)

      pub filling_more : record_cells ρ r.counts_of ≤ length old → {end : ℕ} {new : List ℤ} → end ≡ cell + cells_in ρ r.counts_of g → new ≡ over cell (cells_got (group_by ρ s r g)) table
          → Filling old new (g + 1) end
      filling_more room {end} {new} e n =
          let first = group.first in
          let others = group.others in
          let size = group_size g first group.first_is in
          let end_is : end ≡ cell + length first = omega (arith, e, size) in
          let fits : cell + length first ≤ length table = omega (arith, filling_room room, size) in
          let new_is : new ≡ over cell first table = n ∙ ap (λ d. over cell (cells_got d) table) group.first_is in
          record {
            low = omega arith;
            high = omega arith;
            before = omega (arith, e, behind);
            same = ap length new_is ∙ over_length table first cell fits ∙ f.same;
            left = others;
            left_are = group.others_are;
            cells = ap (over end others) new_is
                ∙ ap (λ k. over k others (over cell first table)) end_is
                ∙ over_over table first others cell fits
                ∙ ap (λ cs. over cell cs table) (sym group.all)
                ∙ f.cells;
          }
