-- A table with room: the rules on counts let group 4 have at most 49 cells, so that 49 always have room; and group 4 reads the same into
-- every table of at least 49.
-- Assumes nothing.
use Rattle.std.specs.Prelude.{Some, None, Result, Ok, Err}
use mathlib.Core.Path.{◌≡◌, refl, sym, ◌∙◌, ap}
use mathlib.Core.Bool.{Bool, true, false, ◌&&◌}
use mathlib.Core.List.{List}
use mathlib.Core.Logic.{inl, inr}
use Prim.Native.Nat.{ℕ, ◌≤◌}
use native.Mathlib.Nat.{mul-one}
use native.Mathlib.Omega.{arith}
use borrow.Author.Tests.{leb-true}
use lib.Dec.{leb}
use lib.IntN.{ℤ}
use lib.ListN.{length}
use Rattle.rules.specs.declared.Rules.{Rules}
use Rattle.base.specs.Pieces.{done}
use Rattle.base.proofs.Choice.{and_second}
use Rattle.form.specs.declared.Form.TheVariants.{F8}
use Rattle.form.specs.Table
use Rattle.form.specs.Table.{form_of}
use Rattle.form.specs.Count
use Rattle.form.specs.Count.{cells_of}
use Rattle.count.specs.Rules
use Rattle.count.specs.Rules.{ruling_of}
use Rattle.count.specs.Tally.{count_of}
use Rattle.count.specs.Blame
use Rattle.count.proofs.Rulings.{ruling_kept}
use Rattle.reading.specs.Due.{Due}
use Rattle.reading.specs.Read.{read_group}
use Rattle.reading.proofs.Promises.{read_room}
use Rattle.group.specs.Text.{read_if}
use Rattle.reply.specs.declared.Refusal.{Refusal}

pub form_four : form_of 4 ≡ Some F8
unfolding Table.form_of Table.form_among Table.listed_as
form_four = refl

pub cells_four : (ρ : Rules) (n : ℕ) → cells_of ρ F8 n ≡ n
unfolding Count.cells_of Count.elements_of Count.is_segments Count.segment_elements Table.row_of Table.listed_as
cells_four ρ n = mul-one n

-- R124: group 4 has no more than 49
pub kept_four : (ns : List ℕ) → ruling_of ns ≡ None → count_of ns 4 ≤ 49
unfolding Blame.Blames Rules.head_rules
kept_four ns e = by (leb 1 (count_of ns 4) && leb (count_of ns 4) 49) refl
  where
    by : (t : Bool) → leb 1 (count_of ns 4) && leb (count_of ns 4) 49 ≡ t → count_of ns 4 ≤ 49
    by true u = leb-true (count_of ns 4) 49 (and_second (leb 1 (count_of ns 4)) (leb (count_of ns 4) 49) u)
    by false u = absurd (ruling_kept ns e 4 (inr (inr (inr (inl (u, refl))))))

pub room_four : (ρ : Rules) (ns : List ℕ) → ruling_of ns ≡ None → cells_of ρ F8 (count_of ns 4) ≤ 49
room_four ρ ns e = omega (arith, cells_four ρ (count_of ns 4), kept_four ns e)

-- so it reads the same into every table with room, whether its lines can be given or not
pub same_room : (ρ : Rules) (ns x : List ℕ) (c : Result (Unit {0}) Refusal) (room more : ℕ) → 49 ≤ room → 49 ≤ more → read_if c (read_group ρ ns 4 x room) ≡ read_if c (read_group ρ ns 4 x more)
same_room ρ ns x (Ok _) room more a b = read_room ρ ns 4 x room more F8 form_four (λ e. (omega (arith, room_four ρ ns e), omega (arith, room_four ρ ns e)))
same_room ρ ns x (Err r) room more a b = refl

-- it has a cell for each element
pub four_size : (ρ : Rules) (ns x : List ℕ) (room : ℕ) (cs : List ℤ) → Due ρ ns 4 x room (done cs) → length cs ≡ count_of ns 4
four_size ρ ns x room cs d =
    let h : Some d.cells.f ≡ Some F8 = sym d.cells.roomy.ruled.form ∙ form_four in
    let f : d.cells.f ≡ F8 = cc in
    d.cells.values.size ∙ ap (λ y. cells_of ρ y (count_of ns 4)) f ∙ cells_four ρ (count_of ns 4)
