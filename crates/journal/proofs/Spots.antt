-- Cells by their spots: where they stand by the counts, and what putting one leaves.
-- Assumes nothing.
use Rattle.std.specs.Prelude.{Option, Some, None}
use mathlib.Core.Path.{◌≡◌, refl, sym, ap, ◌∙◌}
use mathlib.Core.Bool.{Bool, true, false}
use mathlib.Core.List.{List}
use Prim.Native.Nat.{ℕ, ◌+◌, ◌-◌, ◌<◌, ◌≤◌}
use native.Mathlib.Nat.{zero-add}
use native.Mathlib.Omega.{arith}
use lib.Dec.{leb, eqb}
use lib.IntN.{ℤ, pos}
use lib.ListN.{length, get_or, set, length-set, length-map, get_or-eq_default}
use lib.Seq.{set-set, set-get_or, ext_get_or, get_or-set_same, get_or-set_other}
use borrow.Author.Tests.{le-leb, lt-leb, eqb-true, eqb-false}
use Rattle.rules.specs.declared.Rules.{Rules}
use Rattle.base.specs.Every.{up_from}
use mathlib.Core.Logic.{◌⊎◌, inl, inr}
use Rattle.base.proofs.Choice.{and_false}
use Rattle.base.proofs.Order.{le_or_lt}
use Rattle.base.proofs.UpFrom.{length_up, get_d_map_up}
use Rattle.count.specs.Tally.{cells_before}
use Rattle.count.proofs.Tallied.{cells_below, cells_first}
use Rattle.journal.specs.Layout.{starts_of, spot_in, spot_of, get_at, put_at}

-- ---- putting

pub length_put : (s : Option ℕ) (v : ℤ) (t : List ℤ) → length (put_at s v t) ≡ length t
length_put (Some i) v t = length-set t i v
length_put None v t = refl

pub put_put : (s : Option ℕ) (v w : ℤ) (t : List ℤ) → put_at s w (put_at s v t) ≡ put_at s w t
put_put (Some i) v w t = set-set t i v w
put_put None v w t = refl

pub put_get : (s : Option ℕ) (t : List ℤ) → put_at s (get_at s t) t ≡ t
put_get (Some i) t = set-get_or t i (pos 0)
put_get None t = refl

-- ---- where groups begin

pub starts_length : (ρ : Rules) (ns : List ℕ) → length (starts_of ρ ns) ≡ 62
unfolding starts_of
starts_length ρ ns = length-map (up_from 0 62) (cells_before ρ ns) ∙ length_up 0 62

pub starts_at_lem : (ρ : Rules) (ns : List ℕ) (g : ℕ) → g < 62 → get_or (starts_of ρ ns) g 0 ≡ cells_before ρ ns g
unfolding starts_of
starts_at_lem ρ ns g h = get_d_map_up (cells_before ρ ns) 0 62 g 0 h ∙ ap (cells_before ρ ns) (zero-add g)

-- ---- filled from the first on

abbrev pub FilledTo : Rules → List ℕ → List ℕ → ℕ → Type 0
FilledTo ρ ns ps g = (i : ℕ) → i ≤ g → get_or ps i 0 ≡ cells_before ρ ns i

pub filled_more : (ρ : Rules) (ns ps : List ℕ) (g v : ℕ) → g + 1 < length ps → v ≡ cells_before ρ ns (g + 1) → FilledTo ρ ns ps g → FilledTo ρ ns (set ps (g + 1) v) (g + 1)
filled_more ρ ns ps g v l e f i h = by (eqb (g + 1) i) refl
  where
    by : (b : Bool) → eqb (g + 1) i ≡ b → get_or (set ps (g + 1) v) i 0 ≡ cells_before ρ ns i
    by true q = let z : g + 1 ≡ i = eqb-true (g + 1) i q in rw (← z, get_or-set_same ps (g + 1) v 0 l) e
    by false q =
        let z : i ≡ g + 1 → ⊥ = λ y. eqb-false (g + 1) i q (sym y) in
        get_or-set_other ps (g + 1) i v 0 z ∙ f i (omega arith)

pub filled_start : (ρ : Rules) (ns ps : List ℕ) → ((i : ℕ) → i ≤ 1 → get_or ps i 0 ≡ 0) → FilledTo ρ ns ps 1
filled_start ρ ns ps z i h = z i h ∙ none
  where
    none : 0 ≡ cells_before ρ ns i
    none = omega (arith, cells_below ρ ns i 1 h, cells_first ρ ns)

pub filled_all : (ρ : Rules) (ns ps : List ℕ) (g : ℕ) → length ps ≡ 62 → 61 ≤ g → FilledTo ρ ns ps g → ps ≡ starts_of ρ ns
filled_all ρ ns ps g l h f =
    ext_get_or 0 ps (starts_of ρ ns) (l ∙ sym (starts_length ρ ns)) (λ i k. f i (omega arith) ∙ sym (starts_at_lem ρ ns i (omega arith)))

-- ---- the code's tests

module _ (start end c : ℕ) where
  pub spot_zero : c < 1 → None ≡ spot_in start end c
  spot_zero h = rw (lt-leb 1 c h)

  pub spot_beyond : end - start < c → None ≡ spot_in start end c
  spot_beyond h = rw (lt-leb c (end - start) h, and_false (leb 1 c))

  -- a group without cells
  pub spot_none : end ≤ start → None ≡ spot_in start end c
  spot_none h = none (le_or_lt 1 c)
    where
      none : (1 ≤ c) ⊎ (c < 1) → None ≡ spot_in start end c
      none (inl k) = spot_beyond (omega arith)
      none (inr k) = spot_zero k

  pub spot_at : 1 ≤ c → c ≤ end - start → Some (start + (c - 1)) ≡ spot_in start end c
  spot_at h k = rw (le-leb 1 c h, le-leb c (end - start) k)

module _ (ps : List ℕ) (g c : ℕ) where
  pub spot_in_lem : spot_in (get_or ps g 0) (get_or ps (g + 1) 0) c ≡ spot_of ps g c
  unfolding spot_of
  spot_in_lem = refl

  -- the numbers behind 60
  pub spot_no_group : length ps ≡ 62 → 60 < g → None ≡ spot_of ps g c
  spot_no_group l h =
      spot_none (get_or ps g 0) (get_or ps (g + 1) 0) c (omega (arith, get_or-eq_default ps 0 {n = g + 1} (omega arith))) ∙ spot_in_lem
