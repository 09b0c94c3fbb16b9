-- Under counts that are right, a cell's group has one byte and its number in the group two.
-- Assumes nothing.
use Rattle.std.specs.Prelude.{Some, None, Ok}
use mathlib.Core.Path.{◌≡◌, refl, sym, ap, ◌∙◌}
use mathlib.Core.Bool.{Bool, true, false, cond, ◌&&◌, ◌||◌}
use mathlib.Core.List.{List}
use mathlib.Core.Logic.{◌⊎◌, inl, inr}
use Prim.Native.Nat.{ℕ, ◌+◌, ◌-◌, ◌<◌, ◌≤◌}
use native.Mathlib.Omega.{arith}
use lib.Dec.{leb, eqb, T}
use lib.ListN.{get_or, get_or-eq_default}
use borrow.Author.Tests.{leb-true, eqb-true}
use Rattle.rules.specs.declared.Rules.{Rules}
use Rattle.base.specs.Every.{has}
use Rattle.base.proofs.Choice.{and_first, and_second}
use Rattle.base.proofs.Order.{le_or_lt}
use Rattle.form.specs.declared.Form.{Form}
use Rattle.form.specs.declared.Form.TheVariants.{F7, A120, A1, F8, I2, I3, I1, E11, E20, E8}
use Rattle.form.specs.Table.{listed_as, row_of}
use Rattle.form.specs.Count.{is_segments, elements_of, cells_of}
use Rattle.form.proofs.Segments.{elements_few}
use Rattle.form.proofs.Table.{form_listed, group_form}
use Rattle.count.specs.Tally.{count_of, cells_before, cells_in}
use Rattle.count.specs.Rules.{head_rules}
use Rattle.count.specs.Blame.{Blames, KeepsRules}
use Rattle.count.specs.Check.{checked_of}
use Rattle.count.specs.Due.{HasCells}
use Rattle.count.proofs.Tallied.{count_at, cells_has, cells_next, cells_first}
use Rattle.count.proofs.Due.{first_due}
use Rattle.journal.specs.Layout.{starts_of, spot_in, spot_of, exists}
use Rattle.journal.proofs.Spots.{starts_length, starts_at_lem}
use Rattle.journal.proofs.Walking.{no_way}

-- R122: group 2 has at most two elements
two_few : (ns : List ℕ) → KeepsRules ns → count_of ns 2 ≤ 2
unfolding head_rules Blames
two_few ns k = by (leb (count_of ns 2) 2) refl
  where
    by : (b : Bool) → leb (count_of ns 2) 2 ≡ b → count_of ns 2 ≤ 2
    by true e = leb-true (count_of ns 2) 2 e
    by false e = absurd (k 2 (inr (inl (e, refl))))

form_small : (ρ : Rules) (f : Form) (n : ℕ) → n ≤ 999 → (f ≡ A120 → n ≤ 2) → cells_of ρ f n < 65536
unfolding cells_of elements_of is_segments row_of listed_as
form_small ρ F7 n h k = omega arith
form_small ρ A120 n h k = let l = k refl in omega arith
form_small ρ A1 n h k = omega arith
form_small ρ F8 n h k = omega arith
form_small ρ I2 n h k = omega arith
form_small ρ I3 n h k = omega arith
form_small ρ I1 n h k = omega arith
form_small ρ E11 n h k = omega arith
form_small ρ E20 n h k = omega (arith, elements_few ρ E20 n)
form_small ρ E8 n h k = omega arith

letters : (g : ℕ) → T (has (listed_as A120).groups g) → g ≡ 2
unfolding listed_as
letters g t = by (eqb 2 g) refl t
  where
    by : (b : Bool) → eqb 2 g ≡ b → T (b || false) → g ≡ 2
    by true e t = sym (eqb-true 2 g e)
    by false e t = absurd t

group_small : (ρ : Rules) (ns : List ℕ) (n : ℕ) → HasCells ρ ns n → (g : ℕ) → 1 ≤ g → g ≤ 60 → cells_in ρ ns g < 65536
group_small ρ ns n d g l h =
    let f = group_form g l h in
    let m : count_of ns g ≤ 999 = rw (count_at ns g l) (d.rules.released.counts.small (g - 1) (omega arith)) in
    rw (cells_has ρ ns g f.0 f.1) (form_small ρ f.0 (count_of ns g) m (λ q. few (letters g ((form_listed A120 g).0 (f.1 ∙ ap Some q)))))
  where
    few : g ≡ 2 → count_of ns g ≤ 2
    few e = rw e (two_few ns d.rules.kept)

spot_exists : (start end c : ℕ) → exists (spot_in start end c) ≡ true → (1 ≤ c) × (c ≤ end - start)
spot_exists start end c h = by (leb 1 c && leb c (end - start)) refl h
  where
    by : (b : Bool) → (leb 1 c && leb c (end - start)) ≡ b → exists (cond b (Some (start + (c - 1))) None) ≡ true → (1 ≤ c) × (c ≤ end - start)
    by true e q = (leb-true 1 c (and_first (leb 1 c) (leb c (end - start)) e), leb-true c (end - start) (and_second (leb 1 c) (leb c (end - start)) e))
    by false e q = no_way (sym q)

pub cell_small : (ρ : Rules) (ns : List ℕ) (n : ℕ) → checked_of ρ ns n ≡ Ok tt → (g c : ℕ) → exists (spot_of (starts_of ρ ns) g c) ≡ true → (g < 256) × (c < 65536)
unfolding spot_of
cell_small ρ ns n e g c h =
    let q = spot_exists (get_or (starts_of ρ ns) g 0) (get_or (starts_of ρ ns) (g + 1) 0) c h in
    by (le_or_lt g 60) q
  where
    by : (g ≤ 60) ⊎ (60 < g) → (1 ≤ c) × (c ≤ get_or (starts_of ρ ns) (g + 1) 0 - get_or (starts_of ρ ns) g 0) → (g < 256) × (c < 65536)
    by (inr l) q = absurd (omega (arith, q.0, q.1, get_or-eq_default (starts_of ρ ns) 0 {n = g + 1} (omega (arith, starts_length ρ ns))))
    by (inl l) q = some (le_or_lt 1 g)
      where
        within : c ≤ cells_before ρ ns (g + 1) - cells_before ρ ns g
        within = rw (starts_at_lem ρ ns g (omega arith), starts_at_lem ρ ns (g + 1) (omega arith)) at q.1

        some : (1 ≤ g) ⊎ (g < 1) → (g < 256) × (c < 65536)
        some (inl k) = (omega arith, omega (arith, within, cells_next ρ ns g (omega arith) (omega arith), group_small ρ ns n ((first_due ρ ns n (Ok tt)).0 e) g k l))
        some (inr k) = let z : g ≡ 0 = omega arith in absurd (omega (arith, q.0, rw z at within, cells_first ρ ns))
