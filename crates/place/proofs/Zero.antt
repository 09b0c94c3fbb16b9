-- A record that is placed with 0: it is located, with the counts that placing gives, and these keep the rules on counts.
-- Assumes nothing.
use Rattle.std.specs.Prelude.{None, Ok}
use mathlib.Core.Path.{◌≡◌, sym, ◌∙◌, ap}
use mathlib.Core.List.{List}
use Prim.Native.Nat.{ℕ}
use lib.ListN.{drop}
use Rattle.rules.specs.declared.Rules.{Rules}
use Rattle.count.specs.Rules.{ruling_of}
use Rattle.count.proofs.Releases.{release_given}
use Rattle.count.proofs.Rulings.{kept_ruling}
use Rattle.place.specs.declared.Placing.TheVariants.{Placed}
use Rattle.place.specs.Placing.{located, locate, counts_by, placing_of, counts_at}
use Rattle.place.proofs.Due.{first_due}
use Rattle.place.proofs.Indexed.{index_is}
use Rattle.place.proofs.Placed.{is_located}

pub record IsPlaced (ρ : Rules) (s : List ℕ) (at n : ℕ) : Type 0 where
  pub located_at : locate ρ s at ≡ located n (counts_at ρ s at)
  pub kept : ruling_of (counts_at ρ s at) ≡ None

pub is_placed_lem : (ρ : Rules) (s : List ℕ) (at n : ℕ) → placing_of ρ s at ≡ Placed n → IsPlaced ρ s at n
unfolding counts_at
is_placed_lem ρ s at n e =
    let d = (first_due ρ s at (Placed n)).0 e in
    let h = d.lines in
    let l : locate ρ s at ≡ located n d.ns = is_located ρ s at n d.ns record {
      inside = h.head.index.place.inside;
      head = h.head.index.place.lines;
      index = (index_is ρ (drop at s) d.ns).1 h.head.index.index;
      release = release_given d.ns (Ok tt) h.head.release;
      many = h.enough;
      next = h.next;
    } in
    let c : counts_at ρ s at ≡ d.ns = ap counts_by l in
    record { located_at = l ∙ ap (located n) (sym c); kept = ap ruling_of c ∙ kept_ruling d.ns d.kept }
