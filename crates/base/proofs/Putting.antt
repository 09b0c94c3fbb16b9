-- A loop that puts texts behind one another into lent bytes: what is still to be put, put here, gives what was asked.
-- Assumes nothing.
use mathlib.Core.Path.{◌≡◌, refl, sym, ◌∙◌, ap}
use mathlib.Core.List.{List, [], ◌++◌}
use Prim.Native.Nat.{ℕ, ◌+◌, ◌≤◌}
use native.Mathlib.Omega.{arith}
use lib.ListN.{length, length-append}
use Rattle.base.specs.Part.{over}
use Rattle.base.proofs.Part.{over_length, over_none, over_over}

-- `whole` is asked for at `at` of `old`; `out` has all but `rest`, which belongs at a
pub record Putting (at : ℕ) (whole old : List ℕ) (a : ℕ) (rest out : List ℕ) : Type 0 where
  pub long : length out ≡ length old
  pub place : a + length rest ≡ at + length whole
  pub inside : at + length whole ≤ length old
  pub same : over a rest out ≡ over at whole old

pub putting_start : (at : ℕ) (whole old : List ℕ) → at + length whole ≤ length old → Putting at whole old at whole old
putting_start at whole old h = record { long = refl; place = refl; inside = h; same = refl }

module _ {at a : ℕ} {whole old rest out : List ℕ} (p : Putting at whole old a rest out) where
  -- the next text has room, and the place behind it is no further than where all ends
  pub putting_room : (x more : List ℕ) → rest ≡ x ++ more → a + length x ≤ length out
  putting_room x more e = omega (arith, p.long, p.place, p.inside, ap length e, length-append x more)

  pub putting_more : (x more new : List ℕ) (b : ℕ) → rest ≡ x ++ more → b ≡ a + length x → new ≡ over a x out → Putting at whole old b more new
  putting_more x more new b e n q =
      let l : length rest ≡ length x + length more = ap length e ∙ length-append x more in
      let r : a + length x ≤ length out = putting_room x more e in
      record {
        long = ap length q ∙ over_length out x a r ∙ p.long;
        place = omega (arith, p.place);
        inside = p.inside;
        same = rw (n, q) (over_over out x more a r ∙ ap (λ y. over a y out) (sym e) ∙ p.same);
      }

  -- nothing is left
  pub putting_end : rest ≡ [] → out ≡ over at whole old
  putting_end e = over_none out a ∙ ap (λ y. over a y out) (sym e) ∙ p.same
