-- Printable codes: none is a control character.
-- Assumes nothing.
use mathlib.Core.Bool.{not}
use mathlib.Core.List.{List}
use Prim.Native.Nat.{ℕ, ◌<◌}
use native.Mathlib.Omega.{arith}
use borrow.Author.Tests.{ne_eqb}
use lib.Dec.{T, leb, eqb, leb→le}
use Rattle.base.specs.Ascii.{printable}
use Rattle.base.specs.Every.{every}
use Rattle.base.proofs.Choice.{and_left}
use Rattle.base.proofs.Every.{every_imply}

-- no byte of a printable text is a given code below the blank, as the line feed or the carriage return
pub printable_without : (c : ℕ) (s : List ℕ) → c < 32 → T (every printable s) → T (every (λ b. not (eqb b c)) s)
printable_without c s h t = every_imply printable (λ b. not (eqb b c)) s (λ b p. other b p) t
  where
    other : (b : ℕ) → T (printable b) → T (not (eqb b c))
    other b p =
        let l = leb→le 32 b (and_left (leb 32 b) (leb b 126) p) in
        rw (ne_eqb b c (λ e. omega arith)) tt
