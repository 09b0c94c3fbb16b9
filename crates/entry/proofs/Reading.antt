-- A field stays within the text.
-- Assumes nothing.
use mathlib.Core.List.{List}
use Prim.Native.Nat.{ℕ, ◌+◌, ◌≤◌}
use native.Mathlib.Omega.{arith}
use lib.Dec.{ltb, eqb}
use lib.ListN.{length, get_or, drop, length-drop}
use borrow.Author.Tests.{ltb-false}
use Rattle.base.proofs.Choice.{cond_elim}
use Rattle.entry.specs.declared.Entry.{Entry}
use Rattle.entry.specs.Field.{entry_size, numbered, entry_in, field_at}

module _ (n : ℕ) where
  abbrev Within : Entry → Type 0
  Within e = entry_size e ≤ n

  numbered_within : (t k : ℕ) → 4 ≤ n → Within (numbered t k)
  numbered_within t k h =
      cond_elim Within (eqb t 2) (λ q. h) (λ q. cond_elim Within (eqb t 3) (λ q. h) (λ q. cond_elim Within (eqb t 4) (λ q. h) (λ q. omega arith)))

pub field_size : (xs : List ℕ) → entry_size (entry_in xs) ≤ length xs
unfolding entry_in
field_size xs =
    let n = length xs in
    cond_elim (Within n) (ltb n 4) (λ q. omega arith) (λ q.
    let h : 4 ≤ n = ltb-false n 4 q in
    cond_elim (Within n) (eqb (get_or xs 1 0) 0) (λ q.
    cond_elim (Within n) (eqb (get_or xs 0 0) 1)
    (λ q. cond_elim (Within n) (eqb (get_or xs 2 0) 19) (λ q. cond_elim (Within n) (ltb n 22) (λ q. omega arith) (λ q. ltb-false n 22 q)) (λ q. omega arith))
    (λ q. cond_elim (Within n) (eqb (get_or xs 2 0) 1) (λ q. numbered_within n (get_or xs 0 0) (get_or xs 3 0) h) (λ q. omega arith)))
    (λ q. omega arith))

pub next_within : (s : List ℕ) (p : ℕ) → p ≤ length s → p + entry_size (field_at s p) ≤ length s
next_within s p h = omega (arith, field_size (drop p s), length-drop p s)
