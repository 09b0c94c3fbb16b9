-- A reply told as numbers: the same reply is told the same way, and the numbers tell the reply, so nothing is lost on the way to C.
-- Assumes nothing.
use mathlib.Core.Path.{◌≡◌, sym, ◌∙◌, ap}
use mathlib.Core.List.{List, map}
use Prim.Native.Nat.{ℕ}
use lib.Dec.{T}
use lib.ListN.{get_or}
use Rattle.reply.specs.declared.Reply.{Reply}
use Rattle.base.specs.Every.{has}
use Rattle.reply.specs.Table.{Row, Numbered}
use Rattle.reply.proofs.Replies.{numbered_known}
use Rattle.seambeacon.specs.Numbers.{eight_beside, Told}

module _ {r q : Reply} where
  pub told_as : {n : ℕ} {bs : List ℕ} → r ≡ q → Told r n bs → Told q n bs
  told_as e t = record { number = t.number ∙ ap (λ x. x.number) e; besides = t.besides ∙ ap eight_beside e }

  pub told_back : {n : ℕ} {bs : List ℕ} → Told r n bs → Told q n bs → r ≡ q
  told_back t u =
      let number : r.number ≡ q.number = sym t.number ∙ u.number in
      let all : eight_beside r ≡ eight_beside q = sym t.besides ∙ u.besides in
      let next : r.next ≡ q.next = ap (λ xs. get_or xs 0 0) all in
      let written : r.written ≡ q.written = ap (λ xs. get_or xs 1 0) all in
      let group : r.group ≡ q.group = ap (λ xs. get_or xs 2 0) all in
      let line : r.line ≡ q.line = ap (λ xs. get_or xs 3 0) all in
      let element : r.element ≡ q.element = ap (λ xs. get_or xs 4 0) all in
      let position : r.position ≡ q.position = ap (λ xs. get_or xs 5 0) all in
      let savepoint : r.savepoint ≡ q.savepoint = ap (λ xs. get_or xs 6 0) all in
      let place : r.place ≡ q.place = ap (λ xs. get_or xs 7 0) all in
      λ i. record { number = number i; next = next i; written = written i; group = group i; line = line i; element = element i; position = position i; savepoint = savepoint i; place = place i }

-- D1.2: the number that is told is one of the question's rows; `Numbered` is what `EndsNumbered` of sao says of each question's reply
pub told_known : (rows : List Row) (r : Reply) (n : ℕ) (bs : List ℕ) → Numbered rows r → Told r n bs → T (has (map (λ w. w.number) rows) n)
told_known rows r n bs k t = rw t.number (numbered_known rows r k)
