-- The invariant: what was printed and what is to be printed from the place on are the whole; and the output has grown by what was printed.
use Rattle.std.proofs.Common.{length, ◌-◌, ◌≡◌}
use Rattle.rewrite.proofs.Writing.{Writing}
use Rattle.rewrite.proofs.print_text.Given as goal

abbrev pub invariant-loop-at : goal.invariant-loop-at
invariant-loop-at g l =
    (length l.table ≡ 8192) × (length l.page ≡ 8192) × Writing l.rules l.text l.at (g.W.Write.contents l.initial.out) (g.W.Write.contents l.out)

abbrev pub decreases-loop-at : goal.decreases-loop-at
decreases-loop-at g l = length l.text - l.at
