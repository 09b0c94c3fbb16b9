-- `run::each` meets its contract. The invariant: the fields so far have passed.
use Rattle.std.proofs.Common.{◌≡◌, Bool, true, ℕ, List, length, take}
use Rattle.base.specs.Every.{every}
use Rattle.run.proofs.each.Given as goal

abbrev pub invariant-loop-s : goal.invariant-loop-s
invariant-loop-s g l = (h : List ℕ → Bool)
    → ((s : _) (r : Bool) → length s.now ≡ g.row.W → goal.F-post g l.test s r → r ≡ h s.now)
    → every h (take l.s-index l.fields) ≡ true
