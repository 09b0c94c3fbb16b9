-- What is left to pass from here comes to the place asked for.
use Rattle.std.proofs.Common.{◌≡◌, ◌-◌, ◌≤◌, length}
use Rattle.journal.specs.Entries.{place_at}
use Rattle.journal.proofs.Fields.place_after.Given as goal

abbrev pub invariant-loop-i : goal.invariant-loop-i
invariant-loop-i l = (l.place ≤ length l.self.bytes.now) × (place_at l.self.bytes.now l.place (l.n - l._i) ≡ place_at l.self.bytes.now l.at l.n)
