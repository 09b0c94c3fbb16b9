-- `reading::check_lines` meets its contract. The invariants (proofs/Checking.antt): the verdict on the lines that are left is the verdict on all;
-- the fields of a line so far are formed.
-- Assumes nothing.
use Rattle.std.specs.Prelude.{Ok}
use mathlib.Core.Path.{◌≡◌}
use Rattle.reading.specs.Blanks.{FormedBelow}
use Rattle.reading.proofs.Checking.{Checking}
use Rattle.reading.proofs.check_lines.Given as goal

abbrev pub invariant-lines : goal.invariant-lines
invariant-lines l = record {
  verdict : l.verdict ≡ Ok tt;
  checking : Checking l.rules l.form.fields l.form.short l.count l.lines l.left l.at l.j;
}

abbrev pub invariant-loop-k : goal.invariant-loop-k
invariant-loop-k l = record {
  verdict : l.verdict ≡ Ok tt;
  formed : FormedBelow l.form.fields l.form.short l.at l.stop l.lines l.k;
}
