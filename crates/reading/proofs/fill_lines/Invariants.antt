-- `reading::fill_lines` meets its contract. The invariant (proofs/Filling.antt): the cells so far stand in the table, and what is left of the
-- lines gives the cells that are left.
-- Assumes nothing.
use Rattle.reading.proofs.Filling.{Filling}
use Rattle.reading.proofs.fill_lines.Given as goal

abbrev pub invariant-loop-j : goal.invariant-loop-j
invariant-loop-j l = Filling l.rules l.form.fields l.form.short l.count l.lines l.initial.table l.left l.at l.cell l.j l.table
