-- `writing::put_lines` meets its contract. The invariant: the lines of the elements that are left, put behind the others, make all of them.
use Rattle.std.proofs.Common.{◌≡◌, ◌*◌}
use Rattle.std.specs.Slice.Iter.{chunks_size, chunks_rest}
use Rattle.form.specs.Table.{row_of}
use Rattle.writing.proofs.Putting.{Lines}
use Rattle.writing.proofs.put_lines.Given as goal

abbrev pub invariant-loop-line : goal.invariant-loop-line
invariant-loop-line l = (chunks_size l.line-iterator ≡ (row_of l.form).per_line * (row_of l.form).cells) × Lines l.form l.cells l.at l.initial.out l.a (chunks_rest l.line-iterator) l.out
