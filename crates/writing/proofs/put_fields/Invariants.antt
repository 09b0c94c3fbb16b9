-- `writing::put_fields` meets its contract. The invariant: the fields of the elements that are left, put behind the others, make all of them.
use Rattle.std.proofs.Common.{◌≡◌}
use Rattle.std.specs.Slice.Iter.{chunks_exact_size, chunks_exact_rest}
use Rattle.form.specs.Table.{row_of}
use Rattle.writing.proofs.Putting.{Fields}
use Rattle.writing.proofs.put_fields.Given as goal

abbrev pub invariant-loop-element : goal.invariant-loop-element
invariant-loop-element l = (chunks_exact_size l.element-iterator ≡ (row_of l.form).cells) × Fields l.form l.cells l.at l.initial.out l.a (chunks_exact_rest l.element-iterator) l.out
