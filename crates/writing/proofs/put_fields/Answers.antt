-- `writing::put_fields` meets its contract. The invariant: the fields of the elements that are left, put behind the others, make all of them.
use Rattle.std.proofs.Common.{◌≡◌, ◌∙◌, ◌++◌, ◌+◌, ◌*◌, ◌<◌, length, ap, arith, rules}
use Rattle.std.specs.Slice.Iter.{chunks_exact_rest}
use Rattle.base.specs.Part.{over}
use Rattle.form.specs.Table.{row_of}
use Rattle.writing.specs.Fitting.{many_of}
use Rattle.writing.specs.Text.{fields_text, line_of_many}
use Rattle.writing.proofs.Rows.{some_cells}
use Rattle.writing.proofs.Putting.{fields_start, fields_end, field_requires, fields_next}
use Rattle.writing.proofs.put_fields.Goals.{In-Some, In-None}
use Rattle.writing.proofs.put_fields.Goals as goal

pub chunks_exact-element-items-requires : goal.chunks_exact-element-items-requires
chunks_exact-element-items-requires c = omega (arith, some_cells c.args.form, ap (λ r. r.cells) c.requires.row)

pub loop-element-init-derived : goal.loop-element-init-derived
loop-element-init-derived c = let h = some_cells c.args.form in search rules

pub loop-element-init : goal.loop-element-init
loop-element-init c = let h = fields_start c.args.form c.args.cells.now c.args.at c.args.out.now c.requires.fit c.requires.room in search rules

split : (c : In-Some) → (chunks_exact_rest c.loop-element.element-iterator ≡ c.in-Some.element.now ++ chunks_exact_rest c.next.new.self) × (length c.in-Some.element.now ≡ (row_of c.args.form).cells)
split c = search rules

pub put-requires-clause-fits : goal.put-requires-clause-fits
put-requires-clause-fits c = let s = split (goal.at.put-requires-clause-fits c).In-Some in (field_requires c.args.form c.args.cells.now c.args.at c.args.out.now c.loop-element.invariant.1 _ _ s.0 s.1).0

pub put-requires-clause-room : goal.put-requires-clause-room
put-requires-clause-room c = let s = split (goal.at.put-requires-clause-room c).In-Some in (field_requires c.args.form c.args.cells.now c.args.at c.args.out.now c.loop-element.invariant.1 _ _ s.0 s.1).1

pub loop-element-preserved : goal.loop-element-preserved
loop-element-preserved c =
    let s = split (goal.at.loop-element-preserved c).In-Some in
    let n = fields_next c.args.form c.args.cells.now c.args.at c.args.out.now c.loop-element.invariant.1 _ _ s.0 s.1 _ c.put.ensures in
    (c.next.ensures.steps.0 ∙ c.loop-element.invariant.0, rw (ap (λ r. r.width) c.requires.row) n)

all : (c : In-None) → (c.loop-element.a ≡ c.args.at + many_of c.args.form c.args.cells.now * (row_of c.args.form).width) × (c.loop-element.out ≡ over c.args.at (fields_text c.args.form (line_of_many (many_of c.args.form c.args.cells.now)) c.args.cells.now) c.args.out.now)
all c =
    let e : length (chunks_exact_rest c.loop-element.element-iterator) < (row_of c.args.form).cells = search rules in
    fields_end c.args.form c.args.cells.now c.args.at c.args.out.now c.loop-element.invariant.1 c.requires.fit e

pub returns-clause-answer : goal.returns-clause-answer
returns-clause-answer c = (all (goal.at.returns-clause-answer c).In-None).0

pub returns-clause-output : goal.returns-clause-output
returns-clause-output c = (all (goal.at.returns-clause-output c).In-None).1
