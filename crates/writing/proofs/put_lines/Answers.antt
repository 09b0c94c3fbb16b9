-- `writing::put_lines` meets its contract. The invariant: the lines of the elements that are left, put behind the others, make all of them.
use Rattle.std.proofs.Common.{◌≡◌, ◌∙◌, ◌++◌, ◌+◌, ◌*◌, ◌<◌, ◌≤◌, min, length, arith, rules}
use Rattle.std.specs.Slice.Iter.{chunks_rest}
use Rattle.base.specs.Part.{over}
use Rattle.form.specs.Table.{row_of}
use Rattle.writing.specs.Fitting.{many_of, AllFit}
use Rattle.writing.specs.Text.{many_text, many_bytes}
use Rattle.writing.proofs.Rows.{line_some, line_few}
use Rattle.writing.proofs.Putting.{lines_start, lines_end, line_requires, lines_next}
use Rattle.writing.proofs.put_lines.Goals.{In-Some, In-None}
use Rattle.writing.proofs.put_lines.Goals as goal

pub overflow_mul-row : goal.overflow_mul-row
overflow_mul-row c = rw c.row_of-row.ensures (omega (arith, line_few c.args.form))

pub chunks-line-items-requires : goal.chunks-line-items-requires
chunks-line-items-requires c = rw c.row_of-row.ensures (omega (arith, line_some c.args.form))

pub loop-line-init-derived : goal.loop-line-init-derived
loop-line-init-derived c = let h = line_some c.args.form in search rules

pub loop-line-init : goal.loop-line-init
loop-line-init c = let h = lines_start c.args.form c.args.cells.now c.args.at c.args.out.now c.requires.fit c.requires.room in search rules

-- the next line's cells
split : (c : In-Some) → (chunks_rest c.loop-line.line-iterator ≡ c.in-Some.line.now ++ chunks_rest c.next.new.self)
    × (length c.in-Some.line.now ≡ min ((row_of c.args.form).per_line * (row_of c.args.form).cells) (length (chunks_rest c.loop-line.line-iterator)))
    × (0 < length (chunks_rest c.loop-line.line-iterator))
split c = search rules

needs : (c : In-Some) → AllFit c.args.form c.in-Some.line.now × (c.loop-line.a + many_of c.args.form c.in-Some.line.now * (row_of c.args.form).width + 2 ≤ length c.loop-line.out)
needs c = let s = split c in line_requires c.args.form c.args.cells.now c.args.at c.args.out.now c.loop-line.invariant.1 _ _ s.0 s.1 s.2

pub put_fields-a-requires-clause-fit : goal.put_fields-a-requires-clause-fit
put_fields-a-requires-clause-fit c = (needs (goal.at.put_fields-a-requires-clause-fit c).In-Some).0

pub put_fields-a-requires-clause-room : goal.put_fields-a-requires-clause-room
put_fields-a-requires-clause-room c = omega (arith, (needs (goal.at.put_fields-a-requires-clause-room c).In-Some).1)

pub put_line_end-requires : goal.put_line_end-requires
put_line_end-requires c = omega (arith, (needs (goal.at.put_line_end-requires c).In-Some).1, c.put_fields-a.ensures.answer)

pub loop-line-preserved : goal.loop-line-preserved
loop-line-preserved c =
    let s = split (goal.at.loop-line-preserved c).In-Some in (
      c.next.ensures.steps.0 ∙ c.loop-line.invariant.0,
      lines_next c.args.form c.args.cells.now c.args.at c.args.out.now c.loop-line.invariant.1 _ _ s.0 s.1 s.2 _ _ _ c.put_fields-a.ensures.answer c.put_fields-a.ensures.output c.put_line_end.ensures,
    )

all : (c : In-None) → (c.loop-line.a ≡ c.args.at + many_bytes c.args.form (many_of c.args.form c.args.cells.now)) × (c.loop-line.out ≡ over c.args.at (many_text c.args.form (many_of c.args.form c.args.cells.now) c.args.cells.now) c.args.out.now)
all c =
    let e : length (chunks_rest c.loop-line.line-iterator) ≡ 0 = search rules in
    lines_end c.args.form c.args.cells.now c.args.at c.args.out.now c.loop-line.invariant.1 c.requires.fit e

pub returns-clause-answer : goal.returns-clause-answer
returns-clause-answer c = (all (goal.at.returns-clause-answer c).In-None).0

pub returns-clause-output : goal.returns-clause-output
returns-clause-output c = (all (goal.at.returns-clause-output c).In-None).1
