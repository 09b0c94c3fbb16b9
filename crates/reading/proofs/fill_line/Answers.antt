-- `reading::fill_line` meets its contract: a clean line has a content, no shorter than its columns, and its fields are a run.
-- Assumes nothing.
use native.Mathlib.Omega.{arith}
use mathlib.Core.Path.{◌≡◌, refl, sym, ◌∙◌, ap, subst}
use Prim.Native.Nat.{ℕ, ◌+◌, ◌*◌, ◌<◌, ◌≤◌}
use lib.ListN.{length, drop}
use Rattle.std.specs.Prelude.{Option, Some, None}
use Rattle.std.specs.Option.{IsSome}
use Rattle.base.specs.Part.{part, over}
use Rattle.form.specs.declared.Row.{Row}
use Rattle.form.proofs.Rows.{row_fits}
use Rattle.line.specs.Lines.{reach}
use Rattle.line.specs.Contents.{content_of}
use Rattle.reading.specs.Blanks.{shortest, ToPut, filled_to}
use Rattle.run.specs.Run.{run_cells}
use Rattle.reading.proofs.Blanks.{shortest_most}
use Rattle.reading.proofs.Checking.{columns_few}
use Rattle.reading.proofs.Filling.{has_content, end_behind, fill_inside, to_put, line_put}
use Rattle.reading.proofs.Trying.{line_range}
use Rattle.reading.proofs.fill_line.Goals.{After-row_of, After-behind_line-end, After-unwrap-length}
use Rattle.reading.proofs.fill_line.Goals as goal

few : (c : After-row_of) → c.args.line.many * c.row_of.result.width ≤ 120 * 120
few c = rw c.row_of.ensures (columns_few c.args.form.fields c.args.line.many (omega (arith, c.requires.few, (row_fits c.args.form.fields).few)))

-- the end that is sought behind the fields is that of the line
end : (c : After-behind_line-end) → c.behind_line-end.result ≡ c.args.at + reach (drop c.args.at c.args.lines.now) 1
end c =
    let a = c.args in
    c.behind_line-end.ensures
    ∙ end_behind a.rules a.form.fields a.form.short a.line a.lines.now a.at c.requires.inside c.requires.clean c.least.result
    (c.least.ensures ∙ ap (λ r. shortest a.form.short (a.line.many * r.width)) c.row_of.ensures)

content : (c : After-unwrap-length) → c.behind_line-end.result ≡ c.args.at + reach (drop c.args.at c.args.lines.now) 1
    → content_of c.args.rules (part c.args.at (c.args.at + reach (drop c.args.at c.args.lines.now) 1) c.args.lines.now) ≡ Some c.unwrap-length.result
content c e = sym (c.content_length.ensures ∙ ap (λ n. content_of c.args.rules (part c.args.at n c.args.lines.now)) e) ∙ c.unwrap-length.ensures

pub overflow_mul-columns : goal.overflow_mul-columns
overflow_mul-columns c = omega (arith, few (goal.at.overflow_mul-columns c).After-row_of)

pub overflow_add-at : goal.overflow_add-at
overflow_add-at c = omega (arith, few (goal.at.overflow_add-at c).After-row_of, c.least.ensures, shortest_most c.args.form.short (c.args.line.many * c.row_of.result.width))

pub slice_bounds-content_length-end : goal.slice_bounds-content_length-end
slice_bounds-content_length-end c =
    omega (arith, end (goal.at.slice_bounds-content_length-end c).After-behind_line-end, line_range c.args.rules c.args.lines.now c.args.at c.requires.inside)

pub unwrap-length-requires : goal.unwrap-length-requires
unwrap-length-requires c =
    let a = c.args in
    let its = c.content_length.ensures ∙ ap (λ e. content_of a.rules (part a.at e a.lines.now)) (end (goal.at.unwrap-length-requires c).After-behind_line-end) in
    some c.content_length.result (λ none. has_content a.rules a.form.fields a.form.short a.line a.lines.now a.at c.requires.inside c.requires.clean (sym its ∙ none))
  where
    some : (o : Option ℕ) → (o ≡ None → ⊥) → IsSome o
    some (Some n) h = refl
    some None h = absurd (h refl)

inside : (c : After-unwrap-length) → c.behind_line-end.result ≡ c.args.at + reach (drop c.args.at c.args.lines.now) 1 → c.args.at + c.unwrap-length.result < length c.args.lines.now
inside c e =
    let a = c.args in
    fill_inside a.rules a.form.fields a.form.short a.line a.lines.now a.at c.requires.inside c.requires.clean c.unwrap-length.result (content c e)

pub overflow_add-stop : goal.overflow_add-stop
overflow_add-stop c = let p = goal.at.overflow_add-stop c in omega (arith, inside p.After-unwrap-length (end p.After-behind_line-end))

pub slice_bounds-put_line-end : goal.slice_bounds-put_line-end
slice_bounds-put_line-end c = let p = goal.at.slice_bounds-put_line-end c in omega (arith, inside p.After-unwrap-length (end p.After-behind_line-end))

pub put_line-requires : goal.put_line-requires
put_line-requires c =
    let a = c.args in
    let p = goal.at.put_line-requires c in
    let its = part a.at (a.at + c.unwrap-length.result) a.lines.now in
    subst (λ (r : Row). ToPut a.form.fields a.form.short a.line.many (a.line.many * r.width) its (length a.table.now) a.cell) (sym c.row_of.ensures)
    (to_put a.rules a.form.fields a.form.short a.line a.lines.now a.at c.requires.inside c.requires.clean c.unwrap-length.result
    (content p.After-unwrap-length (end p.After-behind_line-end)) c.args.form.letters (length a.table.now) a.cell c.requires.room)

pub returns-clause-end : goal.returns-clause-end
returns-clause-end c = end (goal.at.returns-clause-end c).After-behind_line-end

pub returns-clause-table : goal.returns-clause-table
returns-clause-table c =
    let a = c.args in
    let p = goal.at.returns-clause-table c in
    let its = part a.at (a.at + c.unwrap-length.result) a.lines.now in
    c.put_line.ensures
    ∙ ap (λ r. over a.cell (run_cells a.form.fields a.line.many (filled_to (a.line.many * r.width) its)) a.table.now) c.row_of.ensures
    ∙ ap (λ cs. over a.cell cs a.table.now)
    (line_put a.rules a.form.fields a.form.short a.line a.lines.now a.at c.requires.inside c.requires.clean c.unwrap-length.result (content p.After-unwrap-length (end p.After-behind_line-end)))
