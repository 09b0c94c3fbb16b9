-- `writing::elements_fit` meets its contract: the first chunk that fits no field is the first element that has none.
use Rattle.std.proofs.Common.{◌≡◌, ◌∙◌, ◌*◌, ℕ, length, sym, ap, arith, rules}
use Rattle.std.specs.Slice.Iter.{chunks_exact_size, chunks_exact_rest}
use Rattle.std.specs.Iterator.Runs.{IsChunksExactRun}
use Rattle.form.specs.Table.{row_of}
use Rattle.writing.specs.Fitting.{many_fit}
use Rattle.writing.proofs.Rows.{some_cells}
use Rattle.writing.proofs.Checking.{found, elements_run}
use Rattle.writing.proofs.elements_fit.Goals.{After-position}
use Rattle.writing.proofs.elements_fit.Goals as goal

told : (c : After-position) (n : ℕ) → length c.args.cells.now ≡ n * (row_of c.args.form).cells → found c.args.group c.position.result ≡ many_fit c.args.form c.args.group n c.args.cells.now
told c n l =
    let a = c.args in
    let p = c.position.ensures.runs.0 in
    let s : chunks_exact_size p.from ≡ (row_of a.form).cells = search rules in
    let r : chunks_exact_rest p.from ≡ a.cells.now = search rules in
    let u : IsChunksExactRun p (chunks_exact_size p.from) (chunks_exact_rest p.from) = c.chunks_exact.ensures.runs p p.seen (omega (arith, some_cells a.form)) in
    elements_run p a.form a.group n a.cells.now l (rw (s, r) at u) _ _ (λ a r f' k. search rules) _ c.position.ensures.runs.2

pub returns-in-Some : goal.returns-in-Some
returns-in-Some c = λ n l. ap (found c.args.group) (sym c.in-Some.is) ∙ told (goal.at.returns-in-Some c).After-position n l

pub returns-in-None : goal.returns-in-None
returns-in-None c = λ n l. ap (found c.args.group) (sym c.in-None.is) ∙ told (goal.at.returns-in-None c).After-position n l
