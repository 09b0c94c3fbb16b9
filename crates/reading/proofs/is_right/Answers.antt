-- `reading::is_right` meets its contract: test by test, and then the bytes behind the fields.
-- Assumes nothing.
use mathlib.Core.Path.{sym, ◌∙◌, subst}
use Prim.Native.Nat.{◌<◌, ◌≤◌}
use borrow.Author.Tests.{le-leb, lt-leb}
use lib.ListN.{length}
use Rattle.reading.specs.Blanks.{shortest}
use Rattle.reading.proofs.Blanks.{right_short, right_long, right_exact, right_blanks}
use Rattle.reading.proofs.is_right.Goals as goal

pub returns-then-n-columns : goal.returns-then-n-columns
returns-then-n-columns c =
    let enough : shortest c.args.short c.args.columns ≤ length c.args.content.now =
    subst (λ m. m ≤ length c.args.content.now) c.least.ensures c.if-least-n.true in
    le-leb _ _ c.if-n-columns.true ∙ sym (right_exact _ _ _ (enough) c.if-n-le120.true c.if-n-columns.true)

pub returns-else-n-columns : goal.returns-else-n-columns
returns-else-n-columns c =
    let enough : shortest c.args.short c.args.columns ≤ length c.args.content.now =
    subst (λ m. m ≤ length c.args.content.now) c.least.ensures c.if-least-n.true in
    c.all_blank.ensures ∙ sym (right_blanks _ _ _ (enough) c.if-n-le120.true)

pub returns-else-n-le120 : goal.returns-else-n-le120
returns-else-n-le120 c =
    let enough : shortest c.args.short c.args.columns ≤ length c.args.content.now =
    subst (λ m. m ≤ length c.args.content.now) c.least.ensures c.if-least-n.true in
    lt-leb _ _ c.if-n-le120.false ∙ sym (right_long _ _ _ (enough) c.if-n-le120.false)

pub returns-else-least-n : goal.returns-else-least-n
returns-else-least-n c =
    lt-leb _ _ c.if-least-n.false
    ∙ sym (right_short _ _ _ (subst (λ m. length c.args.content.now < m) c.least.ensures c.if-least-n.false))
