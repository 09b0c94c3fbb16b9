-- `reading::all_formed` meets its contract: letters that print; or a run of all columns; or the last field lacks a column.
-- Assumes nothing.
use native.Mathlib.Omega.{arith}
use borrow.Author.Tests.{ne_eqb}
use mathlib.Core.Path.{sym, ap, ◌∙◌}
use Prim.Native.Nat.{◌+◌, ◌-◌, min}
use lib.ListN.{drop, length-drop}
use lib.Seq.{length-take-le}
use Rattle.reading.proofs.Letters.{letters_forms}
use Rattle.reading.proofs.Runs.{letters_all, run_all, run_short}
use Rattle.reading.proofs.all_formed.Goals as goal

pub returns-then-form : goal.returns-then-form
returns-then-form c =
    let a = c.args in
    let looks = ap (λ n. a.at + n) (c.min.ensures ∙ ap (λ n. min n (a.stop - a.at)) c.requires.columns) in
    c.all_printable.ensures
    ∙ letters_all a.form.fields a.k a.at a.stop _ a.lines.now c.requires.order c.requires.lines looks c.if-form.true (letters_forms a.form.fields (a.form.letters c.if-form.true))

pub returns-else-to-at : goal.returns-else-to-at
returns-else-to-at c =
    let a = c.args in
    let looks = ap (λ n. a.at + n) (c.min.ensures ∙ ap (λ n. min n (a.stop - a.at)) c.requires.columns) in
    ne_eqb _ _ c.if-to-at.false
    ∙ run_short a.form.fields a.k a.at a.stop _ a.lines.now c.requires.order c.requires.lines looks c.if-form.false (λ e. c.if-to-at.false (e ∙ sym c.requires.columns))

pub formed-requires : goal.formed-requires
formed-requires c =
    let a = c.args in
    length-take-le (a.at + c.min.result - a.at) (drop a.at a.lines.now) (omega (arith, length-drop a.at a.lines.now, c.min.ensures, c.requires.lines))
    ∙ c.if-to-at.true ∙ c.requires.columns

pub returns-then-to-at : goal.returns-then-to-at
returns-then-to-at c =
    let a = c.args in
    let looks = ap (λ n. a.at + n) (c.min.ensures ∙ ap (λ n. min n (a.stop - a.at)) c.requires.columns) in
    c.formed.ensures
    ∙ run_all a.form.fields a.k a.at a.stop _ a.lines.now c.requires.order c.requires.lines looks c.if-form.false (c.if-to-at.true ∙ c.requires.columns)
