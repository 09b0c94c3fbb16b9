-- `reading::is_field` meets its contract: letters print with or without the blanks behind them, and other fields are not filled.
-- Assumes nothing.
use native.Mathlib.Nat.{one-mul}
use mathlib.Core.Path.{sym, ◌∙◌, ap}
use borrow.Author.Tests.{ne_eqb}
use Rattle.form.specs.Table.{row_of}
use Rattle.field.specs.Read.{field_of, formed}
use Rattle.reading.specs.Blanks.{as_field}
use Rattle.reading.proofs.Letters.{letters_forms}
use Rattle.reading.proofs.Blanks.{short_field}
use Rattle.reading.proofs.Runs.{other_width, one_formed}
use Rattle.reading.proofs.is_field.Goals as goal

pub returns-then-form : goal.returns-then-form
returns-then-form c =
    let f = c.args.form.fields in
    let bytes = c.args.bytes.now in
    c.all_printable.ensures ∙ short_field f bytes (letters_forms f (c.args.form.letters c.if-form.true)) c.requires.columns
    ∙ ap (λ short. formed (field_of f (as_field f short bytes))) (sym c.if-form.true)

pub returns-else-bytes-row_of : goal.returns-else-bytes-row_of
returns-else-bytes-row_of c =
    let f = c.args.form.fields in
    let bytes = c.args.bytes.now in
    let wide = ap (λ r. r.width) c.row_of.ensures in
    ne_eqb _ _ c.if-bytes-row_of.false
    ∙ other_width f bytes (λ e. c.if-bytes-row_of.false (e ∙ sym wide)) ∙ ap (λ short. formed (field_of f (as_field f short bytes))) (sym c.if-form.false)

pub formed-requires : goal.formed-requires
formed-requires c = c.if-bytes-row_of.true ∙ ap (λ r. r.width) c.row_of.ensures ∙ sym (one-mul (row_of c.args.form.fields).width)

pub returns-then-bytes-row_of : goal.returns-then-bytes-row_of
returns-then-bytes-row_of c =
    let f = c.args.form.fields in
    let bytes = c.args.bytes.now in
    c.formed.ensures ∙ one_formed f bytes (c.if-bytes-row_of.true ∙ ap (λ r. r.width) c.row_of.ensures)
    ∙ ap (λ short. formed (field_of f (as_field f short bytes))) (sym c.if-form.false)
