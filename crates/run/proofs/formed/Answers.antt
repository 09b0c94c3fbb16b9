-- `run::formed` meets its contract: the form chooses the test, which is the form's own (proofs/ByForm.antt).
use Rattle.std.proofs.Common.{refl, ⊎_elim, rules}
use Rattle.base.specs.Ascii.{printable}
use Rattle.form.specs.Table
use Rattle.run.specs.Columns.{is_figure, is_fixed, is_whole_field, is_power}
use Rattle.run.proofs.ByForm.{formed_bytes, formed_chunks}
use Rattle.run.proofs.formed.Goals as goal

pub returns-in-F7 : goal.returns-in-F7
unfolding Table.listed_as Table.row_of
returns-in-F7 c =
    let a = c.args in
    formed_chunks a.form a.k a.fields.now c.requires c.in-F7.is c.as_chunks.ensures.front (c.each.ensures is_fixed (λ s r l p. search rules))

pub returns-in-F8 : goal.returns-in-F8
unfolding Table.listed_as Table.row_of
returns-in-F8 c =
    let a = c.args in
    formed_chunks a.form a.k a.fields.now c.requires c.in-F8.is c.as_chunks-in-F8.ensures.front (c.each-in-F8.ensures is_fixed (λ s r l p. search rules))

pub returns-in-I2 : goal.returns-in-I2
unfolding Table.listed_as Table.row_of
returns-in-I2 c =
    let a = c.args in
    formed_chunks a.form a.k a.fields.now c.requires c.in-I2.is c.as_chunks-in-I2.ensures.front (c.each-in-I2.ensures is_whole_field (λ s r l p. search rules))

pub returns-in-I3 : goal.returns-in-I3
unfolding Table.listed_as Table.row_of
returns-in-I3 c =
    let a = c.args in
    formed_chunks a.form a.k a.fields.now c.requires c.in-I3.is c.as_chunks-in-I3.ensures.front (c.each-in-I3.ensures is_whole_field (λ s r l p. search rules))

pub returns-in-E11 : goal.returns-in-E11
unfolding Table.listed_as Table.row_of
returns-in-E11 c =
    let a = c.args in
    formed_chunks a.form a.k a.fields.now c.requires c.in-E11.is c.as_chunks-in-E11.ensures.front (c.each-in-E11.ensures (is_power 1 6) (λ s r l p. search rules))

pub returns-in-E8 : goal.returns-in-E8
unfolding Table.listed_as Table.row_of
returns-in-E8 c =
    let a = c.args in
    formed_chunks a.form a.k a.fields.now c.requires c.in-E8.is c.as_chunks-in-E8.ensures.front (c.each-in-E8.ensures (is_power 1 3) (λ s r l p. search rules))

pub returns-in-E20 : goal.returns-in-E20
unfolding Table.listed_as Table.row_of
returns-in-E20 c =
    let a = c.args in
    formed_chunks a.form a.k a.fields.now c.requires c.in-E20.is c.as_chunks-in-E20.ensures.front (c.each-in-E20.ensures (is_power 3 12) (λ s r l p. search rules))

pub returns-in-A120 : goal.returns-in-A120
unfolding Table.listed_as Table.row_of
returns-in-A120 c =
    let a = c.args in
    ⊎_elim
    (λ e. formed_bytes a.form a.k a.fields.now c.requires e printable refl c.all_between.ensures)
    (λ e. formed_bytes a.form a.k a.fields.now c.requires e printable refl c.all_between.ensures)
    c.in-A120.is

pub returns-in-I1 : goal.returns-in-I1
unfolding Table.listed_as Table.row_of
returns-in-I1 c =
    let a = c.args in
    formed_bytes a.form a.k a.fields.now c.requires c.in-I1.is is_figure refl c.all_between-in-I1.ensures
