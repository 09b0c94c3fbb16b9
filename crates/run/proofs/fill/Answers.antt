-- `run::fill` meets its contract: the form chooses the cells, which are the form's own (proofs/ByForm.antt).
use Rattle.std.proofs.Common.{◌∙◌, ◌-◌, refl, pos, lit<, get_or, ⊎_elim, arith, rules}
use Rattle.form.specs.Table
use Rattle.run.specs.Columns.{whole_cell, fixed_cell}
use Rattle.run.proofs.ByForm.{room_chunks, filled_chunks, filled_cells, filled_bytes, room_bytes}
use Rattle.run.proofs.fill.Goals as goal

pub fill_each-requires : goal.fill_each-requires
unfolding Table.listed_as Table.row_of
fill_each-requires c =
    let a = c.args in
    let r = room_chunks a.form a.k a.fields.now c.requires.run c.in-F7.is a.cell a.table.now c.requires.room c.as_chunks.ensures.front_len in
    (lit< tt, (λ s l. search rules, omega arith))

pub returns-in-F7 : goal.returns-in-F7
unfolding Table.listed_as Table.row_of
returns-in-F7 c =
    let a = c.args in
    c.fill_each.ensures fixed_cell (λ s z l p. search rules)
    ∙ filled_cells a.form a.k a.fields.now c.requires.run c.in-F7.is a.cell a.table.now c.requires.formed fixed_cell c.as_chunks.ensures.front refl

pub fill_each-requires-in-F8 : goal.fill_each-requires-in-F8
unfolding Table.listed_as Table.row_of
fill_each-requires-in-F8 c =
    let a = c.args in
    let r = room_chunks a.form a.k a.fields.now c.requires.run c.in-F8.is a.cell a.table.now c.requires.room c.as_chunks-in-F8.ensures.front_len in
    (lit< tt, (λ s l. search rules, omega arith))

pub returns-in-F8 : goal.returns-in-F8
unfolding Table.listed_as Table.row_of
returns-in-F8 c =
    let a = c.args in
    c.fill_each-in-F8.ensures fixed_cell (λ s z l p. search rules)
    ∙ filled_cells a.form a.k a.fields.now c.requires.run c.in-F8.is a.cell a.table.now c.requires.formed fixed_cell c.as_chunks-in-F8.ensures.front refl

pub fill_each-requires-in-I2 : goal.fill_each-requires-in-I2
unfolding Table.listed_as Table.row_of
fill_each-requires-in-I2 c =
    let a = c.args in
    let r = room_chunks a.form a.k a.fields.now c.requires.run c.in-I2.is a.cell a.table.now c.requires.room c.as_chunks-in-I2.ensures.front_len in
    (lit< tt, (λ s l. search rules, omega arith))

pub returns-in-I2 : goal.returns-in-I2
unfolding Table.listed_as Table.row_of
returns-in-I2 c =
    let a = c.args in
    c.fill_each-in-I2.ensures whole_cell (λ s z l p. search rules)
    ∙ filled_cells a.form a.k a.fields.now c.requires.run c.in-I2.is a.cell a.table.now c.requires.formed whole_cell c.as_chunks-in-I2.ensures.front refl

pub fill_each-requires-in-I3 : goal.fill_each-requires-in-I3
unfolding Table.listed_as Table.row_of
fill_each-requires-in-I3 c =
    let a = c.args in
    let r = room_chunks a.form a.k a.fields.now c.requires.run c.in-I3.is a.cell a.table.now c.requires.room c.as_chunks-in-I3.ensures.front_len in
    (lit< tt, (λ s l. search rules, omega arith))

pub returns-in-I3 : goal.returns-in-I3
unfolding Table.listed_as Table.row_of
returns-in-I3 c =
    let a = c.args in
    c.fill_each-in-I3.ensures whole_cell (λ s z l p. search rules)
    ∙ filled_cells a.form a.k a.fields.now c.requires.run c.in-I3.is a.cell a.table.now c.requires.formed whole_cell c.as_chunks-in-I3.ensures.front refl

pub fill_powers-requires : goal.fill_powers-requires
unfolding Table.listed_as Table.row_of
fill_powers-requires c =
    let a = c.args in
    let r = room_chunks a.form a.k a.fields.now c.requires.run c.in-E11.is a.cell a.table.now c.requires.room c.as_chunks-in-E11.ensures.front_len in
    search rules

pub returns-in-E11 : goal.returns-in-E11
unfolding Table.listed_as Table.row_of
returns-in-E11 c =
    let a = c.args in
    c.fill_powers.ensures
    ∙ filled_chunks a.form a.k a.fields.now c.requires.run c.in-E11.is a.cell a.table.now c.requires.formed c.as_chunks-in-E11.ensures.front

pub fill_powers-requires-in-E8 : goal.fill_powers-requires-in-E8
unfolding Table.listed_as Table.row_of
fill_powers-requires-in-E8 c =
    let a = c.args in
    let r = room_chunks a.form a.k a.fields.now c.requires.run c.in-E8.is a.cell a.table.now c.requires.room c.as_chunks-in-E8.ensures.front_len in
    search rules

pub returns-in-E8 : goal.returns-in-E8
unfolding Table.listed_as Table.row_of
returns-in-E8 c =
    let a = c.args in
    c.fill_powers-in-E8.ensures
    ∙ filled_chunks a.form a.k a.fields.now c.requires.run c.in-E8.is a.cell a.table.now c.requires.formed c.as_chunks-in-E8.ensures.front

pub fill_powers-requires-in-E20 : goal.fill_powers-requires-in-E20
unfolding Table.listed_as Table.row_of
fill_powers-requires-in-E20 c =
    let a = c.args in
    let r = room_chunks a.form a.k a.fields.now c.requires.run c.in-E20.is a.cell a.table.now c.requires.room c.as_chunks-in-E20.ensures.front_len in
    search rules

pub returns-in-E20 : goal.returns-in-E20
unfolding Table.listed_as Table.row_of
returns-in-E20 c =
    let a = c.args in
    c.fill_powers-in-E20.ensures
    ∙ filled_chunks a.form a.k a.fields.now c.requires.run c.in-E20.is a.cell a.table.now c.requires.formed c.as_chunks-in-E20.ensures.front

pub fill_each-requires-in-A120 : goal.fill_each-requires-in-A120
unfolding Table.listed_as Table.row_of
fill_each-requires-in-A120 c =
    let a = c.args in
    let r = ⊎_elim
    (λ e. room_bytes a.form a.k a.fields.now c.requires.run e a.cell a.table.now c.requires.room refl c.as_chunks-in-A120.ensures.front_len)
    (λ e. room_bytes a.form a.k a.fields.now c.requires.run e a.cell a.table.now c.requires.room refl c.as_chunks-in-A120.ensures.front_len)
    c.in-A120.is in
    (lit< tt, (λ s l. search rules, r))

pub returns-in-A120 : goal.returns-in-A120
unfolding Table.listed_as Table.row_of
returns-in-A120 c =
    let a = c.args in
    c.fill_each-in-A120.ensures (λ s. pos (get_or s 0 0 - 0)) (λ s z l p. search rules)
    ∙ ⊎_elim
    (λ e. filled_bytes a.form a.k a.fields.now c.requires.run e a.cell a.table.now c.requires.formed (λ b. pos (b - 0)) c.as_chunks-in-A120.ensures.front refl)
    (λ e. filled_bytes a.form a.k a.fields.now c.requires.run e a.cell a.table.now c.requires.formed (λ b. pos (b - 0)) c.as_chunks-in-A120.ensures.front refl)
    c.in-A120.is

pub fill_each-requires-in-I1 : goal.fill_each-requires-in-I1
unfolding Table.listed_as Table.row_of
fill_each-requires-in-I1 c =
    let a = c.args in
    let r = room_bytes a.form a.k a.fields.now c.requires.run c.in-I1.is a.cell a.table.now c.requires.room refl c.as_chunks-in-I1.ensures.front_len in
    (lit< tt, (λ s l. search rules, r))

pub returns-in-I1 : goal.returns-in-I1
unfolding Table.listed_as Table.row_of
returns-in-I1 c =
    let a = c.args in
    c.fill_each-in-I1.ensures (λ s. pos (get_or s 0 0 - 48)) (λ s z l p. search rules)
    ∙ filled_bytes a.form a.k a.fields.now c.requires.run c.in-I1.is a.cell a.table.now c.requires.formed (λ b. pos (b - 48)) c.as_chunks-in-I1.ensures.front refl
