-- `reading::put_line` meets its contract: letters with the blanks behind them, or a run of fields, which were found formed.
-- Assumes nothing.
use Rattle.reading.proofs.Putting.{short_room, short_put, full_run, full_put}
use Rattle.reading.proofs.put_line.Goals as goal

pub put_letters-requires : goal.put_letters-requires
put_letters-requires c =
    let all = short_room c.requires c.min-there.ensures c.if-form.true in
    record { bytes = all.0; room = all.1 }

pub returns-then-form : goal.returns-then-form
returns-then-form c = short_put c.requires c.min-there.ensures c.if-form.true c.args.table.now c.put_letters.ensures

pub fill-requires : goal.fill-requires
fill-requires c =
    let run = full_run c.requires c.min-there.ensures c.if-form.false in record {
      run = run.0;
      formed = run.1;
      room = run.2;
    }

pub returns : goal.returns
returns c = full_put c.requires c.min-there.ensures c.if-form.false c.args.table.now c.fill.ensures
