-- `place::place` meets its contract: the record that was found, or zeros beside what is refused.
-- Assumes nothing.
use mathlib.Core.Path.{refl}
use Rattle.place.proofs.Steps.{refused_at, answers_at}
use Rattle.place.proofs.place.Goals as goal

pub returns-in-Ok : goal.returns-in-Ok
returns-in-Ok c =
    let all = answers_at c.args.rules c.args.text.now c.args.at refl _ refl c.in-Ok.ensures in
    record { answer = all.0; counts = all.1.0; starts = all.1.1.0; ends = all.1.1.1 }

pub returns-in-Err : goal.returns-in-Err
returns-in-Err c =
    let zeros = c.nothing.ensures in
    let all = refused_at c.args.rules c.args.text.now c.args.at c.in-Err.ensures (zeros.answer, (zeros.counts, (zeros.starts, zeros.ends))) in
    record { answer = all.0; counts = all.1.0; starts = all.1.1.0; ends = all.1.1.1 }
