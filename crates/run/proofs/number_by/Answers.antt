-- `run::number_by` meets its contract: 12 columns have room.
use Rattle.std.proofs.Common.{arith}
use Rattle.run.proofs.Loops.{room_all}
use Rattle.run.proofs.number_by.Goals as goal

pub overflow_mul-n : goal.overflow_mul-n
overflow_mul-n g c = omega (arith, room_all c.loop-b.b-index c.loop-b.n (omega arith) c.loop-b.invariant.room)

pub returns-clause-small : goal.returns-clause-small
returns-clause-small g c = room_all c.loop-b.b-index c.loop-b.n (omega arith) c.loop-b.invariant.room
