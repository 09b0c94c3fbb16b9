-- `decimal::put_text` meets its contract: one byte more.
use Rattle.std.proofs.Common.{arith}
use Rattle.base.proofs.Part.{over_turn}
use Rattle.decimal.proofs.put_text.Goals as goal

pub loop-i-preserved : goal.loop-i-preserved
loop-i-preserved c =
    let a = c.args in
    let l = c.loop-i in
    over_turn a.out.now a.text.now a.at l.i 0 (omega arith) (omega (arith, c.requires)) l.invariant
