use Rattle.journal.proofs.Walking.{next_found, stepped, walking_more}
use Rattle.journal.proofs.Fields.walk.Goals as goal

pub loop-entry-preserved : goal.loop-entry-preserved
loop-entry-preserved c =
    let a = c.args.self.now in
    let l = c.loop-entry in
    let n = next_found a.starts.now a.bytes.now l.state c.in-Some.ensures in
    rw (stepped n c.size.ensures c.pass.ensures) (walking_more l.invariant n.accepted)
