use Rattle.std.proofs.Common.{◌≡◌, true, false, ap, sym, ◌∙◌}
use Rattle.entry.specs.Field.{field_at}
use Rattle.journal.specs.Walks.{down}
use Rattle.journal.specs.Plays.{matches, played_by}
use Rattle.journal.proofs.Walking.{next_found, stepped}
use Rattle.journal.proofs.Playing.{plays_more, plays_other}
use Rattle.journal.proofs.Fields.play.Goals as goal

pub returns-then-not-play_one : goal.returns-then-not-play_one
returns-then-not-play_one c =
    let a = c.args.self.now in
    let l = c.loop-entry in
    let n = next_found a.starts.now a.bytes.now l.state c.in-Some.ensures in
    let e = c.play_one.ensures in
    let m : matches a.starts.now (field_at a.bytes.now l.state.place) l.cells ≡ false = ap (λ x. matches a.starts.now x l.cells) (sym n.field) ∙ sym e.same ∙ c.if-not-play_one.true in
    rw (rw c.if-not-play_one.true at e.cells) (plays_other l.invariant n.accepted m)

pub loop-entry-preserved : goal.loop-entry-preserved
loop-entry-preserved c =
    let a = c.args.self.now in
    let l = c.loop-entry in
    let n = next_found a.starts.now a.bytes.now l.state c.in-Some.ensures in
    let e = c.play_one.ensures in
    let m : matches a.starts.now (field_at a.bytes.now l.state.place) l.cells ≡ true = ap (λ x. matches a.starts.now x l.cells) (sym n.field) ∙ sym e.same ∙ c.if-not-play_one.false in
    let k : c.play_one.new.cells ≡ played_by a.starts.now (field_at a.bytes.now l.state.place) a.bytes.now l.state.count (down l.state.depth l.state.marks) l.cells =
    rw (c.if-not-play_one.false, n.field) at e.cells in
    rw (stepped n c.size.ensures c.pass.ensures, k) (plays_more l.invariant n.accepted m)
