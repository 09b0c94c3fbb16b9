-- `words::filled` meets its contract.
-- Assumes nothing.
use Rattle.std.proofs.Common.{rules, ◌-◌, ◌≡◌, arith, length, ◌∙◌}
use borrow.Rule.Slice.PartMut.{put_mid}
use Rattle.words.proofs.Reading.{read_more, read_none}
use Rattle.words.proofs.filled.Goals as goal
use Rattle.words.proofs.filled.Goals.{in-Ok, in-Err}

pub reads-preserved : goal.reads-preserved
reads-preserved g c =
    let inv = c.reads.invariant in
    let space = c.reads.space in
    let room = length space - c.reads.n in
    let same : length (put_mid c.reads.n room space c.read.new.buf) ≡ length space = search rules in
    let part : length c.read.new.buf ≡ room = search rules in
    elim c.match-read.branch [
      | in-Ok w ↦
          rw w.n-is (
            same ∙ inv.0,
            omega (arith, same, part, inv.1, w.in-Ok.ensures.bound.0),
            read_more _ _ _ c.reads.n room space c.read.new.buf inv.1 inv.2 w.in-Ok.more w.in-Ok.ensures.bound.0 w.in-Ok.ensures.bytes.0,
          )
      | in-Err w ↦
          rw w.n-is (same ∙ inv.0, omega (arith, same, inv.1), read_none _ _ _ c.reads.n room space c.read.new.buf inv.1 inv.2 w.in-Err.ensures.bytes)
    ]
