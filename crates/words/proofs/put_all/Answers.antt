-- `words::put_all` meets its contract.
-- Assumes nothing.
use Rattle.std.proofs.Common.{◌-◌, ◌≡◌, arith, length, take, drop, take-add, take_all, length-drop}
use Rattle.std.proofs.KnownBytes.{Appends-kept, Appends-trans}
use Rattle.words.proofs.put_all.Goals as goal
use Rattle.words.proofs.put_all.Goals.{in-Ok, in-Err}

pub writes-preserved : goal.writes-preserved
writes-preserved g c =
    let inv = c.writes.invariant in
    let all = c.args.bytes.now in
    let at = c.writes.at in
    let rest : take (length all - at) (drop at all) ≡ drop at all = take_all (length all - at) (drop at all) (omega (arith, length-drop at all)) in
    elim c.match-write.branch [
      | in-Ok w ↦
          let more = rw rest at w.in-Ok.ensures.bytes in
          let bound = rw rest at w.in-Ok.ensures.bound in
          rw (w.at-is, take-add at w.in-Ok.more all) (omega (arith, inv.0, bound, length-drop at all), Appends-trans _ _ _ _ _ inv.1 more)
      | in-Err w ↦ rw w.at-is (inv.0, Appends-kept _ _ _ _ inv.1 w.in-Err.ensures.bytes)
    ]
