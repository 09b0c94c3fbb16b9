use Rattle.std.proofs.Common.{◌≡◌, length, map, get_or, pos, arith}
use Rattle.std.proofs.lemmas.Grind.{common_steps}
use Rattle.std.proofs.lemmas.List.{length-map, get_or-map}
use Rattle.base.specs.Sign.{size_of}
use Rattle.base.proofs.Part.{over_turn}
use Rattle.field.proofs.put_letters.Goals as goal

pub loop-i-preserved : goal.loop-i-preserved
loop-i-preserved c =
    let a = c.args in
    let l = c.loop-i in
    let ys = map size_of a.cells.now in
    let n : length ys ≡ length a.cells.now = simp length-map in
    let e : c.letter.result ≡ get_or ys l.i 0 = grind (arith, common_steps, get_or-map size_of a.cells.now l.i (pos 0) 0) in
    rw e (over_turn a.out.now ys a.at l.i 0 (omega arith) (omega (arith, c.requires.room)) l.invariant)
