-- `reading::put_letters` meets its contract. The invariant: the first i letters stand in the table.
-- Assumes nothing.
use native.Mathlib.Omega.{arith}
use mathlib.Core.Path.{◌≡◌, refl, ◌∙◌, ap}
use borrow.Author.Rules.{rules, sfits_of}
use mir.Syntax.{w64}
use mir.Facts.{to_z-of_z}
use lib.IntN.{pos}
use lib.ListN.{get_or, length-set}
use Rattle.std.proofs.lemmas.Option.{unwrap_or-slice_get}
use Rattle.reading.proofs.Putting.{letters_none, letters_more, letters_all}
use Rattle.reading.proofs.put_letters.Goals as goal

pub loop-i-init : goal.loop-i-init
loop-i-init c = (omega arith, refl, letters_none c.args.bytes.now c.args.width c.args.table.now c.args.at c.requires.bytes c.requires.room)

pub loop-i-preserved : goal.loop-i-preserved
loop-i-preserved c =
    let letter : c.unwrap_or-letter.result ≡ get_or c.args.bytes.now c.loop-i.i 32 = search (rules, unwrap_or-slice_get) in (
      omega arith,
      simp length-set c.loop-i.invariant.1,
      letters_more c.args.bytes.now c.args.width c.args.table.now c.args.at c.requires.bytes c.requires.room
          c.loop-i.i _ _ c.loop-i-test.true (to_z-of_z (sfits_of {w = w64} c.from.type_inv) ∙ c.from.ensures ∙ ap pos letter) c.loop-i.invariant.2,
    )

pub returns : goal.returns
returns c = letters_all c.args.bytes.now c.args.width c.args.table.now c.args.at c.requires.bytes c.requires.room c.loop-i.i _ (omega arith) c.loop-i.invariant.2
