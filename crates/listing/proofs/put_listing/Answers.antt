-- `listing::put_listing` meets its contract: what is left has room, and so has its first line.
-- Assumes nothing.
use Rattle.std.proofs.Common.{◌≡◌, ◌≤◌, ◌+◌, ◌++◌, length, length-append, arith, sym, ap, ◌∙◌}
use Rattle.std.proofs.lemmas.Grind.{common_steps}
use Rattle.base.specs.Part.{over}
use Rattle.base.proofs.Part.{over_over, over_length}
use Rattle.decimal.specs.Rows.{row_text}
use Rattle.decimal.proofs.Writing.{puts_fit}
use Rattle.listing.proofs.Lines.{lines_from, walked}
use Rattle.listing.proofs.put_listing.Goals as goal

pub unwrap-end-requires : goal.unwrap-end-requires
unwrap-end-requires c =
    let l = c.loop-k in
    let text = row_text c.record_row-row.result in
    let fits : l.end + length text ≤ length l.out = grind (arith, common_steps, walked) in
    let put = puts_fit l.end text l.out _ _ c.put_row-in-loop-k.ensures fits in
    rw put.0

pub loop-k-preserved : goal.loop-k-preserved
loop-k-preserved c =
    let l = c.loop-k in
    let text = row_text c.record_row-row.result in
    let rest = lines_from c.args.rules c.args.text.now (l.k + 1) in
    let lines : lines_from c.args.rules c.args.text.now l.k ≡ text ++ rest = grind (arith, common_steps, walked) in
    let fits : l.end + length text ≤ length l.out = omega (arith, ap length lines, length-append text rest, l.invariant.2, l.invariant.3) in
    let put = puts_fit l.end text l.out _ _ c.put_row-in-loop-k.ensures fits in
    let end : c.unwrap-end.result ≡ l.end + length text = grind (arith, common_steps) in (
      grind (arith, common_steps, walked),
      grind (arith, common_steps, walked),
      ap length put.1 ∙ over_length l.out text l.end fits ∙ l.invariant.2,
      omega (arith, ap length lines, length-append text rest, l.invariant.3),
      rw (end, put.1) (over_over l.out text rest l.end fits ∙ ap (λ t. over l.end t l.out) (sym lines) ∙ l.invariant.4),
    )
