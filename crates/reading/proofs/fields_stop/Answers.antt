-- `reading::fields_stop` meets its contract: the content's end where lines may be short, and otherwise the columns' end or the text's.
-- Assumes nothing.
use native.Mathlib.Omega.{arith}
use mathlib.Core.Path.{◌∙◌, ap}
use Prim.Native.Nat.{◌+◌}
use mathlib.Core.Path.{◌≡◌}
use lib.ListN.{drop}
use Rattle.std.specs.Option.{unwrap_or}
use Rattle.base.specs.Part.{part}
use Rattle.line.specs.Lines.{reach}
use Rattle.line.specs.Contents.{content_of}
use Rattle.reading.proofs.Trying.{line_range, span_fits, span_short, span_columns}
use Rattle.reading.proofs.fields_stop.Goals as goal

pub slice_bounds-content_length-end : goal.slice_bounds-content_length-end
slice_bounds-content_length-end c = omega (arith, line_range c.args.rules c.args.lines.now c.args.at c.requires, c.behind_line-end.ensures)

pub overflow_add-result : goal.overflow_add-result
overflow_add-result c =
    let long : (let a = c.args in c.unwrap_or.result ≡ unwrap_or (content_of a.rules (part a.at (a.at + reach (drop a.at a.lines.now) 1) a.lines.now)) 0) =
    c.unwrap_or.ensures ∙ ap (λ o. unwrap_or o 0) c.content_length.ensures ∙ ap (λ e. unwrap_or (content_of c.args.rules (part c.args.at e c.args.lines.now)) 0) c.behind_line-end.ensures in
    omega (arith, long, span_fits c.args.rules c.args.lines.now c.args.at c.requires)

pub returns-then-short : goal.returns-then-short
returns-then-short c =
    let long : (let a = c.args in c.unwrap_or.result ≡ unwrap_or (content_of a.rules (part a.at (a.at + reach (drop a.at a.lines.now) 1) a.lines.now)) 0) =
    c.unwrap_or.ensures ∙ ap (λ o. unwrap_or o 0) c.content_length.ensures ∙ ap (λ e. unwrap_or (content_of c.args.rules (part c.args.at e c.args.lines.now)) 0) c.behind_line-end.ensures in
    ap (λ n. c.args.at + n) (long ∙ span_short c.args.rules c.args.short c.args.columns c.args.lines.now c.args.at c.requires c.if-short.true)

pub returns : goal.returns
returns c = ap (λ n. c.args.at + n) c.min.ensures ∙ span_columns c.args.rules c.args.short c.args.columns c.args.lines.now c.args.at c.requires c.if-short.false
