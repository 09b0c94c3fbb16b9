-- `place::read_entries` meets its contract. The invariant: the first k entries are stored, and all give what these and the others give.
-- Assumes nothing.
use native.Mathlib.Omega.{arith}
use mathlib.Core.Path.{◌≡◌, refl, sym, ◌∙◌}
use mathlib.Core.List.{[]}
use lib.ListN.{get_or}
use Rattle.std.proofs.Common.{None}
use Rattle.std.proofs.lemmas.Grind.{common_steps}
use Rattle.field.specs.Entry.{entry_of}
use Rattle.place.proofs.Entries.{content_chunked, content_forty, storing_bad, storing_done}
use Rattle.place.proofs.read_entries.Goals as goal

pub returns-in_err-counts : goal.returns-in_err-counts
returns-in_err-counts c =
    let l = c.loop-k in
    let es = c.as_chunks.result.0.now in
    let t : entry_of (get_or es l.k []) ≡ None = grind (arith, common_steps) in
    let e = content_chunked c.args.content.now es c.requires c.as_chunks.ensures.front
    ∙ storing_bad es l.k l.counts l.invariant c.loop-k-test.true _ refl t in
    grind (arith, common_steps)

pub returns : goal.returns
returns c =
    let l = c.loop-k in
    let s = c.args.content.now in
    let es = c.as_chunks.result.0.now in
    let forty = content_forty s _ c.requires c.as_chunks.ensures.front_len in
    sym (content_chunked s es c.requires c.as_chunks.ensures.front ∙ storing_done es l.k l.counts l.invariant (omega arith) (omega arith))
