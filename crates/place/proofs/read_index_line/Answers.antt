-- `place::read_index_line` meets its contract: the content is what stands before the line end.
-- Assumes nothing.
use native.Mathlib.Omega.{arith}
use lib.ListN.{length-take}
use Rattle.std.proofs.Common.{◌≡◌, ◌∙◌, sym}
use Rattle.line.proofs.Contents.{content_two}
use Rattle.place.proofs.read_index_line.Goals as goal

pub slice_bounds-read_entries-end : goal.slice_bounds-read_entries-end
slice_bounds-read_entries-end c =
    omega (arith, (content_two _ _ _ (sym c.content_length.ensures ∙ c.in_ok-n.was)).0, length-take c.in_ok-n.n c.args.line.now)

pub read_entries-requires : goal.read_entries-requires
read_entries-requires c =
    omega (arith, (content_two _ _ _ (sym c.content_length.ensures ∙ c.in_ok-n.was)).0, length-take c.in_ok-n.n c.args.line.now)
