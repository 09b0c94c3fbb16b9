-- `line::past_blocks` meets its contract. The invariant: the place behind the lines that are left is, from here on, the one asked for.
-- Assumes nothing.
use Rattle.std.proofs.Common.{◌≡◌, ◌<◌, ◌≤◌, length, drop}
use Rattle.std.specs.Slice.Iter.{chunks_exact_rest, chunks_exact_size}
use Rattle.line.specs.Places.{behind_at}
use Rattle.line.proofs.past_blocks.Given as goal

abbrev pub invariant-loop-block : goal.invariant-loop-block
invariant-loop-block l =
    (goal.iterator-loop-block).can_next l.block-iterator
    × (goal.iterator-loop-block).is_finite l.block-iterator
    × (chunks_exact_size l.block-iterator ≡ l.size)
    × (chunks_exact_rest l.block-iterator ≡ drop l.at l.text)
    × (l.at ≤ length l.text) × (0 < l.lines)
    × (behind_at l.text l.at l.lines ≡ behind_at l.text l.initial.at l.initial.lines)
