-- `listing::put_listing` meets its contract. The invariant: the lines from the k-th spot on, put from `end` on, make the listing.
-- Assumes nothing.
use Rattle.std.proofs.Common.{◌≡◌, ◌≤◌, ◌+◌, length}
use Rattle.base.specs.Part.{over}
use Rattle.place.specs.Walk.{spot, records_in}
use Rattle.listing.specs.Listing.{listing}
use Rattle.listing.proofs.Lines.{lines_from}
use Rattle.listing.proofs.put_listing.Given as goal

abbrev pub invariant-loop-k : goal.invariant-loop-k
invariant-loop-k l = (l.k ≤ records_in l.rules l.text)
    × (l.at ≡ spot l.rules l.text l.k)
    × (length l.out ≡ length l.initial.out)
    × (l.end + length (lines_from l.rules l.text l.k) ≡ length (listing l.rules l.text))
    × (over l.end (lines_from l.rules l.text l.k) l.out ≡ over 0 (listing l.rules l.text) l.initial.out)
