-- `listing::listing_end` meets its contract. The invariant: the lines from the k-th spot on, put from `end` on, end where the listing does.
-- Assumes nothing.
use Rattle.std.proofs.Common.{◌≡◌, ◌≤◌, length}
use Rattle.decimal.specs.Writing.{end_in}
use Rattle.place.specs.Walk.{spot, records_in}
use Rattle.listing.specs.Listing.{listing}
use Rattle.listing.proofs.Lines.{lines_from}
use Rattle.listing.proofs.listing_end.Given as goal

abbrev pub invariant-loop-k : goal.invariant-loop-k
invariant-loop-k l = (l.k ≤ records_in l.rules l.text)
    × (l.at ≡ spot l.rules l.text l.k)
    × (end_in l.end (length (lines_from l.rules l.text l.k)) l.size ≡ end_in 0 (length (listing l.rules l.text)) l.size)
