-- R347: what is printed is shorter than 8,192 bytes. A text of at most 65,536 bytes has at most 270 records, since a record has at least 242
-- bytes. Its row has at most 30 bytes: 3 digits for the number, 5 for each place, 1 for the reply, 2 for the blamed group, 2 for the
-- groups with a count, 5 for the lines, and a byte behind each. The end row has at most 19.
-- Assumes nothing.
use Rattle.std.specs.Prelude.{Option, Some, None}
use mathlib.Core.Path.{◌≡◌, refl, ◌∙◌, ap}
use mathlib.Core.List.{List, [], ◌∷◌, ◌++◌}
use mathlib.Core.Logic.{⊎_elim}
use Prim.Native.Nat.{ℕ, zero, suc, ◌+◌, ◌*◌, ◌<◌, ◌≤◌}
use native.Mathlib.Omega.{arith}
use native.Mathlib.Nat.{zero-add}
use borrow.Author.Tests.{le-leb, lt-leb}
use lib.ListN.{length, drop, length-append, length-drop}
use lib.Dec.{lit<}
use Rattle.rules.specs.declared.Rules.{Rules}
use Rattle.base.specs.Quoted.{bytes}
use Rattle.base.proofs.Order.{le_or_lt}
use Rattle.line.proofs.Feeds.{feeds_le}
use Rattle.count.specs.Tally.{record_lines}
use Rattle.count.specs.Rules.{ruling_of}
use Rattle.decimal.specs.Numerals
use Rattle.decimal.specs.Numerals.{numeral}
use Rattle.decimal.specs.Rows
use Rattle.decimal.specs.Rows.{row_text, row_size}
use Rattle.decimal.specs.Writing
use Rattle.decimal.specs.Writing.{put_answer, Puts}
use Rattle.decimal.proofs.Lengths.{length_within}
use Rattle.decimal.proofs.Rows.{row_size_lem}
use Rattle.decimal.proofs.Writing.{end_done, none_means}
use Rattle.place.specs.declared.Placing.{Placing}
use Rattle.reply.specs.declared.Refusal.{Refusal}
use Rattle.place.specs.declared.Placing.TheVariants.{Refused}
use Rattle.place.specs.Placing
use Rattle.place.specs.Placing.{Located, located, refused, locate, ruled_at, placing_by, placing_of, counts_at}
use Rattle.place.specs.Walk.{spot, IsRecord, records_in}
use Rattle.place.proofs.Placed.{located_is, located_range}
use Rattle.place.specs.Due.{RefusedFor, beyond, text_end, few_for_index, few_for_data, bad_index, bad_release, fills_vacant}
use Rattle.place.proofs.Due.{refused_due}
use Rattle.place.proofs.Walked.{spot_inside}
use Rattle.listing.specs.Rows.{reply_of, next_of, group_of, filled_groups, record_row, end_row}
use Rattle.listing.specs.Listing.{row_at, rows_from, end_at, listing_of, listing, printed_listing}
use Rattle.listing.proofs.Groups.{blamed_within, filled_within}
use Rattle.place.proofs.Counted.{records_stop, records_bytes}

-- ---- the two cases of what is printed

pub printed_short : (ρ : Rules) (s : List ℕ) → length s ≤ 65536 → listing ρ s ≡ printed_listing ρ s
unfolding printed_listing
printed_short ρ s h = rw (le-leb (length s) 65536 h)

pub printed_long : (ρ : Rules) (s : List ℕ) → 65536 < length s → bytes "end " ++ row_text (0 ∷ 0 ∷ 11 ∷ 0 ∷ []) ≡ printed_listing ρ s
unfolding printed_listing
printed_long ρ s h = rw (lt-leb (length s) 65536 h)

-- ---- numbers of a row

pub record Small (p : Placing) : Type 0 where
  pub reply : reply_of p ≤ 7
  pub group : group_of p ≤ 79

ruled_small : (n : ℕ) (r : Option ℕ) → ((g : ℕ) → r ≡ Some g → g ≤ 60) → Small (ruled_at n r)
ruled_small n None h = record { reply = omega arith; group = omega arith }
ruled_small n (Some g) h = record { reply = omega arith; group = omega (arith, h g refl) }

refused_small : (ρ : Rules) (s : List ℕ) (at : ℕ) (r : Refusal) → RefusedFor ρ s at r → Small (Refused r)
refused_small ρ s at r (beyond d) = record { reply = omega arith; group = omega arith }
refused_small ρ s at r (text_end d) = record { reply = omega arith; group = omega arith }
refused_small ρ s at r (few_for_index d) = record { reply = omega arith; group = omega arith }
refused_small ρ s at r (few_for_data d) = record { reply = omega arith; group = omega arith }
refused_small ρ s at r (bad_index d) = record { reply = omega arith; group = omega arith }
refused_small ρ s at r (bad_release d) = record { reply = omega arith; group = omega arith }
refused_small ρ s at r (fills_vacant g d) = record { reply = omega arith; group = d.filled.high }

pub answer_small : (ρ : Rules) (s : List ℕ) (at : ℕ) → Small (placing_of ρ s at)
unfolding Placing.placing_of
answer_small ρ s at = by (locate ρ s at) refl
  where
    by : (l : Located) → locate ρ s at ≡ l → Small (placing_by l)
    by (located n ns) e = ruled_small n (ruling_of ns) (blamed_within ns)
    by (refused r) e = refused_small ρ s at r (refused_due ρ s at r e)

-- what placing answers for a record
placing_is : (ρ : Rules) (s : List ℕ) (at n : ℕ) (ns : List ℕ) → locate ρ s at ≡ located n ns → placing_of ρ s at ≡ ruled_at n (ruling_of ns)
unfolding Placing.placing_of
placing_is ρ s at n ns e = rw e

counts_are : (ρ : Rules) (s : List ℕ) (at n : ℕ) (ns : List ℕ) → locate ρ s at ≡ located n ns → counts_at ρ s at ≡ ns
unfolding Placing.counts_at
counts_are ρ s at n ns e = rw e

-- the next place and the lines of a record
pub record Within (ρ : Rules) (s : List ℕ) (at : ℕ) : Type 0 where
  pub next : next_of (placing_of ρ s at) ≤ length s
  pub lines : record_lines ρ (counts_at ρ s at) ≤ length s

located_lines : (ρ : Rules) (s : List ℕ) (at n : ℕ) (ns : List ℕ) → locate ρ s at ≡ located n ns → record_lines ρ ns ≤ length s
located_lines ρ s at n ns e =
    let p = located_is ρ s at n ns e in
    omega (arith, p.many, feeds_le (drop at s), length-drop at s)

pub record_within : (ρ : Rules) (s : List ℕ) (at : ℕ) → IsRecord ρ s at → Within ρ s at
record_within ρ s at r = record { next = next r.next r.ns r.is; lines = lines r.next r.ns r.is }
  where
    ruled : (n : ℕ) (u : Option ℕ) → n ≤ length s → next_of (ruled_at n u) ≤ length s
    ruled n None h = h
    ruled n (Some g) h = h

    next : (n : ℕ) (ns : List ℕ) → locate ρ s at ≡ located n ns → next_of (placing_of ρ s at) ≤ length s
    next n ns e = rw (placing_is ρ s at n ns e) (ruled n (ruling_of ns) (located_range ρ s at n ns e))

    lines : (n : ℕ) (ns : List ℕ) → locate ρ s at ≡ located n ns → record_lines ρ (counts_at ρ s at) ≤ length s
    lines n ns e = rw (counts_are ρ s at n ns e) (located_lines ρ s at n ns e)

-- ---- lines

module _ (ρ : Rules) (s : List ℕ) (short : length s ≤ 65536) where
  row_within : (k : ℕ) → k < records_in ρ s → length (row_at ρ s k) ≤ 30
  unfolding row_at record_row Rows.row_size
  row_within k h =
      let at = spot ρ s k in
      let p = placing_of ρ s at in
      let ns = counts_at ρ s at in
      let a = answer_small ρ s at in
      let w = record_within ρ s at ((records_stop ρ s).each k h) in
      rw (row_size_lem (record_row ρ (suc k) at p ns) (lit< tt))
      (omega (
        arith,
        length_within 2 (suc k) (omega (arith, records_bytes ρ s)),
        length_within 4 at (omega (arith, spot_inside ρ s k)),
        length_within 4 (next_of p) (omega (arith, w.next)),
        length_within 0 (reply_of p) (omega (arith, a.reply)),
        length_within 1 (group_of p) (omega (arith, a.group)),
        length_within 1 (filled_groups ns) (omega (arith, filled_within ns)),
        length_within 4 (record_lines ρ ns) (omega (arith, w.lines)),
      ))

  end_within : length (end_at ρ s (records_in ρ s)) ≤ 19
  unfolding end_at end_row Rows.row_size
  end_within =
      let many = records_in ρ s in
      let at = spot ρ s many in
      let p = placing_of ρ s at in
      let a = answer_small ρ s at in
      rw (length-append (bytes "end ") (row_text (end_row many at p)), row_size_lem (end_row many at p) (lit< tt))
      (omega (
        arith,
        length_within 2 many (omega (arith, records_bytes ρ s)),
        length_within 4 at (omega (arith, spot_inside ρ s many)),
        length_within 0 (reply_of p) (omega (arith, a.reply)),
        length_within 1 (group_of p) (omega (arith, a.group)),
      ))

  rows_within : (left k : ℕ) → k + left ≤ records_in ρ s → length (rows_from ρ s k left) ≤ 30 * left
  unfolding rows_from
  rows_within zero k h = omega arith
  rows_within (suc left) k h =
      rw (length-append (row_at ρ s k) (rows_from ρ s (suc k) left))
      (omega (arith, row_within k (omega arith), rows_within left (suc k) (omega arith)))

  pub listing_short : length (listing ρ s) < 8192
  unfolding listing listing_of
  listing_short =
      rw (length-append (rows_from ρ s 0 (records_in ρ s)) (end_at ρ s (records_in ρ s)))
      (omega (arith, rows_within (records_in ρ s) 0 (omega arith), end_within, records_bytes ρ s))

-- `end 0 0 11 0` and its line feed
long_bytes : length (bytes "end " ++ row_text (0 ∷ 0 ∷ 11 ∷ 0 ∷ [])) ≡ 13
unfolding Rows.row_text Numerals.numeral Numerals.digits_of Numerals.digits_in
long_bytes = refl

pub printed_within : (ρ : Rules) (s : List ℕ) → length (printed_listing ρ s) < 8192
printed_within ρ s =
    ⊎_elim
    (λ (h : length s ≤ 65536). rw (← printed_short ρ s h) (listing_short ρ s h))
    (λ (h : 65536 < length s). rw (← printed_long ρ s h, long_bytes) (lit< tt))
    (le_or_lt (length s) 65536)

-- so the program's 8,192 bytes have room for whatever it is given
pub print_has_room : (ρ : Rules) (s out : List ℕ) → length out ≡ 8192 → put_answer 0 (printed_listing ρ s) out ≡ Some (length (printed_listing ρ s))
unfolding Writing.put_answer
print_has_room ρ s out h = end_done 0 (length (printed_listing ρ s)) (length out) (omega (arith, printed_within ρ s)) ∙ ap Some (zero-add (length (printed_listing ρ s)))

pub print_no_refusal : (ρ : Rules) (s out new : List ℕ) → length out ≡ 8192 → Puts 0 (printed_listing ρ s) out None new → ⊥
print_no_refusal ρ s out new h p = omega (arith, (none_means 0 (printed_listing ρ s) out new p).0, printed_within ρ s)
