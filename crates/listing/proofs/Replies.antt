-- The listing as due: there is one listing of a text, and it is the one that is given; 0 comes with its bytes, and 11 exactly if there are
-- fewer bytes than that; what is lent afterwards; and each answer fills a row of the question's table.
-- Assumes nothing.
use Rattle.std.specs.Prelude.{Result, Ok, Err}
use mathlib.Core.Path.{◌≡◌, refl, sym, ◌∙◌, ap, subst}
use mathlib.Core.Bool.{Bool, true, false, cond}
use mathlib.Core.List.{List, [], ◌∷◌, ◌++◌, map, flat_map}
use mathlib.Core.Logic.{◌↔◌, inl, inr}
use Prim.Native.Nat.{ℕ, zero, suc, ◌+◌, ◌≤◌}
use native.Mathlib.Nat.{zero-add}
use native.Mathlib.Omega.{arith}
use borrow.Author.Tests.{le-leb, lt-leb, leb-true, leb-false}
use lib.Dec.{leb}
use lib.ListN.{length, take, drop, get_or, length-append, length-map}
use lib.Seq.{take_at, drop_at, ext_get_or}
use Rattle.rules.specs.declared.Rules.{Rules}
use Rattle.reply.specs.declared.Refusal.{Refusal}
use Rattle.reply.specs.declared.Refusal.TheVariants.{NoRoom}
use Rattle.reply.specs.Table.{Numbered, bytes as textBytes}
use Rattle.reply.specs.Refusals.{answer_reply}
use Rattle.reply.proofs.Replies.{fills, refusal_fills}
use Rattle.decimal.specs.Writing
use Rattle.decimal.specs.Writing.{put_bytes, Puts}
use Rattle.place.proofs.Walked.{stops_some}
use Rattle.base.specs.Part.{over}
use Rattle.base.specs.Every
use Rattle.base.specs.Every.{up_from}
use Rattle.base.specs.Quoted.{bytes}
use Rattle.base.proofs.UpFrom.{length_up, get_d_map_up}
use Rattle.decimal.specs.Rows.{row_text}
use Rattle.place.specs.Placing.{placing_of, counts_at}
use Rattle.place.proofs.Due as Placing
use Rattle.place.specs.Walk.{spot, records_in}
use Rattle.listing.specs.Rows.{record_row, end_row}
use Rattle.listing.specs.Listing.{row_at, rows_from, end_at, listing_of, listing, listed_in, IsRow, IsListing, RefusedFor, no_room, ListingDue}
use Rattle.listing.specs.Numbered.{listing_rows}
use Rattle.place.proofs.Counted.{records_are, records_stop}

-- a listing has its line `end` at least
some_line : (ρ : Rules) (s : List ℕ) → 1 ≤ length (listing ρ s)
unfolding listing listing_of end_at
some_line ρ s =
    let many = records_in ρ s in
    let last = row_text (end_row many (spot ρ s many) (placing_of ρ s (spot ρ s many))) in
    omega (arith, length-append (rows_from ρ s 0 many) (bytes "end " ++ last), length-append (bytes "end ") last)

pub listed_numbered : (ρ : Rules) (s : List ℕ) (room : ℕ) → Numbered listing_rows (answer_reply (listed_in (listing ρ s) room))
listed_numbered ρ s room = by (leb (length (listing ρ s)) room)
  where
    by : (t : Bool) → Numbered listing_rows (answer_reply (cond t (Ok (length (listing ρ s))) (Err NoRoom)))
    by true = inl (fills 0 ((textBytes, length (listing ρ s)) ∷ []) (some_line ρ s, tt))
    by false = inr (inl (refusal_fills NoRoom tt))

-- ---- which text it is

-- the seven numbers of record k, and the four of the end
abbrev row : Rules → List ℕ → ℕ → List ℕ
row ρ s k = record_row ρ (suc k) (spot ρ s k) (placing_of ρ s (spot ρ s k)) (counts_at ρ s (spot ρ s k))

abbrev last : Rules → List ℕ → ℕ → List ℕ
last ρ s many = end_row many (spot ρ s many) (placing_of ρ s (spot ρ s many))

row_is : (ρ : Rules) (s : List ℕ) (k : ℕ) → IsRow ρ s k (row ρ s k)
unfolding record_row
row_is ρ s k =
    let at = spot ρ s k in
    record {
      placing = placing_of ρ s at;
      placed = (Placing.first_due ρ s at (placing_of ρ s at)).0 refl;
      counts = counts_at ρ s at;
      counted = (Placing.counts_first_due ρ s at (counts_at ρ s at)).0 refl;
      numbers = refl;
    }

is_row : (ρ : Rules) (s : List ℕ) (k : ℕ) (ns : List ℕ) → IsRow ρ s k ns → ns ≡ row ρ s k
unfolding record_row
is_row ρ s k ns h =
    h.numbers
    ∙ rw ((Placing.first_due ρ s (spot ρ s k) h.placing).1 h.placed, (Placing.counts_first_due ρ s (spot ρ s k) h.counts).1 h.counted) refl

rows_text : (ρ : Rules) (s : List ℕ) (k left : ℕ) → rows_from ρ s k left ≡ flat_map row_text (map (row ρ s) (up_from k left))
unfolding rows_from row_at Every.up_from flat_map
rows_text ρ s k zero = refl
rows_text ρ s k (suc left) = ap (λ t. row_text (row ρ s k) ++ t) (rows_text ρ s (suc k) left)

pub listing_is : (ρ : Rules) (s : List ℕ) → IsListing ρ s (listing ρ s)
unfolding listing listing_of end_at end_row
listing_is ρ s =
    let many = records_in ρ s in
    record {
      many = many;
      why = (stops_some ρ s).answer;
      stops = records_stop ρ s;
      rows = map (row ρ s) (up_from 0 many);
      as_many = length-map (up_from 0 many) (row ρ s) ∙ length_up 0 many;
      each = λ k l. subst (IsRow ρ s k) (sym (get_d_map_up (row ρ s) 0 many k [] l ∙ ap (row ρ s) (zero-add k))) (row_is ρ s k);
      last = last ρ s many;
      end = record { placing = placing_of ρ s (spot ρ s many); placed = (Placing.first_due ρ s (spot ρ s many) (placing_of ρ s (spot ρ s many))).0 refl; numbers = refl };
      text = ap (λ t. t ++ (bytes "end " ++ row_text (last ρ s many))) (rows_text ρ s 0 many);
    }

pub is_listing : (ρ : Rules) (s x : List ℕ) → IsListing ρ s x → x ≡ listing ρ s
unfolding listing listing_of end_at end_row
is_listing ρ s x h =
    let many = h.many in
    let these : h.rows ≡ map (row ρ s) (up_from 0 many) =
    ext_get_or [] h.rows (map (row ρ s) (up_from 0 many)) (h.as_many ∙ sym (length-map (up_from 0 many) (row ρ s) ∙ length_up 0 many))
    (λ k l. is_row ρ s k (get_or h.rows k []) (h.each k (omega (arith, l, h.as_many))) ∙ sym (get_d_map_up (row ρ s) 0 many k [] (omega (arith, l, h.as_many)) ∙ ap (row ρ s) (zero-add k))) in
    let final : h.last ≡ last ρ s many = h.end.numbers ∙ rw ((Placing.first_due ρ s (spot ρ s many) h.end.placing).1 h.end.placed) refl in
    h.text
    ∙ ap (λ t. flat_map row_text t ++ (bytes "end " ++ row_text h.last)) these
    ∙ ap (λ t. flat_map row_text (map (row ρ s) (up_from 0 many)) ++ (bytes "end " ++ row_text t)) final
    ∙ ap (λ t. t ++ (bytes "end " ++ row_text (last ρ s many))) (sym (rows_text ρ s 0 many))
    ∙ ap (listing_of ρ s) (sym (records_are ρ s many h.why h.stops))

-- ---- which answer

module _ (x : List ℕ) (room : ℕ) where
  due_given : (r : Result ℕ Refusal) → ListingDue x room r → listed_in x room ≡ r
  due_given (Ok n) d = rw (le-leb (length x) room d.1) (ap Ok (sym d.0))
  due_given (Err r) (no_room d) = rw (lt-leb (length x) room d)

  is_due : ListingDue x room (listed_in x room)
  is_due = by (leb (length x) room) refl
    where
      by : (t : Bool) → leb (length x) room ≡ t → ListingDue x room (cond t (Ok (length x)) (Err NoRoom))
      by true e = (refl, leb-true (length x) room e)
      by false e = no_room (leb-false (length x) room e)

  pub first_due : (r : Result ℕ Refusal) → listed_in x room ≡ r ↔ ListingDue x room r
  first_due r = (λ e. subst (ListingDue x room) e is_due, due_given r)

-- ---- what is lent, afterwards

module _ (x out : List ℕ) where
  room_for : (n : ℕ) → listed_in x (length out) ≡ Ok n → (n ≡ length x) × (length x ≤ length out)
  room_for n e = (first_due x (length out) (Ok n)).0 e

  pub listed_keeps : (r : Refusal) → listed_in x (length out) ≡ Err r → put_bytes 0 x out ≡ out
  unfolding Writing.put_bytes
  listed_keeps r e = by r ((first_due x (length out) (Err r)).0 e)
    where
      by : (r : Refusal) → RefusedFor x (length out) r → cond (leb (0 + length x) (length out)) (over 0 x out) out ≡ out
      by r (no_room d) = rw (lt-leb (0 + length x) (length out) (omega arith))

  put_front : length x ≤ length out → put_bytes 0 x out ≡ over 0 x out
  unfolding Writing.put_bytes
  put_front h = rw (le-leb (0 + length x) (length out) (omega arith))

  pub listed_begins : (n : ℕ) → listed_in x (length out) ≡ Ok n → take n (put_bytes 0 x out) ≡ x
  listed_begins n e =
      let m = room_for n e in
      ap (take n) (put_front m.1) ∙ take_at x (drop (0 + length x) out) n (sym m.0)

  pub listed_rest : (n : ℕ) → listed_in x (length out) ≡ Ok n → drop n (put_bytes 0 x out) ≡ drop n out
  listed_rest n e =
      let m = room_for n e in
      ap (drop n) (put_front m.1) ∙ drop_at x (drop (0 + length x) out) n (sym m.0) ∙ ap (λ k. drop k out) (zero-add (length x) ∙ sym m.0)
