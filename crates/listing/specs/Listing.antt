-- The listing of a text: the rows of its records, one behind the other (R342), and then the end row (R343). How the numbers of a row make
-- its line (R344) is decimal's `row_text`.
use Rattle.std.specs.Prelude.{◌≡◌, cond, ℕ, zero, suc, ◌<◌, ◌≤◌, leb, length, get_or, Result, Ok, Err}
use mathlib.Core.List.{List, [], ◌∷◌, ◌++◌, flat_map}
use Rattle.rules.specs.declared.Rules.{Rules}
use Rattle.base.specs.Quoted.{bytes}
use Rattle.reply.specs.declared.Refusal.{Refusal}
use Rattle.reply.specs.declared.Refusal.TheVariants.{NoRoom}
use Rattle.decimal.specs.Rows.{row_text}
use Rattle.place.specs.Placing.{placing_of, counts_at}
use Rattle.place.specs.declared.Placing.{Placing}
use Rattle.place.specs.Walk.{spot, Stops, records_in}
use Rattle.count.specs.Tally.{record_lines}
use Rattle.place.specs.Due as Place
use Rattle.listing.specs.Rows.{next_of, reply_of, group_of, filled_groups, record_row, end_row}

module _ (ρ : Rules) where
  -- the line of the record at the k-th spot, whose number is one more: spots count from 0
  unfoldable pub row_at : List ℕ → ℕ → List ℕ
  row_at s k = row_text (record_row ρ (suc k) (spot ρ s k) (placing_of ρ s (spot ρ s k)) (counts_at ρ s (spot ρ s k)))

  -- so many lines, from that of the k-th spot on
  unfoldable pub rows_from : List ℕ → ℕ → ℕ → List ℕ
  rows_from s k zero = []
  rows_from s k (suc left) = row_at s k ++ rows_from s (suc k) left

  -- the last line, behind so many records
  unfoldable pub end_at : List ℕ → ℕ → List ℕ
  end_at s many = bytes "end " ++ row_text (end_row many (spot ρ s many) (placing_of ρ s (spot ρ s many)))

  -- the listing of a walk of so many records
  unfoldable pub listing_of : List ℕ → ℕ → List ℕ
  listing_of s many = rows_from s 0 many ++ end_at s many

  unfoldable pub listing : List ℕ → List ℕ
  listing s = listing_of s (records_in ρ s)

  -- R341: the program takes 65,536 bytes; if there are more, it prints the line `end 0 0 11 0` alone
  unfoldable pub printed_listing : List ℕ → List ℕ
  printed_listing s = cond (leb (length s) 65536) (listing s) (bytes "end " ++ row_text (0 ∷ 0 ∷ 11 ∷ 0 ∷ []))

-- R310: a listing put into so many bytes: 0 with the bytes that were written, or 11
abbrev pub listed_in : List ℕ → ℕ → Result ℕ Refusal
listed_in x room = cond (leb (length x) room) (Ok (length x)) (Err NoRoom)

module _ (ρ : Rules) where
  -- ---- as a statement

  -- R342: the numbers of the line of record k, from 0: its number, its place, and of what is due there the next place, the reply and the group
  -- that is blamed; of its counts how many groups have one, and the lines
  pub record IsRow (s : List ℕ) (k : ℕ) (row : List ℕ) : Type 0 where
    pub placing : Placing
    pub placed : Place.Due ρ s (spot ρ s k) placing
    pub counts : List ℕ
    pub counted : Place.CountsDue ρ s (spot ρ s k) counts
    pub numbers : row ≡ suc k ∷ spot ρ s k ∷ next_of placing ∷ reply_of placing ∷ group_of placing ∷ filled_groups counts ∷ record_lines ρ counts ∷ []

  -- R343: those of the line `end`: how many records were listed, where the walk stopped, and the reply there with its group
  pub record IsEnd (s : List ℕ) (many : ℕ) (row : List ℕ) : Type 0 where
    pub placing : Placing
    pub placed : Place.Due ρ s (spot ρ s many) placing
    pub numbers : row ≡ many ∷ spot ρ s many ∷ reply_of placing ∷ group_of placing ∷ []

  -- x is the listing of a text: a line for each record of its walk, and then the line `end`
  pub record IsListing (s x : List ℕ) : Type 0 where
    pub many : ℕ
    pub why : Refusal
    pub stops : Stops ρ s many why
    pub rows : List (List ℕ)
    pub as_many : length rows ≡ many
    pub each : (k : ℕ) → k < many → IsRow s k (get_or rows k [])
    pub last : List ℕ
    pub end : IsEnd s many last
    pub text : x ≡ flat_map row_text rows ++ (bytes "end " ++ row_text last)

-- R310: 0 with its bytes where they have room, else 11
pub data RefusedFor (x : List ℕ) (room : ℕ) : Refusal → Type 0 where
  no_room : room < length x → RefusedFor x room NoRoom

abbrev pub ListingDue : List ℕ → ℕ → Result ℕ Refusal → Type 0
ListingDue x room (Ok n) = (n ≡ length x) × (length x ≤ room)
ListingDue x room (Err r) = RefusedFor x room r
