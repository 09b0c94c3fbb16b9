-- R233, R334: when each answer is due: 10; the record that is found; the reply at which the walk stops.
use Rattle.std.specs.Prelude.{◌≡◌, List, map, ℕ, ◌<◌, ℤ, Ok, Err}
use Rattle.rules.specs.declared.Rules.{Rules}
use Rattle.base.specs.Pieces.{done}
use Rattle.base.specs.Sign.{size_of}
use Rattle.count.specs.Tally.{cells_in}
use Rattle.date.specs.declared.Date.{Date}
use Rattle.date.specs.Due.{IsDate, IsAsked, AskedDue}
use Rattle.date.specs.Order.{AtOrAfter}
use Rattle.place.specs.Placing.{counts_at}
use Rattle.place.specs.Walk.{PlacedAt, spot, StopsAt}
use Rattle.reply.specs.declared.Refusal.{Refusal}
use Rattle.reply.specs.declared.Refusal.TheVariants.{BadDate}
use Rattle.group.specs.Due as Group
use Rattle.since.specs.Numbered.{First}

module _ (ρ : Rules) (s : List ℕ) where
  -- R333: the record at a place has this date: its group 3 is read with 0, and the letters are this date
  pub record IsDated (at : ℕ) (d : Date) : Type 0 where
    pub cells : List ℤ
    pub reads : Group.Due ρ s at 3 (cells_in ρ (counts_at ρ s at) 3) (done cells)
    pub letters : IsDate (map size_of cells) d

  module _ (from : Date) where
    -- R332: record k of the walk, counted from 0, is at or after the date
    pub record IsFrom (k : ℕ) : Type 0 where
      pub date : Date
      pub has : IsDated (spot ρ s k) date
      pub after : AtOrAfter date from

    -- R334, R335: it is the first, at this place, behind as many records as its number says, which are placed with 0 or 7
    pub record IsFirst (place k : ℕ) : Type 0 where
      pub is : IsFrom k
      pub stands : place ≡ spot ρ s k
      pub passed : (j : ℕ) → j < k → PlacedAt ρ s (spot ρ s j)
      pub none_before : (j : ℕ) → j < k → IsFrom j → ⊥

    -- the walk has so many records, none of which is, and stops behind them with this refusal
    pub record NoneIs (many : ℕ) (r : Refusal) : Type 0 where
      pub stops : StopsAt ρ s many r
      pub none : (j : ℕ) → j < many → IsFrom j → ⊥

    -- with how many records passed it refuses, and with what
    pub data RefusedFor : ℕ → Refusal → Type 0 where
      bad_date : (p : ℕ) → AskedDue from (Err p) → RefusedFor 0 (BadDate p)
      not_found : (many : ℕ) (r : Refusal) → IsAsked from → NoneIs many r → RefusedFor many r

    abbrev pub Due : First → Type 0
    Due (Ok f) = IsAsked from × IsFirst f.place f.passed
    Due (Err u) = RefusedFor u.passed u.why
