-- R360: answers in numbers alone: a reply's number, and eight numbers beside it, of which those that its row doesn't name are 0 (R230).
use Rattle.std.specs.Prelude.{◌≡◌, List, [], ◌∷◌, ℕ, ℤ, pos, get_or}
use Rattle.reply.specs.declared.Reply.{Reply}
use Rattle.date.specs.declared.Date.{Date}
use Rattle.group.specs.declared.Characteristic.{Characteristic}
use Rattle.group.specs.declared.Characteristic.TheVariants.{Value, NoReading, NotReported, Refused}

-- the numbers beside a reply's own, in the order of `struct seambeacon_beside`
abbrev pub eight_beside : Reply → List ℕ
eight_beside r = r.next ∷ r.written ∷ r.group ∷ r.line ∷ r.element ∷ r.position ∷ r.savepoint ∷ r.place ∷ []

-- a reply told as its number n and the numbers beside it
pub record Told (r : Reply) (n : ℕ) (beside : List ℕ) : Type 0 where
  pub number : n ≡ r.number
  pub besides : beside ≡ eight_beside r

-- R367: a date as seven numbers, in the order of `struct seambeacon_date`
abbrev pub seven_date : List ℕ → Date
seven_date ns =
    record {
      year = get_or ns 0 0;
      day_of_year = get_or ns 1 0;
      month = get_or ns 2 0;
      day = get_or ns 3 0;
      hour = get_or ns 4 0;
      minute = get_or ns 5 0;
      second = get_or ns 6 0;
    }

-- R361: the kind of a characteristic, and its value, which is 0 for all kinds but the first
abbrev pub answer_kind : Characteristic → ℕ
answer_kind (Value z) = 0
answer_kind NoReading = 1
answer_kind NotReported = 2
answer_kind (Refused r) = 3

abbrev pub answer_value : Characteristic → ℤ
answer_value (Value z) = z
answer_value NoReading = pos 0
answer_value NotReported = pos 0
answer_value (Refused r) = pos 0
