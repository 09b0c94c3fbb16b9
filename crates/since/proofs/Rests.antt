-- What an answer rests on: that records stand where the walk comes to, their dates, and the refusal at which it stops. Texts that have this in
-- common, as far as the answer goes, are answered alike.
-- Assumes nothing.
use Rattle.std.specs.Prelude.{Ok, Err}
use mathlib.Core.Path.{◌≡◌, refl, sym, ◌∙◌, ap}
use mathlib.Core.List.{List}
use Prim.Native.Nat.{ℕ, ◌<◌, ◌≤◌}
use native.Mathlib.Omega.{arith}
use Rattle.rules.specs.declared.Rules.{Rules}
use Rattle.date.specs.declared.Date.{Date}
use Rattle.place.specs.Walk.{PlacedAt, spot, Stops, StopsAt}
use Rattle.place.proofs.Stopped.{walks}
use Rattle.reply.specs.declared.Refusal.{Refusal}
use Rattle.since.specs.Numbered.{First, found, unfound}
use Rattle.since.specs.Due.{IsFrom, IsFirst, NoneIs, RefusedFor, bad_date, not_found, Due}
use Rattle.since.specs.Since.{meets, date_at, first_from}
use Rattle.since.proofs.Dates.{meets_exactly}
use Rattle.since.proofs.Due.{first_due}

-- ---- as far as the answer goes

module _ (ρ : Rules) (s t : List ℕ) where
  -- record k has the same date in both
  abbrev pub SameDate : ℕ → Type 0
  SameDate k = date_at ρ s (spot ρ s k) ≡ date_at ρ t (spot ρ t k)

  module _ (from : Date) where
    from_there : (k : ℕ) → SameDate k → IsFrom ρ s from k → IsFrom ρ t from k
    from_there k e h = (meets_exactly ρ t from k).0 (ap (meets from) (sym e) ∙ (meets_exactly ρ s from k).1 h)

    from_back : (k : ℕ) → SameDate k → IsFrom ρ t from k → IsFrom ρ s from k
    from_back k e h = (meets_exactly ρ s from k).0 (ap (meets from) e ∙ (meets_exactly ρ t from k).1 h)

    pub first_there : (p k : ℕ) → IsFirst ρ s from p k → ((j : ℕ) → j < k → PlacedAt ρ t (spot ρ t j)) → ((j : ℕ) → j ≤ k → SameDate j) → IsFirst ρ t from (spot ρ t k) k
    first_there p k h placed dates = record {
      is = from_there k (dates k (omega arith)) h.is;
      stands = refl;
      passed = placed;
      none_before = λ j l f. h.none_before j l (from_back j (dates j (omega arith)) f);
    }

    pub none_there : (many : ℕ) (r : Refusal) → NoneIs ρ s from many r → StopsAt ρ t many r → ((j : ℕ) → j < many → SameDate j) → NoneIs ρ t from many r
    none_there many r h stops dates = record { stops = stops; none = λ j l f. h.none j l (from_back j (dates j l) f) }

-- ---- the same walk: the same answer, but that a record may stand elsewhere

module _ (ρ : Rules) (s t : List ℕ) where
  pub record SameRecords : Type 0 where
    pub placed : (k : ℕ) → PlacedAt ρ s (spot ρ s k) → PlacedAt ρ t (spot ρ t k)
    pub stops : (many : ℕ) (r : Refusal) → Stops ρ s many r → Stops ρ t many r
    pub dates : (k : ℕ) → SameDate ρ s t k

  abbrev moved : First → First
  moved (Ok f) = found (spot ρ t f.passed) f.passed
  moved (Err u) = unfound u.passed u.why

  module _ (h : SameRecords) (from : Date) where
    refused_moved : (k : ℕ) (r : Refusal) → RefusedFor ρ s from k r → RefusedFor ρ t from k r
    refused_moved k r (bad_date p a) = bad_date p a
    refused_moved k r (not_found many q a n) =
        let stops = ((walks ρ t).stops many q).0 (h.stops many q (((walks ρ s).stops many q).1 n.stops)) in
        not_found many q a (none_there ρ s t from many q n stops (λ j l. h.dates j))

    due_moved : (x : First) → Due ρ s from x → Due ρ t from (moved x)
    due_moved (Ok f) d = (d.0, first_there ρ s t from f.place f.passed d.1 (λ j l. h.placed j (d.1.passed j l)) (λ j l. h.dates j))
    due_moved (Err u) d = refused_moved u.passed u.why d

    pub same_first : (x : First) → first_from ρ s from ≡ x → first_from ρ t from ≡ moved x
    same_first x e = (first_due ρ t from (moved x)).1 (due_moved x ((first_due ρ s from x).0 e))

-- where it stands
pub found_stands : (ρ : Rules) (s : List ℕ) (from : Date) (p k : ℕ) → first_from ρ s from ≡ found p k → p ≡ spot ρ s k
found_stands ρ s from p k e = ((first_due ρ s from (found p k)).0 e).1.stands
