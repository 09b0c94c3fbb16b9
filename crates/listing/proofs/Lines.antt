-- The lines of the listing from a record on, as a loop goes through them: one line more where a record is placed, the last one where the
-- walk stops.
-- Assumes nothing.
use Rattle.std.specs.Prelude.{Bool, true, false, cond, Option, Some, None}
use mathlib.Core.Path.{◌≡◌, refl, sym, ◌∙◌, ap}
use mathlib.Core.List.{List, ◌++◌, append_assoc}
use Prim.Native.Nat.{ℕ, suc, ◌+◌, ◌-◌, ◌≤◌}
use native.Mathlib.Omega.{arith}
use native.Mathlib.Numerals.{add-one}
use Rattle.rules.specs.declared.Rules.{Rules}
use Rattle.base.specs.Quoted.{bytes}
use Rattle.decimal.specs.Rows.{row_text}
use Rattle.count.specs.Rules.{ruling_of}
use Rattle.place.specs.Placing.{Located, located, refused, locate, ruled_at, placing_by, counts_by, placing_of, counts_at}
use Rattle.reply.specs.declared.Refusal.{Refusal}
use Rattle.reply.specs.declared.Refusal.TheVariants as R
use Rattle.place.specs.Walk.{spot, Stops, records_in}
use Rattle.place.proofs.Walked.{spot_start, spot_more, stops_some, stops_later, stops_here}
use Rattle.place.specs.Numbered.{is_placed}
use Rattle.place.specs.declared.Placing.TheVariants.{Placed, BrokenRule, Refused}
use Rattle.listing.specs.Rows.{reply_of, next_of, next_place, next_told, record_row, end_row}
use Rattle.listing.specs.Listing.{row_at, rows_from, end_at, listing_of, listing}
use Rattle.place.proofs.Counted.{records_are, records_stop, records_bytes}
use Rattle.place.proofs.Stopped.{Halts, placed_goes, placed_halts}

-- for a walk that has so many records the listing has their rows
pub listing_is : (ρ : Rules) (s : List ℕ) (many : ℕ) (p : Refusal) → Stops ρ s many p → listing ρ s ≡ listing_of ρ s many
unfolding listing
listing_is ρ s many p h = ap (listing_of ρ s) (records_are ρ s many p h)

-- the listing from the k-th spot on
unfoldable pub lines_from : Rules → List ℕ → ℕ → List ℕ
lines_from ρ s k = rows_from ρ s k (records_in ρ s - k) ++ end_at ρ s (records_in ρ s)

pub lines_all : (ρ : Rules) (s : List ℕ) → lines_from ρ s 0 ≡ listing ρ s
unfolding lines_from listing listing_of
lines_all ρ s = let e : records_in ρ s - 0 ≡ records_in ρ s = omega arith in rw e

-- ---- what placing answers at a place of the walk

-- what a reply tells, answer by answer: the next place of a record that is placed, and none for a refusal, but for that of a broken rule, which
-- placing doesn't give (`refused_none`)
pub record NextAnswers : Type 0 where
  pub placed : (n : ℕ) → next_told (Placed n) ≡ Some n
  pub broken_rule : (g n : ℕ) → next_told (BrokenRule g n) ≡ Some n
  pub unplaced : (r : Refusal) → ((g : ℕ) → r ≡ R.BrokenRule g → ⊥) → next_told (Refused r) ≡ None

unplaced_none : (r : Refusal) → ((g : ℕ) → r ≡ R.BrokenRule g → ⊥) → next_told (Refused r) ≡ None
unfolding next_told
unplaced_none R.End h = refl
unplaced_none R.Beyond h = refl
unplaced_none R.TooFewLines h = refl
unplaced_none R.Misformed h = refl
unplaced_none R.OtherRelease h = refl
unplaced_none (R.FilledVacant x) h = refl
unplaced_none (R.BrokenRule x) h = absurd (h x refl)
unplaced_none (R.BadLine x) h = refl
unplaced_none (R.BadField x y) h = refl
unplaced_none (R.BadDate x) h = refl
unplaced_none R.NoRoom h = refl
unplaced_none R.NoSuchNumber h = refl
unplaced_none (R.NoField x y) h = refl
unplaced_none R.OtherLength h = refl
unplaced_none R.NotOpen h = refl
unplaced_none R.AllOpen h = refl
unplaced_none (R.BadEntry x) h = refl
unplaced_none R.BadPart h = refl

pub next_answers : NextAnswers
unfolding next_told
next_answers = record { placed = λ n. refl; broken_rule = λ g n. refl; unplaced = unplaced_none }

module _ (ρ : Rules) (s : List ℕ) (at : ℕ) where
  ruled_place : (n : ℕ) (r : Option ℕ) → next_place (ruled_at n r) ≡ Some n
  ruled_place n None = refl
  ruled_place n (Some g) = refl

  -- whatever placing answers, its reply tells the next place
  pub next_is_told : next_told (placing_of ρ s at) ≡ next_place (placing_of ρ s at)
  unfolding placing_of next_told
  next_is_told = by (is_placed (reply_of (placing_of ρ s at))) refl
    where
      by : (t : Bool) → is_placed (reply_of (placing_of ρ s at)) ≡ t → cond t (Some (next_of (placing_of ρ s at))) None ≡ next_place (placing_of ρ s at)
      by true t =
          sym (ruled_place (next_of (placing_of ρ s at)) (ruling_of (counts_at ρ s at)))
          ∙ ap (λ l. next_place (placing_by l)) (sym (placed_goes ρ s at t))
      by false t = ap (λ l. next_place (placing_by l)) (sym (placed_halts ρ s at t).is)

  -- a refusal by placing tells none
  pub refused_none : (r : Refusal) → placing_of ρ s at ≡ Refused r → next_told (placing_of ρ s at) ≡ None
  refused_none r e = next_is_told ∙ ap next_place e

  -- a record
  placed_there : (n : ℕ) → next_place (placing_of ρ s at) ≡ Some n → locate ρ s at ≡ located n (counts_at ρ s at)
  unfolding placing_of counts_at
  placed_there n e = by (locate ρ s at) refl e
    where
      by : (l : Located) → locate ρ s at ≡ l → next_place (placing_by l) ≡ Some n → l ≡ located n (counts_by l)
      by (located m ns) f e = let q = ruled_place m (ruling_of ns) in let z : m ≡ n = cc in ap (λ k. located k ns) z
      by (refused r) f e = let z : ◌≡◌ {A = ℕ} 0 1 = cc in absurd (omega arith)

  -- none
  none_there : next_place (placing_of ρ s at) ≡ None → Halts ρ s at
  unfolding placing_of
  none_there e = by (locate ρ s at) refl e
    where
      by : (l : Located) → locate ρ s at ≡ l → next_place (placing_by l) ≡ None → Halts ρ s at
      by (located m ns) f e = let q = ruled_place m (ruling_of ns) in let z : ◌≡◌ {A = ℕ} 0 1 = cc in absurd (omega arith)
      by (refused r) f e = record { why = r; is = f }

-- ---- the walk at its k-th spot

module _ (ρ : Rules) (s : List ℕ) (k at : ℕ) (few : k ≤ records_in ρ s) (here : at ≡ spot ρ s k) where
  -- a record is placed there
  module _ (n : ℕ) (placed : next_place (placing_of ρ s at) ≡ Some n) where
    record_at : locate ρ s (spot ρ s k) ≡ located n (counts_at ρ s at)
    record_at = ap (locate ρ s) (sym here) ∙ placed_there ρ s at n placed

    pub goes_few : k + 1 ≤ records_in ρ s
    goes_few = omega (arith, stops_later ρ s (records_in ρ s) (stops_some ρ s).answer (records_stop ρ s) k few n (counts_at ρ s at) record_at)

    pub goes_on : n ≡ spot ρ s (k + 1)
    goes_on = rw (add-one k) (sym (spot_more ρ s k n (counts_at ρ s at) record_at))

    pub goes_lines : lines_from ρ s k ≡ row_text (record_row ρ (k + 1) at (placing_of ρ s at) (counts_at ρ s at)) ++ lines_from ρ s (k + 1)
    unfolding lines_from rows_from row_at
    goes_lines =
        let e : records_in ρ s - k ≡ suc (records_in ρ s - (k + 1)) = omega (arith, goes_few) in
        rw (here, e, add-one k) (append_assoc (row_at ρ s k) (rows_from ρ s (suc k) (records_in ρ s - suc k)) (end_at ρ s (records_in ρ s)))

  -- none is
  pub halts_lines : next_place (placing_of ρ s at) ≡ None → lines_from ρ s k ≡ bytes "end " ++ row_text (end_row k at (placing_of ρ s at))
  unfolding lines_from rows_from end_at
  halts_lines stopped =
      let h = none_there ρ s at stopped in
      let q : locate ρ s (spot ρ s k) ≡ refused h.why = ap (locate ρ s) (sym here) ∙ h.is in
      let f : k ≡ records_in ρ s = stops_here ρ s (records_in ρ s) (stops_some ρ s).answer (records_stop ρ s) k few h.why q in
      let e : records_in ρ s - k ≡ 0 = omega arith in
      rw (e, here) (ap (end_at ρ s) (sym f))

-- what the two walks cite
pub ruleset walked = (lines_all, next_is_told, spot_start, records_bytes, goes_few, goes_on, goes_lines, halts_lines)
