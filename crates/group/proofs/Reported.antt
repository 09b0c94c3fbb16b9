-- A characteristic: by its number, by what group 4 reads as, and by its cell.
-- Assumes nothing.
use Rattle.std.specs.Prelude.{Result, Err}
use mathlib.Core.Path.{◌≡◌, refl, sym, ◌∙◌, ap}
use mathlib.Core.Bool.{Bool, true, false, cond, ◌&&◌}
use mathlib.Core.List.{List}
use Prim.Native.Nat.{ℕ, ◌+◌, ◌-◌, ◌≤◌}
use native.Mathlib.Omega.{arith}
use borrow.Author.Tests.{le-leb, leb-true}
use mathlib.Core.Logic.{◌↔◌}
use lib.Dec.{T, leb, leb→le}
use lib.IntN.{ℤ, pos}
use lib.ListN.{length, drop, get_or, get_or-append}
use Rattle.base.specs.Pieces.{done, bad}
use Rattle.base.proofs.Choice.{true_T, and_left, and_right, and_first, and_second, T_true, not_T_false}
use Rattle.characteristic.specs.NoReading.{IsNoReading, is_no_reading}
use Rattle.characteristic.proofs.NoReading.{no_reading_exactly}
use Rattle.reply.specs.declared.Refusal.TheVariants.{NoSuchNumber}
use Rattle.reply.specs.declared.Refusal.{Refusal}
use Rattle.group.specs.declared.Characteristic.TheVariants.{Value, NoReading, NotReported, Refused}
use Rattle.reading.specs.Read.{Cells, reading_of, table_by}
use Rattle.group.specs.Characteristics.{told_by, told_of, reported, characteristic_by}

-- ---- no reading

module _ (k : ℕ) (z : ℤ) where
  pub is_no_reading_lem : IsNoReading k z → told_by k z ≡ NoReading
  is_no_reading_lem h = rw (T_true (is_no_reading k z) ((no_reading_exactly k z).1 h))

  pub is_reading : (IsNoReading k z → ⊥) → told_by k z ≡ Value z
  is_reading n = rw (not_T_false (is_no_reading k z) (λ t. n ((no_reading_exactly k z).0 t)))

  -- as the test has it
  pub told_none : {t : Bool} → T t ↔ IsNoReading k z → t ≡ true → told_by k z ≡ NoReading
  told_none h e = is_no_reading_lem (h.0 (true_T _ e))

  pub told_value : {t : Bool} → T t ↔ IsNoReading k z → t ≡ false → told_by k z ≡ Value z
  told_value h e = is_reading (λ n. rw e at (h.1 n))

-- ---- by the number

module _ (k : ℕ) (four : Cells) where
  -- R212: 12 where the number is none of 1 to 49
  outside : (1 ≤ k → k ≤ 49 → ⊥) → leb 1 k && leb k 49 ≡ false
  outside n = not_T_false (leb 1 k && leb k 49) (λ t. n (leb→le 1 k (and_left (leb 1 k) (leb k 49) t)) (leb→le k 49 (and_right (leb 1 k) (leb k 49) t)))

  pub number_outside : leb 1 k && leb k 49 ≡ false → Refused NoSuchNumber ≡ characteristic_by k four
  number_outside e = rw e

  pub number_none : (1 ≤ k → k ≤ 49 → ⊥) → characteristic_by k four ≡ Refused NoSuchNumber
  number_none n = sym (number_outside (outside n))

  pub number_inside : 1 ≤ k → k ≤ 49 → characteristic_by k four ≡ reported k four
  number_inside low high = rw (le-leb 1 k low, le-leb k 49 high)

pub number_within : (k : ℕ) → leb 1 k && leb k 49 ≡ true → (1 ≤ k) × (k ≤ 49)
number_within k e = (leb-true 1 k (and_first (leb 1 k) (leb k 49) e), leb-true k 49 (and_second (leb 1 k) (leb k 49) e))

pub number_low : (k : ℕ) → leb 1 k && leb k 49 ≡ true → 1 ≤ k
number_low k e = (number_within k e).0

pub number_high : (k : ℕ) → leb 1 k && leb k 49 ≡ true → k ≤ 49
number_high k e = (number_within k e).1

-- what the table holds of group 4's cells
told_cells : (k : ℕ) (four : Cells) (old : List ℤ) → 1 ≤ k → told_of k (reading_of four) (table_by four old) ≡ reported k four
told_cells k (done cs) old low = by (leb k (length cs)) refl
  where
    by : (t : Bool) → leb k (length cs) ≡ t → cond t (told_by k (get_or (table_by {B = Refusal} (done cs) old) (k - 1) (pos 0))) NotReported ≡ cond t (told_by k (get_or cs (k - 1) (pos 0))) NotReported
    by true e = ap (told_by k) (get_or-append cs (drop (0 + length cs) old) (pos 0) (k - 1) (omega (arith, leb-true k (length cs) e)))
    by false e = refl
told_cells k (bad r) old low = refl

pub four_told : (k : ℕ) (four : Cells) (answer : Result ℕ Refusal) (new old : List ℤ) → (1 ≤ k) × (k ≤ 49) → (answer ≡ reading_of four) × (new ≡ table_by four old)
    → told_of k answer new ≡ characteristic_by k four
four_told k four answer new old within e = rw (e.0, e.1) (told_cells k four old within.0 ∙ sym (number_inside k four within.0 within.1))

-- what group 4 is refused with
pub four_refused : (k : ℕ) (four : Cells) {r : Refusal} → 1 ≤ k → k ≤ 49 → reading_of four ≡ Err r → characteristic_by k four ≡ Refused r
four_refused k (done cs) low high e = let z : ◌≡◌ {A = ℕ} 0 1 = cc in absurd (omega arith)
four_refused k (bad q) {r} low high e = let p : q ≡ r = cc in number_inside k (bad q) low high ∙ ap Refused p
