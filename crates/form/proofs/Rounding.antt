-- Rounding up: so many lines are enough for n elements, and one fewer are not.
-- Assumes nothing.
use mathlib.Core.Path.{◌≡◌, refl, sym, ap}
use mathlib.Core.Logic.{◌↔◌, ⊎_elim}
use Prim.Native.Nat.{ℕ, zero, suc, ◌+◌, ◌-◌, ◌*◌, ◌/◌, ◌<◌, ◌≤◌}
use native.Mathlib.Omega.{arith}
use native.Mathlib.Nat.{div-lt_iff_lt-mul, lt-div-mul-add, suc-mul, mul-le-mul_right, add-mul, one-mul, div-mul-le_self, div-zero, div-eq_of_lt}
use Rattle.std.specs.Int.{div_ceil}
use Rattle.std.proofs.lemmas.Grind.{div_ceil_times}
use Rattle.base.proofs.Order.{le_or_lt}
use Rattle.form.specs.Count.{rounded_up, Takes}

-- nothing takes no lines, however many go on one
pub rounded_none : (p : ℕ) → rounded_up 0 p ≡ 0
unfolding rounded_up
rounded_none zero = refl
rounded_none (suc p) = div-eq_of_lt (omega arith)

pub rounded_by_zero : (n : ℕ) → rounded_up n 0 ≡ 0
unfolding rounded_up
rounded_by_zero n = div-zero (n + (0 - 1))

module _ (n p : ℕ) (some : 0 < p) where
  pub lines_enough : n ≤ rounded_up n p * p
  unfolding rounded_up
  lines_enough = omega (arith, lt-div-mul-add {a = n + (p - 1)} some)

  pub lines_least : (k : ℕ) → n ≤ k * p → rounded_up n p ≤ k
  unfolding rounded_up
  lines_least k h = omega (arith, (div-lt_iff_lt-mul {x = n + (p - 1)} {y = suc k} some).1 (omega (arith, suc-mul k p)))

  lines_needed : (k : ℕ) → rounded_up n p ≡ k → 0 < k → (k - 1) * p < n
  lines_needed k e h =
      ⊎_elim
      (λ (l : n ≤ (k - 1) * p). absurd (omega (arith, lines_least (k - 1) l)))
      (λ l. l)
      (le_or_lt n ((k - 1) * p))

  lines_exact : (k : ℕ) → Takes n p k → rounded_up n p ≡ k
  lines_exact zero d = omega (arith, lines_least 0 d.enough)
  lines_exact (suc k) d =
      ⊎_elim
      (λ (l : rounded_up n p ≤ k). absurd (omega (arith, mul-le-mul_right p l, lines_enough, d.needed (omega arith), before_last k)))
      (λ l. omega (arith, lines_least (suc k) d.enough))
      (le_or_lt (rounded_up n p) k)
    where
      before_last : (k : ℕ) → (suc k - 1) * p ≡ k * p
      before_last k = ap (λ j. j * p) (omega arith)

  pub lines_are : (k : ℕ) → rounded_up n p ≡ k ↔ Takes n p k
  lines_are k = (λ e. record { enough = rw (← e) lines_enough; needed = lines_needed k e }, lines_exact k)

  module _ (more : 0 < n) where
    pub quotient : rounded_up n p ≡ (n - 1) / p + 1
    quotient = lines_exact ((n - 1) / p + 1) record {
      enough = omega (arith, lt-div-mul-add {a = n - 1} some, add-mul ((n - 1) / p) 1 p, one-mul p);
      needed = λ h. before_one (omega (arith, div-mul-le_self (n - 1) p));
    }
      where
        before_one : (n - 1) / p * p < n → ((n - 1) / p + 1 - 1) * p < n
        before_one h = let e : (n - 1) / p + 1 - 1 ≡ (n - 1) / p = omega arith in rw e h

  -- as std rounds up
  pub by_div_ceil : div_ceil n p ≡ rounded_up n p
  by_div_ceil = sym (lines_exact (div_ceil n p) record {
    enough = (div_ceil_times n p some).0;
    needed = λ h. one_fewer (div_ceil n p) h (div_ceil_times n p some).1;
  })
    where
      one_fewer : (k : ℕ) → 0 < k → k * p < n + p → (k - 1) * p < n
      one_fewer (suc k) h l = let e : suc k - 1 ≡ k = omega arith in rw e (omega (arith, suc-mul k p))
      one_fewer zero h l = absurd (omega arith)
