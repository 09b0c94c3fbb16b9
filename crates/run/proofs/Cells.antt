-- R71, R73, R77: the cells of I, F and E fields that are formed are the sums of their columns. Over every width.
-- Assumes nothing.
use mathlib.Core.Path.{◌≡◌, refl, sym, ap, ap₂, ◌∙◌}
use mathlib.Core.Bool.{Bool, true, false}
use mathlib.Core.List.{List, [], ◌∷◌, ◌++◌, map, append_assoc}
use Prim.Native.Nat.{ℕ, zero, suc, ◌+◌, ◌*◌, ◌-◌, ◌%◌, ◌<◌}
use native.Mathlib.Nat.{add_comm, add-mul-mod_self_right, mod-eq_of_lt}
use native.Mathlib.Omega.{arith}
use borrow.Author.Tests.{ne_eqb}
use lib.Dec.{eqb}
use lib.IntN.{ℤ}
use lib.ListN.{length, get_or, take, replicate, length-append, length-map}
use lib.Seq.{take_at, take_all, drop_at, get_or-append_seam}
use Rattle.base.specs.Every.{has}
use Rattle.base.specs.Part.{part}
use Rattle.base.specs.Sign.{of_sign}
use Rattle.base.specs.Digits.{AllDigits, number_from, number_of, digit_text}
use Rattle.base.proofs.Digits.{number_append}
use Rattle.base.proofs.Part.{part_middle}
use Rattle.base.proofs.Taken.{part_zero}
use Rattle.number.specs.Grammar.{IsI, IsF, IsE, Lead, minus_of, lead_text, lead_minus, sign_byte}
use Rattle.number.specs.Grammar.Lead.{nought, minus_nought, bare, minus}
use Rattle.run.specs.Columns.{number_in, figures_in, columns_in, whole_cell, fixed_by, fixed_cell, power_first, power_second}

-- ---- the number and the sign of columns

-- columns that are digits are worth these, by whatever counts a digit for itself
text_values : (worth : ℕ → ℕ) → ((d : ℕ) → d < 10 → worth (48 + d) ≡ d) → (ds : List ℕ) → AllDigits ds → map worth (digit_text ds) ≡ ds
text_values worth w [] each = refl
text_values worth w (d ∷ ds) each = ap₂ ◌∷◌ (w d each.0) (text_values worth w ds each.1)

text_number_lem : (ds : List ℕ) → AllDigits ds → number_in (digit_text ds) ≡ number_of ds
text_number_lem ds each = ap number_of (text_values (λ b. b - 48) (λ d h. omega arith) ds each)

pub by_sixteen : (d : ℕ) → d < 10 → (48 + d) % 16 ≡ d
by_sixteen d h = ap (λ n. n % 16) (add_comm 48 d) ∙ add-mul-mod_self_right d 3 16 ∙ mod-eq_of_lt (omega arith)

text_digits : (ds : List ℕ) → AllDigits ds → figures_in (digit_text ds) ≡ number_of ds
text_digits ds each = ap number_of (text_values (λ b. b % 16) by_sixteen ds each)

-- none of them is a minus
text_minus : (ds : List ℕ) → has (digit_text ds) 45 ≡ false
text_minus [] = refl
text_minus (d ∷ ds) = rw (ne_eqb (48 + d) 45 (λ e. omega arith)) (text_minus ds)

-- blanks are worth nothing, and nor is a minus
blanks_worth : (worth : ℕ → ℕ) → worth 32 ≡ 0 → (k : ℕ) (t : List ℕ) → number_of (map worth (replicate k 32 ++ t)) ≡ number_of (map worth t)
blanks_worth worth w zero t = refl
blanks_worth worth w (suc k) t = ap (λ n. number_from (0 * 10 + n) (map worth (replicate k 32 ++ t))) w ∙ blanks_worth worth w k t

blanks_minus : (k : ℕ) (t : List ℕ) → has (replicate k 32 ++ t) 45 ≡ has t 45
blanks_minus zero t = refl
blanks_minus (suc k) t = blanks_minus k t

minus_minus : (g : Bool) (ds : List ℕ) → has (minus_of g ++ digit_text ds) 45 ≡ g
minus_minus true ds = refl
minus_minus false ds = text_minus ds

-- columns as the grammar has them
columns_number : (k : ℕ) (g : Bool) (ds : List ℕ) → AllDigits ds → columns_in g (replicate k 32 ++ (minus_of g ++ digit_text ds)) ≡ number_of ds
columns_number k true ds each = blanks_worth (λ b. b - 48) refl k (45 ∷ digit_text ds) ∙ text_number_lem ds each
columns_number k false ds each = blanks_worth (λ b. b % 16) refl k (digit_text ds) ∙ text_digits ds each

columns_minus : (k : ℕ) (g : Bool) (ds : List ℕ) → has (replicate k 32 ++ (minus_of g ++ digit_text ds)) 45 ≡ g
columns_minus k g ds = blanks_minus k (minus_of g ++ digit_text ds) ∙ minus_minus g ds

-- ---- I

pub whole_is : (s : List ℕ) (z : ℤ) → IsI s z → z ≡ whole_cell s
whole_is s z i =
    let g = columns_minus i.blanks i.minus i.digits in
    i.value ∙ sym (ap whole_cell i.text ∙ rw g (ap (of_sign i.minus) (columns_number i.blanks i.minus i.digits i.each)))

-- ---- parts of a text that is written in pieces

begin_part : (a b : List ℕ) (n : ℕ) → length a ≡ n → part 0 n (a ++ b) ≡ a
begin_part a b n e = part_zero n (a ++ b) ∙ take_at a b n e

middle_part : (a b c : List ℕ) (n m : ℕ) → length a ≡ n → n + length b ≡ m → part n m (a ++ (b ++ c)) ≡ b
middle_part a b c n m e f = ap₂ (λ i j. part i j (a ++ (b ++ c))) (sym e) (sym f ∙ ap (λ i. i + length b) (sym e)) ∙ part_middle a b c

end_part : (a b : List ℕ) (n : ℕ) → length a ≡ n → part n (length (a ++ b)) (a ++ b) ≡ b
end_part a b n e =
    let l = length-append a b in
    ap (take (length (a ++ b) - n)) (drop_at a b n e) ∙ take_all (length (a ++ b) - n) b (omega arith)

-- ---- F

thousands : (m : ℕ) (ds : List ℕ) → length ds ≡ 3 → number_from m ds ≡ m * 1000 + number_of ds
thousands m [] e = absurd (omega arith)
thousands m (a ∷ []) e = absurd (omega arith)
thousands m (a ∷ b ∷ []) e = absurd (omega arith)
thousands m (a ∷ b ∷ c ∷ []) e = omega arith
thousands m (a ∷ b ∷ c ∷ d ∷ ds) e = absurd (omega arith)

fixed_parts : (h t : List ℕ) → length t ≡ 3 → fixed_cell (h ++ (46 ∷ t)) ≡ fixed_by h t
fixed_parts h t e =
    let s = h ++ (46 ∷ t) in
    let l = length-append h (46 ∷ t) in
    let a : s ≡ (h ++ (46 ∷ [])) ++ t = sym (append_assoc h (46 ∷ []) t) in
    let n : length (h ++ (46 ∷ [])) ≡ length s - 3 = length-append h (46 ∷ []) ∙ omega arith in
    ap₂ fixed_by
    (begin_part h (46 ∷ t) (length s - 4) (omega arith))
    (ap (λ u. part (length s - 3) (length u) u) a ∙ end_part (h ++ (46 ∷ [])) t (length s - 3) n)

pub fixed_is : (s : List ℕ) (z : ℤ) → IsF s z → z ≡ fixed_cell s
fixed_is s z i =
    let us = digit_text i.units in
    let ts = digit_text i.thousandths in
    let head = replicate i.blanks 32 ++ (minus_of i.minus ++ us) in
    let a : s ≡ head ++ (46 ∷ ts) =
    i.text ∙ sym (append_assoc (replicate i.blanks 32) (minus_of i.minus ++ us) (46 ∷ ts) ∙ ap (λ l. replicate i.blanks 32 ++ l) (append_assoc (minus_of i.minus) us (46 ∷ ts))) in
    let n : length ts ≡ 3 = length-map i.thousandths (λ d. 48 + d) ∙ i.three in
    i.value
    ∙ ap (of_sign i.minus) (number_append 0 i.units i.thousandths ∙ thousands (number_of i.units) i.thousandths i.three)
    ∙ sym
    (ap fixed_cell a ∙ fixed_parts head ts n
    ∙ ap (λ g. of_sign g (columns_in g head * 1000 + figures_in ts)) (columns_minus i.blanks i.minus i.units)
    ∙ ap (of_sign i.minus) (ap₂ (λ m n. m * 1000 + n) (columns_number i.blanks i.minus i.units i.each) (text_digits i.thousandths i.every)))

-- ---- E

lead_minus_lem : (k : ℕ) (l : Lead) → has (replicate k 32 ++ lead_text l) 45 ≡ lead_minus l
lead_minus_lem k nought = blanks_minus k (lead_text nought)
lead_minus_lem k minus_nought = blanks_minus k (lead_text minus_nought)
lead_minus_lem k bare = blanks_minus k (lead_text bare)
lead_minus_lem k minus = blanks_minus k (lead_text minus)

sign_minus : (g : Bool) → eqb (sign_byte g) 45 ≡ g
sign_minus true = refl
sign_minus false = refl

module _ (c d : ℕ) (head ds xs : List ℕ) (g : ℕ) (l : length head ≡ c) (n : length ds ≡ d) where
  abbrev text : List ℕ
  text = head ++ (46 ∷ (ds ++ (69 ∷ g ∷ xs)))

  first_parts : power_first c d text ≡ of_sign (has head 45) (figures_in ds)
  first_parts =
      ap₂ (λ x y. of_sign (has x 45) (figures_in y))
      (begin_part head (46 ∷ (ds ++ (69 ∷ g ∷ xs))) c l)
      (ap (part (c + 1) (c + 1 + d)) (sym (append_assoc head (46 ∷ []) (ds ++ (69 ∷ g ∷ xs))))
      ∙ middle_part (head ++ (46 ∷ [])) ds (69 ∷ g ∷ xs) (c + 1) (c + 1 + d) (length-append head (46 ∷ []) ∙ omega arith) (omega arith))

  -- what stands before the sign
  abbrev before_sign : List ℕ
  before_sign = head ++ (46 ∷ (ds ++ (69 ∷ [])))

  before_length : length before_sign ≡ c + 2 + d
  before_length = length-append head (46 ∷ (ds ++ (69 ∷ []))) ∙ omega (arith, length-append ds (69 ∷ []))

  text_sign : text ≡ before_sign ++ (g ∷ xs)
  text_sign = sym (append_assoc head (46 ∷ (ds ++ (69 ∷ []))) (g ∷ xs) ∙ ap (λ r. head ++ (46 ∷ r)) (append_assoc ds (69 ∷ []) (g ∷ xs)))

  second_parts : power_second c d text ≡ of_sign (eqb g 45) (figures_in xs)
  second_parts =
      ap (power_second c d) text_sign
      ∙ ap₂ (λ x y. of_sign (eqb x 45) (figures_in y))
      (ap (λ i. get_or (before_sign ++ (g ∷ xs)) i 0) (sym before_length) ∙ get_or-append_seam before_sign g xs 0)
      (ap (λ u. part (c + 3 + d) (length u) u) (sym (append_assoc before_sign (g ∷ []) xs))
      ∙ end_part (before_sign ++ (g ∷ [])) xs (c + 3 + d) (length-append before_sign (g ∷ []) ∙ omega (arith, before_length)))

pub power_is : (c d x : ℕ) (s : List ℕ) (m e : ℤ) → IsE c d x s m e → (m ≡ power_first c d s) × (e ≡ power_second c d s)
power_is c d x s m e i =
    let r = i.rest in
    let head = replicate i.blanks 32 ++ lead_text i.lead in
    let ds = digit_text r.digits in
    let xs = digit_text r.exponent in
    let g = sign_byte r.down in
    let n : length ds ≡ d = length-map r.digits (λ d. 48 + d) ∙ r.many in (
      r.first
          ∙ sym (ap (power_first c d) r.text ∙ first_parts c d head ds xs g i.columns n ∙ ap₂ of_sign (lead_minus_lem i.blanks i.lead) (text_digits r.digits r.each)),
      r.second
          ∙ sym (ap (power_second c d) r.text ∙ second_parts c d head ds xs g i.columns n ∙ ap₂ of_sign (sign_minus r.down) (text_digits r.exponent r.every)),
    )
