-- Columns as they are tested and summed, each by itself and beside the next one: no state goes from column to column. What passes is what
-- `number` reads (proofs/ByColumns.antt), and of what passes the sums are its cells (proofs/Cells.antt), over every width.
use Rattle.std.specs.Prelude.{Bool, true, cond, ◌&&◌, ◌||◌, ℕ, suc, ◌+◌, ◌*◌, ◌-◌, ◌%◌, leb, eqb, ℤ, length, get_or}
use mathlib.Core.List.{List, [], ◌∷◌, map, flat_map}
use Rattle.base.specs.Every.{every, has, up_from}
use Rattle.base.specs.Part.{part}
use Rattle.base.specs.Sign.{of_sign}
use Rattle.base.specs.Digits.{number_of}

-- ---- testing

abbrev pub between : ℕ → ℕ → ℕ → Bool
between first last b = leb first b && leb b last

-- `0` to `9`
abbrev pub is_figure : ℕ → Bool
is_figure = between 48 57

-- x may stand before y: a blank before anything that is right by itself, a minus or a digit before a digit
abbrev pub goes_on : ℕ → ℕ → Bool
goes_on x y = eqb x 32 || (is_figure y && (eqb x 45 || is_figure x))

-- each column goes on to the next
unfoldable pub pairs : List ℕ → Bool
pairs [] = true
pairs (x ∷ []) = true
pairs (x ∷ y ∷ s) = goes_on x y && pairs (y ∷ s)

abbrev pub last_column : List ℕ → ℕ
last_column s = get_or s (length s - 1) 0

-- R72: a blank, a minus or a digit may stand before F's point
abbrev pub is_column : ℕ → Bool
is_column b = eqb b 32 || (eqb b 45 || is_figure b)

-- R75, R76: the last column before E's point
abbrev pub is_lead : ℕ → Bool
is_lead b = eqb b 48 || (eqb b 32 || eqb b 45)

-- R74: the exponent's sign
abbrev pub is_sign : ℕ → Bool
is_sign b = eqb b 43 || eqb b 45

-- R70
abbrev pub is_whole_field : List ℕ → Bool
is_whole_field s = pairs s && is_figure (last_column s)

-- R72: what stands before the point, the point, three digits
abbrev pub is_head : List ℕ → Bool
is_head s = pairs s && is_column (last_column s)

abbrev pub is_fixed : List ℕ → Bool
is_fixed s = eqb (get_or s (length s - 4) 0) 46 && (is_head (part 0 (length s - 4) s) && every is_figure (part (length s - 3) (length s) s))

-- R75, R76: what stands before the point: no digit but the last column, which is one of three
abbrev pub is_leading : List ℕ → Bool
is_leading s = pairs s && (is_lead (last_column s) && every (between 32 45) (part 0 (length s - 1) s))

-- R74: c columns, a point, d digits, `E`, a sign, x digits
abbrev pub is_power : ℕ → ℕ → List ℕ → Bool
is_power c d s =
    eqb (get_or s c 0) 46
    && (eqb (get_or s (c + 1 + d) 0) 69
    && (is_sign (get_or s (c + 2 + d) 0)
    && (is_leading (part 0 c s) && (every is_figure (part (c + 1) (c + 1 + d) s) && every is_figure (part (c + 3 + d) (length s) s)))))

-- ---- filling: the sums as they are made

-- R71: the number that columns make, in which a blank and a minus count nothing (their codes are below that of `0`)
abbrev pub number_in : List ℕ → ℕ
number_in s = number_of (map (λ b. b - 48) s)

-- the same of columns without a minus: what a blank's code and a digit's leave by 16 is what they count
abbrev pub figures_in : List ℕ → ℕ
figures_in s = number_of (map (λ b. b % 16) s)

-- columns of a number, told whether a minus is among them
abbrev pub columns_in : Bool → List ℕ → ℕ
columns_in minus s = cond minus (number_in s) (figures_in s)

abbrev pub whole_cell : List ℕ → ℤ
whole_cell s = of_sign (has s 45) (columns_in (has s 45) s)

-- R73: thousandths
abbrev pub fixed_by : List ℕ → List ℕ → ℤ
fixed_by head tail = of_sign (has head 45) (columns_in (has head 45) head * 1000 + figures_in tail)

abbrev pub fixed_cell : List ℕ → ℤ
fixed_cell s = fixed_by (part 0 (length s - 4) s) (part (length s - 3) (length s) s)

-- R77: the digits and the exponent, each with its sign
abbrev pub power_first : ℕ → ℕ → List ℕ → ℤ
power_first c d s = of_sign (has (part 0 c s) 45) (figures_in (part (c + 1) (c + 1 + d) s))

abbrev pub power_second : ℕ → ℕ → List ℕ → ℤ
power_second c d s = of_sign (eqb (get_or s (c + 2 + d) 0) 45) (figures_in (part (c + 3 + d) (length s) s))

-- ---- pieces of w columns each, one behind the other

abbrev pub columns_at : ℕ → List ℕ → ℕ → List ℕ
columns_at w s i = part (i * w) (suc i * w) s

-- a test at each of k pieces
unfoldable pub each_piece : (List ℕ → Bool) → (w k : ℕ) → List ℕ → Bool
each_piece test w k s = every (λ i. test (columns_at w s i)) (up_from 0 k)

-- what each of k pieces gives, one behind the other
unfoldable pub all_pieces : (List ℕ → List ℤ) → (w k : ℕ) → List ℕ → List ℤ
all_pieces give w k s = flat_map (λ i. give (columns_at w s i)) (up_from 0 k)
