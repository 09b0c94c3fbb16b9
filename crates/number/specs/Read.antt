-- R70 to R77 as they are computed: what an I, F or E field reads as. The plain statements are Grammar's, and these are equal to them:
-- `read_i s ≡ One z` exactly if `IsI s z` (`i_read`, `read_i_lem` in proofs/Grammar.antt), `read_f` and `IsF` (`f_read`, `read_f_lem` in
-- proofs/GrammarF.antt), `read_e` and `IsE` with one column before the point at least (`e_read`, `read_e_lem` in proofs/GrammarE.antt).
use Rattle.std.specs.Prelude.{true, false, cond, List, ℕ, ◌+◌, ◌-◌, leb, eqb, length, get_or}
use Rattle.base.specs.Part.{part}
use Rattle.base.specs.Sign.{of_sign}
use Rattle.number.specs.declared.Scan.{Scan}
use Rattle.number.specs.declared.Scan.TheVariants.{Blanks, Signed, Digits, Broken}
use Rattle.number.specs.declared.Number.{Number}
use Rattle.number.specs.declared.Number.TheVariants.{One, Two, Misformed}
use Rattle.number.specs.Scan.{scan_of}

-- digits are a number; blanks or a minus alone are none
abbrev pub one_of : Scan → Number
one_of Blanks = Misformed
one_of Signed = Misformed
one_of (Digits g n) = One (of_sign g n)
one_of Broken = Misformed

abbrev pub read_i : List ℕ → Number
read_i s = one_of (scan_of Blanks s)

-- behind a point digits have to follow: where none stood before it, the number is 0 so far
abbrev pub point_of : Scan → Scan
point_of Blanks = Digits false 0
point_of Signed = Digits true 0
point_of (Digits g n) = Digits g n
point_of Broken = Broken

-- what stands before F's point, and the three columns behind it
abbrev pub parts_f : List ℕ → List ℕ → Number
parts_f head tail = one_of (scan_of (point_of (scan_of Blanks head)) tail)

abbrev pub read_f : List ℕ → Number
read_f s =
    cond (leb 4 (length s))
    (cond (eqb (get_or s (length s - 4) 0) 46) (parts_f (part 0 (length s - 4) s) (part (length s - 3) (length s) s)) Misformed)
    Misformed

-- the last column before E's point, behind what was read of the others: `0`, blank or minus, and after a minus `0` alone
abbrev pub lead_of : Scan → ℕ → Scan
lead_of Blanks b = cond (eqb b 48) (Digits false 0) (cond (eqb b 32) (Digits false 0) (cond (eqb b 45) (Digits true 0) Broken))
lead_of Signed b = cond (eqb b 48) (Digits true 0) Broken
lead_of (Digits g n) b = Broken
lead_of Broken b = Broken

-- the exponent's sign, plus or minus
abbrev pub sign_of : ℕ → Scan
sign_of b = cond (eqb b 43) (Digits false 0) (cond (eqb b 45) (Digits true 0) Broken)

abbrev pub pair_of : Number → Number → Number
pair_of (One a) (One b) = Two a b
pair_of (One a) (Two b c) = Misformed
pair_of (One a) Misformed = Misformed
pair_of (Two a b) y = Misformed
pair_of Misformed y = Misformed

-- c columns, a point, d digits, `E`, a sign, x digits
abbrev pub read_e : ℕ → ℕ → ℕ → List ℕ → Number
read_e c d x s =
    cond (eqb (length s) (c + d + x + 3))
    (cond (eqb (get_or s c 0) 46)
    (cond (eqb (get_or s (c + 1 + d) 0) 69)
    (pair_of
    (one_of (scan_of (lead_of (scan_of Blanks (part 0 (c - 1) s)) (get_or s (c - 1) 0)) (part (c + 1) (c + 1 + d) s)))
    (one_of (scan_of (sign_of (get_or s (c + 2 + d) 0)) (part (c + 3 + d) (length s) s))))
    Misformed)
    Misformed)
    Misformed
