-- What a byte is in a number's columns (a plus is no part of them, R81), and how columns are read: blanks, a minus or none, digits.
-- The plain statement is in Grammar: blanks, `minus_of` and `digit_text` in a row. They end in the state `Digits`, with their sign and number
-- (`columns_read`), and what ends there is such a row (`held`), both in proofs/Grammar.antt.
use Rattle.std.specs.Prelude.{true, false, cond, List, [], ◌∷◌, ℕ, ◌+◌, ◌*◌, ◌-◌, ◌<◌, ltb, eqb}
use Rattle.number.specs.declared.Byte.{Byte}
use Rattle.number.specs.declared.Byte.TheVariants.{Blank, Minus, Digit, Other}
use Rattle.number.specs.declared.Scan.{Scan}
use Rattle.number.specs.declared.Scan.TheVariants.{Blanks, Signed, Digits, Broken}

-- 32 is a blank, 45 a minus, 48 to 57 the digits
abbrev pub class_of : ℕ → Byte
class_of b =
    cond (eqb b 32) Blank
    (cond (eqb b 45) Minus
    (cond (ltb b 48) Other
    (cond (ltb 57 b) Other
    (Digit (b - 48)))))

-- one byte more
abbrev pub step_of : Byte → Scan → Scan
step_of Blank Blanks = Blanks
step_of Blank Signed = Broken
step_of Blank (Digits g n) = Broken
step_of Blank Broken = Broken
step_of Minus Blanks = Signed
step_of Minus Signed = Broken
step_of Minus (Digits g n) = Broken
step_of Minus Broken = Broken
step_of (Digit d) Blanks = Digits false d
step_of (Digit d) Signed = Digits true d
step_of (Digit d) (Digits g n) = Digits g (n * 10 + d)
step_of (Digit d) Broken = Broken
step_of Other st = Broken

-- all bytes of a part, from a state on
abbrev pub scan_of : Scan → List ℕ → Scan
scan_of st [] = st
scan_of st (b ∷ bs) = scan_of (step_of (class_of b) st) bs

-- a digit is below 10
abbrev pub SmallDigit : Byte → Type 0
SmallDigit Blank = Unit {0}
SmallDigit Minus = Unit {0}
SmallDigit (Digit d) = d < 10
SmallDigit Other = Unit {0}
