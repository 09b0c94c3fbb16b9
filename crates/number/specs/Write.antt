-- R103 to R108 as they are computed: the text of a number, from the last column to the first. Each step undoes one of reading.
-- The plain statements are Canonical's, and these are equal to them: a canonical text is the one given here (`i_unique`, `f_unique`,
-- `e_unique` in proofs/Unique.antt), and for the numbers that a field can hold, one of F in six columns at least, this text is canonical
-- (`i_canonical`, `f_canonical`, `e_canonical` in proofs/Fits.antt).
use Rattle.std.specs.Prelude.{Bool, true, false, cond, List, ◌∷◌, ◌++◌, ℕ, ◌+◌, ◌-◌, ◌/◌, ◌%◌, leb, eqb, ℤ}
use Rattle.base.specs.Columns.{columns, backs}
use Rattle.base.specs.Sign.{negative, size_of}
use Rattle.number.specs.declared.Scan.{Scan}
use Rattle.number.specs.declared.Scan.TheVariants.{Blanks, Signed, Digits, Broken}
use Rattle.number.specs.Grammar.{sign_byte}

-- the byte in the last column of what a state holds
abbrev pub last_of : Scan → ℕ
last_of Blanks = 32
last_of Signed = 45
last_of (Digits g n) = 48 + n % 10
last_of Broken = 32

-- what stands before a number's first digit
abbrev pub begun : Bool → Scan
begun true = Signed
begun false = Blanks

-- what the columns before the last hold: the other digits, or where there are none the minus, or blanks. Filled columns hold digits only
abbrev pub back_of : Bool → Scan → Scan
back_of filled Blanks = Blanks
back_of filled Signed = Blanks
back_of true (Digits g n) = Digits g (n / 10)
back_of false (Digits g n) = cond (leb 10 n) (Digits g (n / 10)) (begun g)
back_of filled Broken = Broken

-- w columns with it
abbrev pub text_of : Bool → ℕ → Scan → List ℕ
text_of filled = columns last_of (back_of filled)

-- what stands before those
abbrev pub rest_of : Bool → ℕ → Scan → Scan
rest_of filled = backs (back_of filled)

abbrev pub state_of : ℤ → Scan
state_of z = Digits (negative z) (size_of z)

abbrev pub text_i : ℕ → ℤ → List ℕ
text_i w z = text_of false w (state_of z)

-- thousandths: the thousands before the point, the last three digits behind it
abbrev pub text_f : ℕ → ℤ → List ℕ
text_f w z = text_of false (w - 4) (Digits (negative z) (size_of z / 1000)) ++ (46 ∷ text_of true 3 (state_of z))

-- what stands before E's point in c columns: a minus alone where there is one column only, else `0` with its sign
abbrev pub lead_state : ℕ → Bool → Scan
lead_state c false = Digits false 0
lead_state c true = cond (eqb c 1) Signed (Digits true 0)

-- `E`, plus or minus, x digits
abbrev pub exponent_text : ℕ → ℤ → List ℕ
exponent_text x e = 69 ∷ sign_byte (negative e) ∷ text_of true x (state_of e)

abbrev pub text_e : ℕ → ℕ → ℕ → ℤ → ℤ → List ℕ
text_e c d x m e =
    text_of false c (lead_state c (negative m)) ++ (46 ∷ (text_of true d (state_of m) ++ exponent_text x e))
