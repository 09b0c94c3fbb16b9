-- R70 to R77: which bytes are an I, F or E field, and which numbers they show, over every width (R426).
use Rattle.std.specs.Prelude.{◌≡◌, Bool, true, false, List, [], ◌∷◌, ◌++◌, ◌⊎◌, ℕ, ◌<◌, ℤ, length, replicate}
use Prim.Native.String.{String}
use Rattle.base.specs.Quoted.{bytes}
use Rattle.base.specs.Sign.{of_sign}
use Rattle.base.specs.Digits.{AllDigits, number_of, digit_text}

-- a minus, or none
abbrev pub minus_of : Bool → List ℕ
minus_of true = 45 ∷ []
minus_of false = []

-- R70: blanks, perhaps a minus, and digits to the end of the field, one at least; R71: the number that they make
pub record IsI (s : List ℕ) (z : ℤ) : Type 0 where
  pub blanks : ℕ
  pub minus : Bool
  pub digits : List ℕ
  pub each : AllDigits digits
  pub some : 0 < length digits
  pub text : s ≡ replicate blanks 32 ++ (minus_of minus ++ digit_text digits)
  pub value : z ≡ of_sign minus (number_of digits)

-- R72: blanks, perhaps a minus, digits or none, the point, and three digits to the end; R73: all these digits as one number of thousandths
pub record IsF (s : List ℕ) (z : ℤ) : Type 0 where
  pub blanks : ℕ
  pub minus : Bool
  pub units : List ℕ
  pub thousandths : List ℕ
  pub each : AllDigits units
  pub every : AllDigits thousandths
  pub three : length thousandths ≡ 3
  pub text : s ≡ replicate blanks 32 ++ (minus_of minus ++ (digit_text units ++ (46 ∷ digit_text thousandths)))
  pub value : z ≡ of_sign minus (number_of (units ++ thousandths))

-- What the columns before E's point end in, behind blanks: `0`, minus and `0`, a blank, or a minus. In one column these are the three texts
-- of R75, in three columns the four of R76 (proofs/Leads.antt).
pub data Lead : Type 0 where
  nought minus_nought bare minus : Lead

abbrev pub lead_text : Lead → List ℕ
lead_text nought = 48 ∷ []
lead_text minus_nought = 45 ∷ 48 ∷ []
lead_text bare = 32 ∷ []
lead_text minus = 45 ∷ []

abbrev pub lead_minus : Lead → Bool
lead_minus nought = false
lead_minus minus_nought = true
lead_minus bare = false
lead_minus minus = true

-- a text before the point, with its sign
pub record Shape : Type 0 where
  pub minus : Bool
  pub text : String

-- R75: the one column before the point of E11.6E1 and E8.3E1
abbrev pub one_column : List Shape
one_column = record { minus = false; text = "0" } ∷ record { minus = false; text = " " } ∷ record { minus = true; text = "-" } ∷ []

-- R76: the three columns before the point of E20.12E2
abbrev pub three_columns : List Shape
three_columns =
    record { minus = false; text = "  0" }
    ∷ record { minus = true; text = " -0" }
    ∷ record { minus = false; text = "   " }
    ∷ record { minus = true; text = "  -" }
    ∷ []

-- the text is one of these, with that sign
abbrev pub AnyOf : List Shape → Bool → List ℕ → Type 0
AnyOf [] g t = ⊥
AnyOf (s ∷ ss) g t = ((g ≡ s.minus) × (t ≡ bytes s.text)) ⊎ AnyOf ss g t

-- R74: an exponent's sign is always there
abbrev pub sign_byte : Bool → ℕ
sign_byte true = 45
sign_byte false = 43

-- R74: what stands before the point (`head`, with its sign), the point, d digits, `E`, a sign, and an exponent of x digits; R77: the cells, as
-- they stand
pub record EText (d x : ℕ) (minus : Bool) (head s : List ℕ) (m e : ℤ) : Type 0 where
  pub digits : List ℕ
  pub each : AllDigits digits
  pub many : length digits ≡ d
  pub down : Bool
  pub exponent : List ℕ
  pub every : AllDigits exponent
  pub places : length exponent ≡ x
  pub text : s ≡ head ++ (46 ∷ (digit_text digits ++ (69 ∷ sign_byte down ∷ digit_text exponent)))
  pub first : m ≡ of_sign minus (number_of digits)
  pub second : e ≡ of_sign down (number_of exponent)

-- R74 over every number of columns before the point: blanks, and one of the four endings
pub record IsE (c d x : ℕ) (s : List ℕ) (m e : ℤ) : Type 0 where
  pub blanks : ℕ
  pub lead : Lead
  pub columns : length (replicate blanks 32 ++ lead_text lead) ≡ c
  pub rest : EText d x (lead_minus lead) (replicate blanks 32 ++ lead_text lead) s m e

-- R74 with the texts before the point listed: E11.6E1 and E8.3E1 by `one_column`, E20.12E2 by `three_columns` (`e_one`, `e_three` in
-- proofs/Leads.antt)
pub record IsEBy (shapes : List Shape) (d x : ℕ) (s : List ℕ) (m e : ℤ) : Type 0 where
  pub minus : Bool
  pub head : List ℕ
  pub shape : AnyOf shapes minus head
  pub rest : EText d x minus head s m e
