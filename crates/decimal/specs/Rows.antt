-- R344, a row of numbers: a single space (32) parts one from the next, and a line feed (10) ends the row.
use Rattle.std.specs.Prelude.{◌≡◌, List, [], ◌∷◌, ◌++◌, ℕ, zero, suc, ◌+◌, ◌<◌, length, get_or}
use Rattle.decimal.specs.Numerals.{numeral}

unfoldable pub row_text : List ℕ → List ℕ
row_text [] = 10 ∷ []
row_text (n ∷ []) = numeral n ++ (10 ∷ [])
row_text (n ∷ m ∷ ns) = numeral n ++ (32 ∷ row_text (m ∷ ns))

-- the byte behind a number that k more follow
abbrev pub end_byte : ℕ → ℕ
end_byte zero = 10
end_byte (suc k) = 32

-- a byte for each digit of a number, and one behind each number
unfoldable pub row_size : List ℕ → ℕ
row_size [] = 0
row_size (n ∷ ns) = length (numeral n) + 1 + row_size ns

-- no line feed stands in a
abbrev pub NoFeed : List ℕ → Type 0
NoFeed a = (i : ℕ) → i < length a → get_or a i 0 ≡ 10 → ⊥

-- the text is one line: its last byte is a line feed, and no other is
pub record OneLine (s : List ℕ) : Type 0 where
  pub body : List ℕ
  pub text : s ≡ body ++ (10 ∷ [])
  pub no_feed : NoFeed body
