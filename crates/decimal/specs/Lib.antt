-- R344: numbers as decimal text, and rows of them.
-- Numerals has the text of a number, Signed that of a signed one, Rows a row of numbers. Writing says what writing a text into lent
-- bytes answers and leaves.
pub mod Numerals
pub mod Rows
pub mod Signed
pub mod Writing
