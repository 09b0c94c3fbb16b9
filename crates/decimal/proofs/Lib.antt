-- The laws of decimal text: numerals (Numerals), how long they are (Lengths), signed ones (Signed), rows (Rows), that a row is one line and
-- reads back (RowBack), and what putting a text answers and leaves (Writing). Cases has some texts by computation.
pub mod Cases
pub mod Lengths
pub mod Numerals
pub mod RowBack
pub mod Rows
pub mod Signed
pub mod Writing
