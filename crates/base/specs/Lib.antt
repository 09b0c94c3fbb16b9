-- Definitions that say nothing of ionograms: parts of a list and lists with places overwritten (Part), a test at each element of a
-- list (Every), texts read piece by piece (Pieces), sums (Sum), lists that agree outside some places (Agree), sign and size of a number
-- (Sign), columns from the last to the first (Columns), decimal digits (Digits), bytes that print (Ascii), the bytes of a quoted text
-- (Quoted).
pub mod Agree
pub mod Ascii
pub mod Columns
pub mod Digits
pub mod Every
pub mod Part
pub mod Pieces
pub mod Quoted
pub mod Sign
pub mod Sum
