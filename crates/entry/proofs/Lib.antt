-- The laws of a field of the edit journal: numbers as bytes (Numbers), cells in two's complement (Signed), what is written reads as it was
-- and what is read is written as it stood (Codec), a field stays within the text (Reading).
pub mod Numbers
pub mod Signed
pub mod Codec
pub mod Reading
