-- R341 to R344, the listing: a record's row and the end row (Rows), the listing of a text as bytes, and what the program prints for its input
-- (Listing), its rows (Numbered).
pub mod Rows
pub mod Listing
pub mod Numbered
