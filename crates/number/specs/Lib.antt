-- What a number in columns reads as (R70 to R86) and how it is written (R103 to R108): I, F and E fields of any width (R426).
-- The rules as plain statements on bytes are Grammar and Canonical; Scan, Read and Write say the same by a state that goes from column to
-- column: contracts of writing cite Write, and what a field of a form reads as (`field`) is said by Read.
pub mod Grammar
pub mod Canonical
pub mod Scan
pub mod Read
pub mod Write
