-- One field of each of the ten forms (R70 to R86), its canonical text (R103 to R109), and an index entry (R23): nothing of groups, lines
-- or records. Kind has the ranges, Grammar and Canonical the rules as statements; Read and Write are what the contracts cite, Law is what
-- callers cite.
pub mod Kind
pub mod Grammar
pub mod Canonical
pub mod Read
pub mod Write
pub mod Entry
pub mod Law
