-- A run of fields of one form, one behind the other. Run is what the contracts of the public functions cite; Columns has the tests and sums
-- by which fields are read fast, which are equal to it (proofs/ByForm.antt).
pub mod Run
pub mod Columns
