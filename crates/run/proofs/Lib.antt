-- What the proofs of `run` share: loops over bytes (Loops) and over pieces (Pieces); tests by columns (Testing, Leading, ByColumns) and sums of
-- columns (Cells), over every width; the ten forms (ByForm).
pub mod Loops
pub mod Pieces
pub mod Testing
pub mod Leading
pub mod ByColumns
pub mod Cells
pub mod ByForm
