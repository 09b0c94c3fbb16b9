-- What the proofs of `field` share, and the theorems on fields of the ten forms.
pub mod Forms
pub mod Fitting
pub mod Letters
pub mod Laws
pub mod Entries
pub mod Columns
pub mod Ranges
