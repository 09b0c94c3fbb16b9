-- The laws that the proofs of `number` share, and the theorems on I, F and E fields, over every width.
pub mod Scanning
pub mod Grammar
pub mod GrammarF
pub mod GrammarE
pub mod Unique
pub mod Fits
pub mod Leads
pub mod Text
pub mod Storing
