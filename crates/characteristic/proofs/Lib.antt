-- The laws of characteristic's definitions.
pub mod NoReading
