-- The laws of form's definitions.
pub mod Table
pub mod Rounding
pub mod Counted
pub mod Rows
pub mod Segments
