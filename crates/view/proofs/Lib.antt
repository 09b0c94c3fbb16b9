-- The laws of view's definitions, and a law of code that takes a view apart and asks with its text and its record (Walk, Asked).
pub mod Found
pub mod Due
pub mod Numbered
pub mod Placed
pub mod Walk
pub mod Asked
pub mod OneOutcome
