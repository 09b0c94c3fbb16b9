-- The laws of what C asks under and is told, and one outcome of each exported function.
pub mod Flagging
pub mod Telling
pub mod OneOutcome
