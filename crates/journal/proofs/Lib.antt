-- The laws of the edit journal, a file to a subject.
pub mod Spots
pub mod Restore
pub mod Places
pub mod Walking
pub mod Playing
pub mod Answers
pub mod Held
pub mod Text
pub mod Replays
pub mod Order
pub mod Small
pub mod Made
pub mod Torn
pub mod Reopened
pub mod Numbered
pub mod Due
pub mod SameCounting
