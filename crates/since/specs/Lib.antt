-- R330 to R337: the first record from a given date on: over the whole walk (Since), when each answer is due (Due) and its reply (Numbered); what
-- it rests on (Kept); and a step of the walk (Steps).
pub mod Since
pub mod Steps
pub mod Due
pub mod Numbered
pub mod Kept
