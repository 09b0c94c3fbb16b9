-- The laws of the first record from a date on, a file to a subject: the date of a record (Dates), the walk record by record (Walked) and a step of
-- it (Steps); when each answer is given (Due) and its numbers (Promises); what an answer rests on (Rests), and so in texts that are cut, grow, end
-- their lines otherwise or were damaged (Kept).
pub mod Dates
pub mod Walked
pub mod Steps
pub mod Due
pub mod Promises
pub mod Rests
pub mod Kept
