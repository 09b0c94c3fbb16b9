-- The laws of reading a whole record, a file to a subject: groups in turn (Turns), the two passes over them (Passes), what a placed record carries
-- (Placed), the answers by what led to them (Steps); when each is given (Due), that it is equal to asking in turn (InTurn), what is promised of
-- it (Promises), what it rests on (Rests), and so in a text that was damaged or grows (Kept), in texts whose lines have the same contents
-- (Alike), and under the strict rule (Ends).
pub mod Turns
pub mod Passes
pub mod Placed
pub mod Steps
pub mod Due
pub mod InTurn
pub mod Promises
pub mod Rests
pub mod Kept
pub mod Alike
pub mod Ends
