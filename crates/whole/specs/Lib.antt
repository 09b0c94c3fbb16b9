-- R271 to R277: a whole record in one call: its groups asked for in turn (Turn), what the call answers (Whole), when each answer is due (Due) and
-- its reply (Numbered); that it is equal to asking in turn (InTurn); and in a text that was damaged or grows (Kept).
pub mod Turn
pub mod Whole
pub mod Due
pub mod Numbered
pub mod InTurn
pub mod Kept
