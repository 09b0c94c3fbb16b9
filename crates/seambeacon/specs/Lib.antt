-- R365, R360 to R363: which rules a number of flags stands for (Flags), how an answer is given to C in numbers alone (Numbers), and each
-- question's reply (Replies).
pub mod Flags
pub mod Numbers
pub mod Replies
