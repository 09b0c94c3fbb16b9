-- Reading the lines of a group under its record's counts: what a line may hold and how it is filled with blanks (Blanks: R62 to R65), which
-- elements stand in which line (Plan: R44, R45, R60), what the lines of a group read as (Read: R260 to R269). Numbered gives each answer's
-- number with the numbers beside it (R200 to R212). In plain words: where each element stands and which cells it fills (Values: R45, R46,
-- R61, R66), and when each reply is due (Due: R233).
pub mod Blanks
pub mod Plan
pub mod Read
pub mod Numbered
pub mod Values
pub mod Due
