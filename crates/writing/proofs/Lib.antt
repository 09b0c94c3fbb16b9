-- The laws of record's definitions, a file to a subject: when all cells fit (Fitting), and how long the texts are (Lengths); the two
-- passes of writing (Checking, Putting), the letters of group 3 (Letters), each answer (Steps), what is promised of them (Promises), and when
-- each is due (Misfits, Due); a canonical group (CanonicalGroups), index (CanonicalIndex) and record (Canonical), and where it stands in a text
-- (Standing) with each group's own cells (GroupCells); that what is written is canonical (Written). What reply 0 of
-- writing says (Done). What was written reads back (ReadsBack); what reads fits (ReadFits), and what was read is written again
-- (ReadWrites). A canonical record under any two rules for line ends (Ends). Record S (Instance) and the marked cases (Cases).
pub mod Rows
pub mod Fitting
pub mod Lengths
pub mod Checking
pub mod Split
pub mod Putting
pub mod Letters
pub mod Steps
pub mod Promises
pub mod Misfits
pub mod Due
pub mod CanonicalGroups
pub mod CanonicalIndex
pub mod Canonical
pub mod GroupCells
pub mod Standing
pub mod Written
pub mod Done
pub mod ReadsBack
pub mod ReadFits
pub mod ReadWrites
pub mod Ends
pub mod Instance
pub mod Cases
pub mod SameCounting
