-- Writing a record, R300 to R307: the text that is written for counts and cells (Text), what canonical text is (R100 to R110; Canonical),
-- whether all cells have a field (Fitting), what writing answers and leaves (Writing), which replies there are (Numbered),
-- when each is due (Due), and that what was written
-- reads back and what was read is written again (D2.4, D2.5; RoundTrip). Cases has the marked cases (R401 to R410).
pub mod Text
pub mod Canonical
pub mod Fitting
pub mod Writing
pub mod Numbered
pub mod Due
pub mod RoundTrip
pub mod Cases
