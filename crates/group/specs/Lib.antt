-- A group of the record at a place of a text: whether its lines can be given, and where they stand (Held: R280 to R284); what it reads as
-- (Text: R260 to R269); a characteristic, which is a cell of group 4 (Characteristics: R290 to R294); which replies there are
-- (Numbered: R281, R290, R294); when each is due (Due: R233);
-- answers that are the same (Answers); the third demand, that damage stays in the groups where it is (Damage: D3, R270); what is left as it was by
-- bytes that are added at the text's end (Growth: R258).
pub mod Held
pub mod Text
pub mod Characteristics
pub mod Numbered
pub mod Due
pub mod Answers
pub mod Damage
pub mod Growth
-- R9: the same answers under two rules
pub mod Ends
