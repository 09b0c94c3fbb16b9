-- R140 to R148, the date: what a digit field reads as (Digits), what a day of a year is (Calendar), and what group 3's letters tell
-- (Date), as a statement too (Due); R331, R332: a date that is asked for (Asked), and which of two dates is the later (Order).
pub mod Digits
pub mod Calendar
pub mod Date
pub mod Asked
pub mod Due
pub mod Order
