-- The laws of the definitions, a file to a subject: a field's number digit by digit (Numbers) and as a statement on the text (Grammar); the
-- lengths of months (Months) and the code's formula for the days to a month's end (Twelfths), the days of a year (Days) and the calendar by
-- counting (Counting); who of several is blamed (Blame), in the letters of group 3 (Due) and in a date that is asked for (Asked); the order of
-- dates (Order).
pub mod Numbers
pub mod Grammar
pub mod Months
pub mod Twelfths
pub mod Days
pub mod Counting
pub mod Blame
pub mod Due
pub mod Asked
pub mod Order
