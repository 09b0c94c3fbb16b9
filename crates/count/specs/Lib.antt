-- 80 counts: what they say of a record's lines and cells (Tally: R20, R22, R28, R47), the rules on them (Rules: R24, R25, R120 to R128),
-- who is blamed where one is broken, as a statement (Blame), the checks that are made of counts alone, and of counts and a table's length,
-- before they are used (Check: R302), when each answer is due (Due: R233), and which refusals there are (Numbered: R204 to R207, R214).
pub mod Tally
pub mod Rules
pub mod Blame
pub mod Check
pub mod Due
pub mod Numbered
