-- R2 to R9, the lines of a text.
-- Lines has R2 and R3, as two total questions: how many lines there are, and how many bytes the first k of them take; and R7. Places asks
-- both from a place of a text (R6), Parts whether a part of a text is exactly so many of its lines (R2, R7). Contents has R4, R5 and R9: reading
-- knows the carriage return and the rule for line ends from it alone.
-- Texts says when two texts have their lines at the same places (R8), Alike when their lines have the same contents.
pub mod Alike
pub mod Contents
pub mod Lines
pub mod Parts
pub mod Places
pub mod Texts
