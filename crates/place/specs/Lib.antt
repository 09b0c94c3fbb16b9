-- Records in a text: the two index lines (Index: R21 to R23), what placing answers (Placing: R250 to R253), where each group's lines are
-- (Parts: R20, R27), the records one after another from the text's start (Walk: R254), and each answer's number with the numbers beside it
-- (Numbered: R200 to R207). Due says when each reply is due, as a statement (R233).
pub mod Index
pub mod Placing
pub mod Parts
pub mod Walk
pub mod Numbered
pub mod Due
-- R259: what is read by the places that a record carries
pub mod Parted
-- R256, R257: what bytes that are added at a text's end leave as it was
pub mod Growth
-- R9: answers that are the same but for the next place
pub mod Alike
-- R380, R382: record S, and S twice
pub mod RecordS
