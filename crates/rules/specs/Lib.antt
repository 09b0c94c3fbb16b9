-- R12: the rules, as a value that definitions take first, and how a caller chooses them.
pub mod Choice
