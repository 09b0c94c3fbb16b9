-- Questions asked with a record: what is answered (With: R285 to R287, R297), which replies there are (Numbered),
-- when each reply is due (Due: R233), and what holds of 22 and of
-- records that were placed (Placed: R286 to R288).
pub mod With
pub mod Numbered
pub mod Due
pub mod Placed
