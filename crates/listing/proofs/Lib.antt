-- The laws of the listing: groups with a count and the groups that replies name (Groups), the lines from a record on (Lines),
-- the answer's reply (Replies), how long a listing is (Bound), and that of S twice (TwiceS).
pub mod Groups
pub mod Lines
pub mod Replies
pub mod Bound
pub mod TwiceS
