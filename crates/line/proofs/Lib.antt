-- The laws of lines: how many there are (Feeds), how far they reach (Reach), exactly so many (Whole), the place behind them told by
-- its bytes (Last), in pieces (Pieces), texts with their lines at the same places (Texts), the answers of this crate (Places, Parts, Contents).
-- The rules for line ends against one another (Ends), and texts whose lines have the same contents (Alike).
pub mod Alike
pub mod Contents
pub mod Ends
pub mod Feeds
pub mod Last
pub mod Parts
pub mod Pieces
pub mod Places
pub mod Reach
pub mod Texts
pub mod Whole
