-- The laws of getting past a ruined index: where a stretch ends (Stretches), how a place is tried (Trying) and the next one sought (Seeking), when
-- each answer is given (Due); the pieces of a text (Pieces), that they cover it (Covered), that the copy stays (Copies), that what stands behind
-- other bytes is salvaged as by itself (Moved), and a ruined record alone is lost (Confined), such as one S of two (RuinedS); how the program goes through them (Printing).
pub mod Stretches
pub mod Trying
pub mod Seeking
pub mod Due
pub mod Pieces
pub mod Covered
pub mod Copies
pub mod Moved
pub mod Confined
pub mod RuinedS
pub mod Printing
