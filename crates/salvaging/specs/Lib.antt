-- R350 to R357, getting past a ruined index: where the stretch ends that begins at a place (Stretch), when each answer of that question is due
-- (Due), and its rows (Numbered); what is copied of a text and what is left out (Pieces), that this covers the text and loses nothing that is
-- placed (Cover), that damage to an index stays with its record (Confined), and how the program goes through the
-- pieces (Printed).
pub mod Stretch
pub mod Due
pub mod Numbered
pub mod Pieces
pub mod Cover
pub mod Confined
pub mod Printed
