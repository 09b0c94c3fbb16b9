-- Words that are the same (Same). What was read into a space (Reading). Bytes of which a front part was written, and a page's first bytes (Fronts).
pub mod Same
mod Reading
pub mod Fronts
