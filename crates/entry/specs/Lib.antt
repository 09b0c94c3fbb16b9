-- R520 to R524: numbers and cells as bytes (Bytes), and a field of the edit journal: what is written for an entry, and what is read (Field),
-- both ways (Codec).
pub mod Bytes
pub mod Field
pub mod Codec
