-- R13, R40 to R48, the ten forms: their table (Table), and what a group's count comes to by it (Count).
pub mod Table
pub mod Count
