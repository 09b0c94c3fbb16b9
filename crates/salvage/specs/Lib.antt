-- What is written on both outputs (Written).
pub mod Written
