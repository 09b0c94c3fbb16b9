-- R349: the words that a program is started with (Words). What an error of reading or writing leaves (Written).
pub mod Words
pub mod Written
