-- R320 to R326: rewriting a record at a place of a text (Record), when each answer is due (Due), and each as a reply (Numbered). R345 to R348:
-- what the rewriting program prints (Printed), and the texts that it leaves as they are (Canonical). R9: answers that are the same but for the
-- next place (Alike). R258: rewriting in a text that still grows (Growth).
pub mod Record
pub mod Due
pub mod Numbered
pub mod Printed
pub mod Canonical
pub mod Alike
pub mod Growth
