-- The laws of rewriting's definitions, a file to a subject: a record all of whose groups read with 0 (Whole), and why a table as long as the
-- output serves (Cells); when each answer is given (Due), by what led to it (Steps), and what it leaves (Promises); what the program prints
-- (Printing), and that canonical text is printed as itself (Canonical); what an answer rests on (Rests), so texts whose
-- lines have the same contents (Alike) and one that still grows (Growth); what is rewritten under the strict rule (Ends).
pub mod Alike
pub mod Canonical
pub mod Cells
pub mod Due
pub mod Ends
pub mod Growth
pub mod Printing
pub mod Promises
pub mod Rests
pub mod Steps
pub mod Whole
