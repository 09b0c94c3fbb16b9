-- The replies: how one is told in numbers, and which a question's table has (Table: R230, R231); what each refusal is told as, and the rows
-- that questions share (Refusals: R200 to R217 and R222).
pub mod Table
pub mod Refusals
