-- The three demands, D1 to D3, each sentence above what it says of the questions' definitions; what one outcome of a contract is (R421;
-- Outcome); the replies in figures (R200 to R217 and R222; Numbers); what the rules for line ends promise of one another (R9, R12; Ends),
-- what the count rule does (R13; Entries), and what stays of a text that grows (R256 to R258; Growth). proofs/ has a theorem for each.
pub mod Demand1
pub mod Demand2
pub mod Demand3
pub mod Ends
pub mod Entries
pub mod Growth
pub mod Outcome
pub mod Numbers
