-- The three demands, what the rules promise and what growth keeps, proved from the layers' laws, and one outcome of each question.
pub mod Demand1
pub mod Demand2
pub mod Demand3
pub mod Ends
pub mod Entries
pub mod Growth
pub mod OneOutcome
pub mod Numbers
pub mod Answers
