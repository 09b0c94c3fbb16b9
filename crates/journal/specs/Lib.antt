-- R500 to R550, the edit journal: where a cell stands in the table (Layout), the calls and what they mean, a plain stack of whole tables
-- (Model), the journal's entries, the savepoints open behind them and what they give back (Entries), its fields one after the other (Walks),
-- what each call replies and leaves (Calls), replay (Plays), the same order of fields said plainly (Order), which replies there are (Numbered),
-- calls one after the other (Runs), and when each answer is due (Due).
pub mod Layout
pub mod Model
pub mod Entries
pub mod Walks
pub mod Calls
pub mod Plays
pub mod Order
pub mod Numbered
pub mod Runs
pub mod Due
