-- The laws of replies and their rows.
pub mod Replies
