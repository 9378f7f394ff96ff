-- The pump's answers, letter by letter.
pub mod Letters
pub mod Replies
pub mod Answers
