-- The observer's books, condition 3, which is said of them, and what is sent to a pump, for examples.
pub mod Terms
pub mod Wire
pub mod Books
pub mod Condition
pub mod Stored
pub mod Sending
