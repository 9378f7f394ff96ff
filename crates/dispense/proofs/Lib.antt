-- Laws that crates above cite.
pub mod Counting
pub mod Visiting
