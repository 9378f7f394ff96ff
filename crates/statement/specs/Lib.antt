-- What the theorems of this crate speak of.
pub mod Facts
pub mod Histories
pub mod Outcomes
pub mod Many
pub mod Safe
