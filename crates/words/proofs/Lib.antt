-- Laws that crates above cite.
pub mod Data
pub mod Names
