-- The open loops.
pub mod Loops
