-- The marked figures hold.
pub mod Leaps
pub mod Entries
pub mod Doses
pub mod Holding
