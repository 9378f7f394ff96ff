-- What a rate phase dispenses.
pub mod Rates
pub mod Visits
pub mod Ledgers
