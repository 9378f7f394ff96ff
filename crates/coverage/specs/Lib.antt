-- The calls that a script makes, and what is read off their events.
pub mod Calls
pub mod Telling
