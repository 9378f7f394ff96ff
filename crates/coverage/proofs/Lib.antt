-- What the bench program does is a history of calls, whose events tell all that it prints.
pub mod Playing
pub mod Portions
pub mod Telling
pub mod Output
