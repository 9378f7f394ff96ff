-- A visit in the program; a tick by its cases; what a tick's callees ask.
pub mod Visiting
pub mod Ticking
pub mod Readiness
