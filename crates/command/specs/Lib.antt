-- What each command answers, changes and asks for.
pub mod Queries
pub mod Judging
pub mod Phases
pub mod Obeying
