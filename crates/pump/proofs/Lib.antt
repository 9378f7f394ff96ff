-- Laws of the pump: those that crates above cite, and those of its own proofs.
pub mod Kept
pub mod Renewing
pub mod Running
pub mod Alarms
mod Turning
mod Phases
mod Holding
mod Hearing
pub mod Calling
mod Arrivals
