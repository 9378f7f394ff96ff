-- Laws of the link that crates above cite.
pub mod Timers
pub mod Modes
pub mod Soundness
pub mod Theorems
pub mod Hearing
