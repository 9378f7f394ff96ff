-- Laws of the open loops.
pub mod Places
pub mod Soundness
pub mod Kept
