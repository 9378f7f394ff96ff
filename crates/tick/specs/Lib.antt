-- What a tick does: entering a phase, working an entered one, the whole.
pub mod Entering
pub mod Working
pub mod Ticks
