-- That a sound core stays sound.
pub mod Runs
pub mod Visits
pub mod Entering
pub mod Working
pub mod Cores
pub mod Ticks
pub mod Control
pub mod Edges
pub mod Settings
pub mod Commands
