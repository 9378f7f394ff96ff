-- The pump: the device, the holder of the phases, and the calls.
pub mod Device
pub mod Arriving
pub mod Elapsing
pub mod Holder
pub mod Reports
pub mod Going
pub mod Calls
