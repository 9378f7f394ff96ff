-- Whether the pump listens to lines or to packets, and what it hears.
pub mod Link
pub mod Streams
