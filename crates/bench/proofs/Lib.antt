-- What the program knows of its input, and of what it has written.
pub mod Known
pub mod Inputs
pub mod Reading
