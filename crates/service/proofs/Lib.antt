-- Laws of what the service program reads and prints.
pub mod Digits
pub mod Held
pub mod Lines
pub mod Hexadecimal
