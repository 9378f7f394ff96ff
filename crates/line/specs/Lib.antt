-- A line from the host: its characters, its address, its name and argument, the command that it asks for, and what it asks of the link.
pub mod Characters
pub mod Addresses
pub mod Spelling
pub mod Names
pub mod Arguments
pub mod Functions
pub mod Commands
pub mod Lines
pub mod Requests
pub mod Collected
pub mod Sendable
