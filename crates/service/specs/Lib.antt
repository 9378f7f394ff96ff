-- What the service program reads of bytes in hexadecimal, and what it prints.
pub mod Reading
pub mod Printing
