-- Laws that crates above cite, and the crate's theorems.
pub mod Characters
pub mod Addressing
pub mod Leading
pub mod Letters
pub mod Naming
pub mod Calling
pub mod Asking
pub mod Behind
pub mod Collecting
pub mod Sent
pub mod Requesting
pub mod ReadBack
pub mod Theorems
pub mod Examples
