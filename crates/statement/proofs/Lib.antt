-- Theorems on every history of calls.
pub mod Clauses
pub mod Links
pub mod Soundness
pub mod Placing
pub mod Wholes
pub mod Refusals
pub mod Raising
pub mod Hearing
pub mod Doing
pub mod Outcomes
pub mod Always
pub mod Events
pub mod Joining
pub mod Many
pub mod Singly
pub mod Safe
