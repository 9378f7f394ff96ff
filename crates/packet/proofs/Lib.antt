-- Laws and theorems of packets.
pub mod Steps
pub mod Ticking
pub mod Framing
pub mod Judging
pub mod Following
pub mod Leading
pub mod Damage
pub mod Holding
pub mod Waiting
pub mod Kept
pub mod Theorems
pub mod Rows
