-- A script played to a pump. Effects: what its items do to the pump and print. The rest is how the bench program does it, a byte at a
-- time: what is printed, what each act does to the pump, and the whole of a script.
pub mod Printing
pub mod Elapsing
pub mod Rigs
pub mod Effects
pub mod Scripts
