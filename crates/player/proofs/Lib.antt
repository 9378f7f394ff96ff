-- Laws of what is played and printed, and that the table over bytes says what the lines of an input say.
pub mod Decimals
pub mod Prints
pub mod Answers
pub mod Acting
pub mod Done
pub mod Going
pub mod Playing
pub mod Onward
pub mod Texts
pub mod Itemised
