-- The script that the bench program reads. Items: what an input says, line by line. The rest is how it is read, a byte at a time: the
-- items' numbers, and where in a line the input stands.
pub mod Numbers
pub mod Places
pub mod Items
