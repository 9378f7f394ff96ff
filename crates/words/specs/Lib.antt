-- The functions with their data, the phase record, the commands, what a declined one is answered, and how words
-- are spelled.
pub mod Functions
pub mod Phases
pub mod Commands
pub mod Answers
pub mod Spelling
