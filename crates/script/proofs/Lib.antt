-- Laws of the script: what its numbers and bytes ask for, the first line of an input, what the parts of a line say, and examples that
-- hold the definitions to the document.
pub mod Asking
pub mod Letters
pub mod Standing
pub mod Deeds
pub mod Saturating
pub mod Cuts
pub mod Parts
pub mod Examples
