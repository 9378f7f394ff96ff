-- Laws and theorems: Theorems says what a caller may rely on, Functions, Lengths and Buffers have the laws under it, and Examples holds
-- the definitions to answers of the document.
pub mod Functions
pub mod Lengths
pub mod Buffers
pub mod Theorems
pub mod Examples
