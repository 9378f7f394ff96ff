-- The marked figures.
pub mod Rows
pub mod Figures
