-- The numbers of a stride; a visit after a stride, and as it is tried; a leap and a hop are that many ticks.
pub mod Striding
pub mod Visiting
pub mod Trying
pub mod Resting
pub mod Leaping
pub mod Hopping
