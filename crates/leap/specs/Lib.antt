-- Many ticks, one after the other and at once: what a leap promises; strides; visits and pauses leapt over; what is reported.
pub mod Leaps
pub mod Strides
pub mod Visits
pub mod Pauses
pub mod Reports
