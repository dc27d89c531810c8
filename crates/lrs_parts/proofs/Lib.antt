pub mod Counting
pub mod Ahead
pub mod Events
pub mod Voided
pub mod Arrivals
pub mod Enrolling
pub mod Kept
pub mod Readied
