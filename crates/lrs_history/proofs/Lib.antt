pub mod Room
pub mod Outcomes
pub mod Strangers
