pub mod Pairs
pub mod Values
pub mod Parameters
pub mod Queries
pub mod Wants
pub mod Links
pub mod Documents
