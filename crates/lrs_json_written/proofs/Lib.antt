pub mod Fitted
pub mod Distinct
pub mod Strings
pub mod Readings
pub mod Objects
