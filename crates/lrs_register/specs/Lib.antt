pub mod Slots
pub mod Register
pub mod Changes
