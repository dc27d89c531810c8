pub mod Firsts
pub mod Changes
pub mod Ahead
