pub mod Batches
mod Built
pub mod Choices
pub mod Lawful
pub mod Lengths
pub mod Spelled
