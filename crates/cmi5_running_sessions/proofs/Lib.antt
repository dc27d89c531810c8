pub mod Altering
pub mod Counting
pub mod Hearing
pub mod Making
pub mod Standing
pub mod Viewing
