pub mod Judged
pub mod Held
pub mod Naming
pub mod Together
pub mod Walked
pub mod Unused
pub mod Handed
