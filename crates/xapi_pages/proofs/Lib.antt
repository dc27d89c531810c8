pub mod Walks
pub mod References
pub mod Ways
pub mod Fronts
pub mod Nexts
pub mod Covering
pub mod Bodies
pub mod Counts
