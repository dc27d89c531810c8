pub mod Filled
pub mod Walks
pub mod Keyed
pub mod Ahead
pub mod Back
pub mod Listed
pub mod NameIndices
