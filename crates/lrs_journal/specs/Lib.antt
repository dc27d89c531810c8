pub mod Store
pub mod Builder
pub mod Replay
pub mod Steps
pub mod Journal
pub mod Create
