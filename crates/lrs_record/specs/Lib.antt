pub mod Writes
pub mod Entries
pub mod Reading
