pub mod Ascending
pub mod Changing
pub mod Searches
