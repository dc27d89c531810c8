pub mod Added
pub mod Appending
pub mod Authorities
pub mod Joined
pub mod Plain
