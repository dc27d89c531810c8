pub mod Disk
pub mod Door
pub mod Faults
pub mod Lobby
pub mod Readings
pub mod Shelf
