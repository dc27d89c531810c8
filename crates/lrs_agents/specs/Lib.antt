pub mod Agents
pub mod Identifiers
pub mod Readings
