pub mod Durations
pub mod Escapes
pub mod LongerIris
pub mod FirstBytes
pub mod Unbroken
